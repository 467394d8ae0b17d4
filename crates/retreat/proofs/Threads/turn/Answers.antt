-- The first thread that may go back does, and its entry stands in front; where none may, each lands and no entry is left.
use Rattle.std.proofs.Common.{rules}
use Rattle.retreat.proofs.HeldLocks.{within-at}
use Rattle.retreat.proofs.StepBack.{first-stepped, none-back, turned-step, turned_jump}
use Rattle.retreat.proofs.Threads.turn.Goals as goal

pub jump-requires : goal.jump-requires
jump-requires c = search (none-back, c.in_default.ensures, rules)

pub returns-in_default : goal.returns-in_default
returns-in_default c = search (turned_jump, rules)

pub step_back-requires : goal.step_back-requires
step_back-requires c = search (within-at, first-stepped, rules)

pub returns : goal.returns
returns c = search (turned-step, rules)
