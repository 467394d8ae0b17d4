-- By whether the thread has stepped; then the machine's test is that of the definition.
use Rattle.std.proofs.Common.{rules}
use Rattle.retreat.proofs.HeldLocks.{within-at}
use Rattle.retreat.proofs.StepBack.{back_none, back-test}
use Rattle.retreat.proofs.Threads.can_go_back.Goals as goal

pub returns-else-j-gt0 : goal.returns-else-j-gt0
returns-else-j-gt0 c = search (back_none, rules)

pub mask_at-requires : goal.mask_at-requires
mask_at-requires c = search (within-at, rules)

pub returns-then-j-gt0 : goal.returns-then-j-gt0
returns-then-j-gt0 c = search (back-test, rules)
