-- The entry of the last step of thread k, and its position one lower.
use Rattle.std.proofs.Common.{rules}
use Rattle.retreat.proofs.StepBack.{entry_back}
use Rattle.retreat.proofs.Threads.step_back.Goals as goal

pub returns : goal.returns
returns c = search (entry_back, rules)
