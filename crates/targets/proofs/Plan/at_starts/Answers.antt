-- The threads below t are at their start.
use borrow.Author.Rules.{rules}
use Rattle.targets.proofs.Threads.{begins-none, begins-more, begins-done}
use Rattle.targets.proofs.Plan.at_starts.Goals as goal

pub loop-t-init : goal.loop-t-init
loop-t-init c = search (begins-none, rules)

pub loop-t-preserved : goal.loop-t-preserved
loop-t-preserved c = search (begins-more, rules)

pub returns : goal.returns
returns c = search (begins-done, rules)
