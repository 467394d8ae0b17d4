-- What the procedure of the thread begins with.
use Rattle.targets.proofs.Threads.{begin_is}
use borrow.Author.Rules.{rules}
use Rattle.targets.proofs.Plan.begin_of.Goals as goal

pub returns : goal.returns
returns c = search (begin_is, rules)
