-- The procedure is in the table of threads.
use Rattle.targets.proofs.Threads.{proc-is, proc-present}
use borrow.Author.Rules.{rules}
use Rattle.targets.proofs.Plan.proc_of.Goals as goal

pub returns : goal.returns
returns c = search (proc-is, proc-present, rules)
