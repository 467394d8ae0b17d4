-- The test of the mask says whether a procedure is idle.
use borrow.Author.Rules.{rules}
use Rattle.plan.specs.Rules.{idle}
use Rattle.idle.proofs.IdleProcs.{idles, idle_tested}
use Rattle.idle.proofs.check_idle.Goals as goal

pub returns : goal.returns
unfolding idle
returns c = c.refuse_lowest.ensures (idles c.args.table.now) (λ p r h a. search (idle_tested, rules))
