-- The test of a procedure's mask says whether it reaches itself.
use borrow.Author.Rules.{rules}
use Rattle.plan.specs.Rules.{recursive}
use Rattle.reach.proofs.RecursiveProcs.{recurs, recursion_tested}
use Rattle.reach.proofs.check_recursion.Goals as goal

pub returns : goal.returns
unfolding recursive
returns c = c.refuse_lowest.ensures (recurs c.args.table.now) (λ p r h a. search (recursion_tested, rules))
