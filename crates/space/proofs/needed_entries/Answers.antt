-- The sum where the rules are kept, and else the refusal.
use Rattle.space.proofs.Needed.{needed-refused, needed-sum}
use borrow.Author.Rules.{rules}
use Rattle.space.proofs.needed_entries.Goals as goal

pub returns-in_err-plan : goal.returns-in_err-plan
returns-in_err-plan c = search (needed-refused, c.in_err-plan.ensures, rules)

pub returns : goal.returns
returns c = search (needed-sum, c.in_ok-plan.ensures, rules)
