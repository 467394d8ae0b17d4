-- The first form that breaks the rule is the one that it names.
use Rattle.plan.proofs.Passes.{breaking_found, breaking_none}
use Rattle.plan.proofs.check_numbers.Goals as goal

pub returns-in-Some : goal.returns-in-Some
returns-in-Some c = breaking_found _ _ _ _ c.requires.1 _ c.in-Some.ensures

pub returns-in-None : goal.returns-in-None
returns-in-None c = breaking_none _ _ _ _ c.requires.1 c.in-None.ensures
