-- The form at the place is the first of the procedure's block.
use Rattle.std.proofs.Common.{rules}
use Rattle.paths.proofs.Wanted.{wanted-ended, wanted-claim, wanted-other}
use Rattle.paths.proofs.first_hold.Goals as goal

pub returns-in_default : goal.returns-in_default
returns-in_default c = search (wanted-ended, rules)

pub returns-in-Some-claim_of : goal.returns-in-Some-claim_of
returns-in-Some-claim_of c = wanted-claim _ _ _ c.in-Some.ensures.lookup.3 c.form_at.ensures _ _ c.in-Some-claim_of.ensures.1 c.claim_bit.ensures

pub returns-in-None : goal.returns-in-None
returns-in-None c = wanted-other _ _ _ c.in-Some.ensures.lookup.3 c.form_at.ensures c.in-None.ensures
