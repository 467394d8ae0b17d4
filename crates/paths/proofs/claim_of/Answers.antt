-- The claim of the form, if it is below 64.
use Rattle.std.proofs.Common.{rules}
use Rattle.paths.proofs.Blocks.{claim-hold, claim-share, claim-none}
use Rattle.paths.proofs.claim_of.Goals as goal
use Rattle.paths.proofs.claim_of.Goals.{in-Hold, in-Share}

pub returns-in_default : goal.returns-in_default
returns-in_default c = claim-none _ c.in_default.not-Hold c.in_default.not-Share

pub returns : goal.returns
returns c = elim c.match-form.branch [ in-Hold w ↦ search (claim-hold, rules) | in-Share w ↦ search (claim-share, rules) ]
