-- The counts stay at most the number of forms read.
use borrow.Author.Rules.{rules}
use native.Mathlib.Omega.{arith}
use Rattle.plan.proofs.Passes.{small_more, limits_step}
use Rattle.plan.proofs.check_limits.Goals as goal

pub loop-i-preserved : goal.loop-i-preserved
loop-i-preserved c = (search (small_more, rules), grind (arith, limits_step))
