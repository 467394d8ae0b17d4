-- What rule 5 says of the forms that are left is what it says of all. The counts stay at most the number of forms read.
use mathlib.Core.Path.{◌≡◌}
use Rattle.plan.specs.Limits.{Small, no_counts}
use Rattle.plan.proofs.Passes.{limits_from}
use Rattle.plan.proofs.check_limits.Given as goal

abbrev pub invariant-loop-i : goal.invariant-loop-i
invariant-loop-i l = Small l.c l.i × (limits_from l.table l.c l.i ≡ limits_from l.table no_counts 0)
