-- The space that a schedule of a plan needs. 02, change 4: "`(size T S)` for each thread, then `(sum S)`".
use Rattle.std.specs.Prelude.{ℕ, ◌<◌, List, ◌≡◌, Result, length, get_or}
use Rattle.std.proofs.Math.Option.{Option}
use Rattle.limits.specs.Limits.{max_threads}
use Rattle.semantics.specs.Plan.{LockPlan}
use Rattle.semantics.specs.Sizes.{thread_size, thread_sizes}
use Rattle.text.specs.declared.Refusal.{Refusal}
use Rattle.plan.specs.Settled.{table_plan}
use Rattle.procs.specs.Ruled.{Ruled}
use Rattle.sizes.specs.declared.Space.{Space}

-- how many threads the plan has, the size of each, and (01) "the sum of its threads' sizes"
pub record SpaceOf (plan : LockPlan) (s : Space) : Type 0 where
  pub full : max_threads ≡ length s.each
  pub threads : s.threads ≡ length plan.threads
  pub each : (t : ℕ) → t < length plan.threads → get_or s.each t 0 ≡ thread_size plan t
  pub sum : s.sum ≡ thread_sizes plan

-- the answer over the table of a plan, where `refused` says whether and how it is refused, and a refusal names a form's number: of a plan that is not, the space
abbrev pub ChecksSizes : Option Refusal → List ℕ → Result Space Refusal → Type 0
ChecksSizes refused ws r = Ruled refused (SpaceOf (table_plan ws)) r
