-- A verdict's schedule has as many entries as the verdict says, and they stand at the start of a buffer that it fills.
use Prim.Native.Nat.{ℕ}
use mathlib.Core.List.{List}
use mathlib.Core.Option.{Option}
use mathlib.Core.Path.{◌≡◌, ap}
use lib.ListN.{length}
use lib.Seq.{take_at}
use Rattle.std.proofs.Common.{Result, Ok, Err}
use Rattle.laws.specs.Wrote.{filled}
use Rattle.semantics.specs.Plan.{LockPlan}
use Rattle.text.specs.declared.Refusal.{Refusal}
use Rattle.answers.specs.declared.Verdict.{Verdict}
use Rattle.answers.specs.declared.Verdict.TheVariants.{Free, Deadlock}
use Rattle.answers.specs.Judgement.{Judgement, schedule_length, schedule_in}

module _ (refused : Option Refusal) (plan : LockPlan) where
  pub as-long : (v : Result Verdict Refusal) (schedule : List ℕ) → Judgement refused plan v schedule → length schedule ≡ schedule_length v
  unfolding Judgement schedule_length
  as-long (Ok Free) schedule j = ap length j.1
  as-long (Ok (Deadlock n S)) schedule j = j.1
  as-long (Err x) schedule j = ap length j.1

  pub start-taken : (v : Result Verdict Refusal) (schedule before : List ℕ) → Judgement refused plan v schedule → schedule_in v (filled schedule before) ≡ schedule
  unfolding schedule_in
  start-taken v schedule before j = take_at schedule _ (schedule_length v) (as-long v schedule j)
