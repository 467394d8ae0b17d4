-- What a verdict says of a plan, by the cases of the answer, and what it leaves in the buffer: of all runs of the plan's gateway, one claim. 01, "Pairs, verdict, schedule", "How a gateway steps".
use Rattle.std.specs.Prelude.{ℕ, List, [], ◌≡◌, length, take, Result, Ok, Err}
use Rattle.std.proofs.Math.Option.{Option, none, some}
use Rattle.laws.specs.Mask.{in_mask}
use Rattle.laws.specs.Wrote.{filled}
use Rattle.semantics.specs.Plan.{LockPlan}
use Rattle.semantics.specs.Stuck.{DeadlockFree, Schedule}
use Rattle.text.specs.declared.Refusal.{Refusal}
use Rattle.answers.specs.declared.Verdict.{Verdict}
use Rattle.answers.specs.declared.Verdict.TheVariants.{Free, Deadlock}

-- "The verdict is free .. or deadlock, with the number of schedule entries .. and the largest stuck set at their end"; "A refusal returns its number and a line". What a
-- verdict says of a plan and its schedule, where `refused` is what the rules say. Without a deadlock the schedule has no entry. Left open is only which schedule:
-- `Schedule` says what holds of it
unfoldable pub Judgement : Option Refusal → LockPlan → Result Verdict Refusal → List ℕ → Type 0
Judgement refused plan (Err x) schedule = (refused ≡ some x) × (schedule ≡ [])
Judgement refused plan (Ok Free) schedule = (refused ≡ none) × (schedule ≡ []) × DeadlockFree plan.procs plan.threads
Judgement refused plan (Ok (Deadlock n S)) schedule = (refused ≡ none) × (length schedule ≡ n) × Schedule plan schedule (in_mask S)

-- how many entries a verdict's schedule has
unfoldable pub schedule_length : Result Verdict Refusal → ℕ
schedule_length (Ok Free) = 0
schedule_length (Ok (Deadlock n S)) = n
schedule_length (Err x) = 0

-- the schedule, where it stands at the start of the entries
unfoldable pub schedule_in : Result Verdict Refusal → List ℕ → List ℕ
schedule_in v entries = take (schedule_length v) entries

-- the verdict with a buffer of entries: "schedule entries, which fill the buffer's start (the rest kept)"
pub record Judges (refused : Option Refusal) (plan : LockPlan) (before : List ℕ) (r : Result Verdict Refusal) (after : List ℕ) : Type 0 where
  pub schedule : List ℕ
  pub judged : Judgement refused plan r schedule
  pub buffer : after ≡ filled schedule before
