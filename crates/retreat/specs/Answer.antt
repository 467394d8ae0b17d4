-- What the call asks and what it answers: whatever cycle of a plan's pairs the tables are paths to, the entries are a schedule of the plan.
use Rattle.std.specs.Prelude.{ℕ, ◌^◌, ◌<◌, ◌≤◌, List, ◌≢◌, ◌≡◌, length, get_or}
use Rattle.limits.specs.Limits.{max_threads, max_entries}
use Rattle.laws.specs.Mask.{in_mask}
use Rattle.laws.specs.Wrote.{Wrote}
use Rattle.semantics.specs.Plan.{LockPlan, thread_proc, Ranks, body_in}
use Rattle.semantics.specs.Run.{initial}
use Rattle.semantics.specs.Sizes.{size_of}
use Rattle.semantics.specs.Stuck.{Schedule}
use Rattle.semantics.specs.Pairs.{wanted_of}
use Rattle.semantics.specs.Cycle.{Cycle}
use Rattle.semantics.specs.StuckRounds.{first_wanted}
use Rattle.semantics.specs.Paths.{Finds}
use Rattle.retreat.specs.declared.Targets.{Targets}
use Rattle.retreat.specs.declared.Outcome.{Outcome}
use Rattle.retreat.specs.Paths.{path_of, InRows}

-- the tables have room for each thread. Kept, though they are arrays: `PathsPrepared` (targets) says it
pub record TargetsFull (t : Targets) : Type 0 where
  pub positions-full : max_threads ≡ length t.positions
  pub begins-full : max_threads ≡ length t.begins
  pub wanted-full : max_threads ≡ length t.wanted

-- the tables are full, and the paths are within the rows
pub record TargetsFit (choices rows : List ℕ) (t : Targets) : Type 0 where
  pub paths : max_entries ≤ length rows
  pub turns : max_entries ≤ length choices
  pub few : t.threads ≤ max_threads
  pub full : TargetsFull t
  pub in_rows : InRows t.positions t.threads

-- The tables are right for the plan, within rule 12, and a cycle of k of its threads, member i with its pair: the columns and positions have a path to the
-- hold of each member's pair and none for the other threads, `begins` the claim that each thread's block begins with, and `wanted` what each
-- thread wants at its path's end.
pub record Right (plan : LockPlan) (vss : List (List ℕ)) (k : ℕ) (thread pair : ℕ → ℕ) (choices rows : List ℕ) (t : Targets) : Type 0 where
  pub all : t.threads ≡ length plan.threads
  pub ranks : Ranks plan.procs
  pub cycle : Cycle vss k thread pair
  pub present : (i : ℕ) → i < k → thread i < t.threads
  pub path : (i : ℕ) → i < k → Finds plan.procs (initial plan.procs (thread_proc plan (thread i))) (pair i) (path_of choices rows t.positions (thread i))
  pub short : (i : ℕ) → i < k → get_or t.positions (thread i) 0 ≤ size_of plan.procs (thread_proc plan (thread i))
  pub wants : (i : ℕ) → i < k → get_or t.wanted (thread i) 0 ≡ 2 ^ wanted_of (pair i)
  pub others : (u : ℕ) → u < t.threads → ((i : ℕ) → i < k → thread i ≢ u) → (get_or t.positions u 0 ≡ 0) × (get_or t.wanted u 0 ≡ get_or t.begins u 0)
  pub begins_with : (u : ℕ) → u < t.threads → get_or t.begins u 0 ≡ first_wanted (body_in plan.procs (thread_proc plan u))

-- The entries written are a schedule of every plan that the tables are right for, with the largest stuck set at its end; the rest of the buffer is kept.
pub record Scheduled (choices rows : List ℕ) (t : Targets) (before : List ℕ) (o : Outcome) (after : List ℕ) : Type 0 where
  pub entries : List ℕ
  pub schedule : (plan : LockPlan) (vss : List (List ℕ)) (k : ℕ) (thread pair : ℕ → ℕ) → Right plan vss k thread pair choices rows t → Schedule plan entries (in_mask o.stuck)
  pub wrote : Wrote before after 0 o.entries entries
