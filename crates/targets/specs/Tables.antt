-- The tables of a cycle's paths: what is asked for them, and what they are when the first members of the cycle are done.
use Rattle.std.specs.Prelude.{ℕ, ◌^◌, ◌<◌, ◌≤◌, ◌≢◌, ◌≡◌, length, get_or, set, take, drop}
use mathlib.Core.List.{List, map, Memᴰ}
use Rattle.std.proofs.Math.Option.{none}
use Rattle.limits.specs.Limits.{max_size}
use Rattle.semantics.specs.Plan.{thread_proc, body_in, Ranks}
use Rattle.semantics.specs.Run.{initial}
use Rattle.semantics.specs.Sizes.{size_of}
use Rattle.semantics.specs.Pairs.{wanted_of, pairs, pair_list}
use Rattle.semantics.specs.Cycle.{Cycle}
use Rattle.semantics.specs.StuckRounds.{first_wanted}
use Rattle.semantics.specs.Paths.{Finds}
use Rattle.plan.specs.Table.{table_forms}
use Rattle.plan.specs.Settled.{table_plan, PlanTable}
use Rattle.plan.specs.Rules.{too_large}
use Rattle.procs.specs.declared.Layout.{Layout}
use Rattle.procs.specs.Laid.{Laid}
use Rattle.candidates.specs.Candidates.{member_thread, member_pair}
use Rattle.retreat.specs.declared.Targets.{Targets}
use Rattle.retreat.specs.Paths.{row_start}
use Rattle.retreat.specs.Answer.{TargetsFull, TargetsFit, Right}

-- the pair lists of a plan's threads
abbrev pub pair_lists : List ℕ → List (List ℕ)
pair_lists ws = map (pair_list (table_plan ws).procs) (table_plan ws).threads

-- the procedure that thread t of a plan runs
unfoldable pub proc_of : List ℕ → ℕ → ℕ
proc_of ws t = thread_proc (table_plan ws) t

-- the claim, as a mask, that thread t of a plan begins with
unfoldable pub begin_of : List ℕ → ℕ → ℕ
begin_of ws t = first_wanted (body_in (table_plan ws).procs (proc_of ws t))

-- a plan's table within rules 12 and 9, with its layout
pub record LaidPlan (ws : List ℕ) (l : Layout) : Type 0 where
  pub plan : PlanTable ws
  pub laid : Laid ws l
  pub ranks : Ranks (table_plan ws).procs
  pub sized : too_large (table_forms ws) ≡ none

-- What is asked: a plan's table with its layout, and a cycle of k pairs of its threads as candidates, where `hs` are the masks of their pairs.
pub record CycleAsked (hs : List ℕ) (ws : List ℕ) (l : Layout) (chosen : List ℕ) (k : ℕ) : Type 0 where
  pub plan-laid : LaidPlan ws l
  pub cycle : Cycle (pair_lists ws) k (member_thread chosen) (member_pair hs chosen)
  pub room : k ≤ length chosen

-- What the tables are in the end: right for the cycle, and the paths within their rows.
pub record PathsPrepared (hs : List ℕ) (ws chosen : List ℕ) (k : ℕ) (choices rows : List ℕ) (r : Targets) : Type 0 where
  pub right : Right (table_plan ws) (pair_lists ws) k (member_thread chosen) (member_pair hs chosen) choices rows r
  pub fit : TargetsFit choices rows r

-- ---- on the way

-- the path of thread t among the steps of all: as many as `lens` says
unfoldable pub path_in : List ℕ → List ℕ → ℕ → List ℕ
path_in steps lens t = take (get_or lens t 0) (drop (row_start t) steps)

-- the first n entries are what the threads begin with
unfoldable pub BeginMasks : List ℕ → List ℕ → ℕ → Type 0
BeginMasks ws entries n = (t : ℕ) → t < n → get_or entries t 0 ≡ begin_of ws t

-- n threads at their start: no steps, and each wants what it begins with
pub record AtStarts (ws : List ℕ) (n : ℕ) (r : Targets) : Type 0 where
  pub all : r.threads ≡ n
  pub full : TargetsFull r
  pub still : (t : ℕ) → t < n → get_or r.positions t 0 ≡ 0
  pub begins_are : BeginMasks ws r.begins n
  pub wanted_are : BeginMasks ws r.wanted n

-- a thread of the plan, and one of the pairs of its procedure
pub record Target (ws : List ℕ) (n t pair : ℕ) : Type 0 where
  pub present : t < n
  pub member : Memᴰ pair (pairs (length (table_plan ws).procs) (table_plan ws).procs (proc_of ws t))

-- A path of r steps of thread t to a pair is in its row of the table, and the other rows are as they were.
pub record RowWritten (ws : List ℕ) (t pair : ℕ) (before : List ℕ) (r : ℕ) (after : List ℕ) : Type 0 where
  pub finds : Finds (table_plan ws).procs (initial (table_plan ws).procs (proc_of ws t)) pair (take r (drop (row_start t) after))
  pub short : r ≤ size_of (table_plan ws).procs (proc_of ws t)
  pub others : (u m : ℕ) → u ≢ t → m ≤ max_size → take m (drop (row_start u) after) ≡ take m (drop (row_start u) before)

-- The path, its length and the wanted claim of thread t are put into the tables.
pub record MemberPut (ws : List ℕ) (t pair : ℕ) (s : Targets) (steps : List ℕ) (s' : Targets) (steps' : List ℕ) : Type 0 where
  pub count : ℕ
  pub row : RowWritten ws t pair steps count steps'
  pub lengths : s'.positions ≡ set s.positions t count
  pub wanted : s'.wanted ≡ set s.wanted t (2 ^ wanted_of pair)
  pub same-threads : s'.threads ≡ s.threads
  pub same-begins : s'.begins ≡ s.begins

-- The first i members of the cycle are done: their paths, lengths and wanted claims are in the tables. The other threads have no steps and want what they begin with.
pub record MembersDone (hs : List ℕ) (ws chosen : List ℕ) (i n : ℕ) (steps : List ℕ) (s : Targets) : Type 0 where
  pub all : s.threads ≡ n
  pub full : TargetsFull s
  pub begins_are : BeginMasks ws s.begins n
  pub path : (j : ℕ) → j < i → Finds (table_plan ws).procs (initial (table_plan ws).procs (proc_of ws (member_thread chosen j))) (member_pair hs chosen j)
      (path_in steps s.positions (member_thread chosen j))
  pub short : (j : ℕ) → j < i → get_or s.positions (member_thread chosen j) 0 ≤ size_of (table_plan ws).procs (proc_of ws (member_thread chosen j))
  pub wants : (j : ℕ) → j < i → get_or s.wanted (member_thread chosen j) 0 ≡ 2 ^ wanted_of (member_pair hs chosen j)
  pub others : (t : ℕ) → t < n → ((j : ℕ) → j < i → member_thread chosen j ≢ t) → (get_or s.positions t 0 ≡ 0) × (get_or s.wanted t 0 ≡ begin_of ws t)
