-- What a table of cases says of a plan: the pairs of its first procedures, and that it is free of deadlocks or which schedule leads to which stuck threads.
use Rattle.std.specs.Prelude.{ℕ, ◌<◌, Bool, false, ◌||◌, ◌↔◌, ◌≡◌, eqb, length, get_or}
use mathlib.Core.List.{List, [], ◌∷◌, Memᴰ}
use Rattle.semantics.specs.Plan.{LockPlan}
use Rattle.semantics.specs.Stuck.{DeadlockFree, Schedule}
use Rattle.semantics.specs.Pairs.{Critical, pair_list}

-- free, or a schedule and the threads that are stuck at its end
pub data Expected : Type 0 where
  free : Expected
  deadlock : List ℕ → List ℕ → Expected

-- the numbers of a list, as a set
unfoldable pub set_of : List ℕ → ℕ → Bool
set_of [] t = false
set_of (u ∷ us) t = eqb t u || set_of us t

-- what is expected of a plan holds of it
abbrev pub Holds : LockPlan → Expected → Type 0
Holds plan free = DeadlockFree plan.procs plan.threads
Holds plan (deadlock es us) = Schedule plan es (set_of us)

-- `pairs` has the pairs of the first procedures, of as many as it has lists: the list that is computed, of which the members are the critical pairs
pub record CaseFacts (plan : LockPlan) (pairs : List (List ℕ)) (a : Expected) : Type 0 where
  pub listed : (p : ℕ) → p < length pairs → get_or pairs p [] ≡ pair_list plan.procs p
  pub critical : (p : ℕ) → p < length pairs → (w : ℕ) → Memᴰ w (get_or pairs p []) ↔ Critical plan.procs p w
  pub expected : Holds plan a
