-- Where two threads cross. 02, change 7: "Given two threads of a plan, list every couple of pairs, one from each, with no held lock in common and each wanting a lock that the
-- other holds. Order is by the first word, then the second." Change 9 widens when two pairs cross (`Crosses`).
use Rattle.std.specs.Prelude.{ℕ, ◌<◌, Bool, cond, ◌&&◌, ◌⊎◌, ◌↔◌, ◌≡◌, length}
use mathlib.Core.List.{List, [], ◌∷◌, flat_map, Memᴰ}
use Rattle.semantics.specs.Plan.{LockPlan, thread_proc}
use Rattle.semantics.specs.Stuck.{DeadlockFree}
use Rattle.semantics.specs.Pairs.{had_of, wanted_of, Critical, pair_list}
use Rattle.semantics.specs.Conflict.{CompatibleIn, ExcludesIn, compatible_sets, excludes_set}

-- a couple of pairs, each as its number
pub record Couple : Type 0 where
  pub first : ℕ
  pub second : ℕ

abbrev pub couple : ℕ → ℕ → Couple
couple v w = record { first = v; second = w }

-- change 9: "Threads cross when their locks may stand together, and each one's wish may not stand beside what another has."
pub record Crosses (v w : ℕ) : Type 0 where
  pub apart : CompatibleIn (had_of v) (had_of w)
  pub first-wants : ExcludesIn (had_of w) (wanted_of v)
  pub second-wants : ExcludesIn (had_of v) (wanted_of w)

-- the same as a test (theorem `crosses-is`)
unfoldable pub crosses : ℕ → ℕ → Bool
crosses v w = compatible_sets (had_of v) (had_of w) && (excludes_set (had_of w) (wanted_of v) && excludes_set (had_of v) (wanted_of w))

-- the couples of the pair v with pairs of a list that cross it, in the list's order
unfoldable pub couples_with : ℕ → List ℕ → List Couple
couples_with v [] = []
couples_with v (w ∷ ws) = cond (crosses v w) (couple v w ∷ couples_with v ws) (couples_with v ws)

-- those of the pairs of two lists
abbrev pub couples_of : List ℕ → List ℕ → List Couple
couples_of vs ws = flat_map (λ v. couples_with v ws) vs

-- the critical pairs of the procedure that thread t runs
abbrev pub thread_pairs : LockPlan → ℕ → List ℕ
thread_pairs plan t = pair_list plan.procs (thread_proc plan t)

-- "one from each": those of the threads t and u, which may run the same procedure
unfoldable pub couples : LockPlan → ℕ → ℕ → List Couple
couples plan t u = couples_of (thread_pairs plan t) (thread_pairs plan u)

-- "Order is by the first word, then the second." Of records it is by their words in turn, which is the order of their numbers (semantics, `pair_order`)
abbrev pub Before : Couple → Couple → Type 0
Before c d = (c.first < d.first) ⊎ ((c.first ≡ d.first) × (c.second < d.second))

-- each couple stands before all that follow it, so none is there twice
unfoldable pub InOrder : List Couple → Type 0
InOrder [] = Unit {0}
InOrder (c ∷ cs) = ((d : Couple) → Memᴰ d cs → Before c d) × InOrder cs

-- a couple that crosses, one pair of each thread, where `IsPair p w` says that w is a pair of procedure p
pub record CoupleWhere (IsPair : ℕ → ℕ → Type 0) (plan : LockPlan) (t u : ℕ) (c : Couple) : Type 0 where
  pub of_first : IsPair (thread_proc plan t) c.first
  pub of_second : IsPair (thread_proc plan u) c.second
  pub crossing : Crosses c.first c.second

-- a couple of critical pairs, one of each thread, that cross. No run need come to just this couple (01, case G, has one of three that none comes to); that there is one means that
-- some run becomes stuck
abbrev pub CriticalCouple : LockPlan → ℕ → ℕ → Couple → Type 0
CriticalCouple plan = CoupleWhere (Critical plan.procs) plan

-- "those two threads alone can never become stuck": no run of the gateway that has just these two threads reaches a stuck set
abbrev pub NeverStuckAlone : LockPlan → ℕ → ℕ → Type 0
NeverStuckAlone plan t u = DeadlockFree plan.procs (thread_proc plan t ∷ thread_proc plan u ∷ [])

-- "list every couple", and no other, in order; "The count is zero exactly when those two threads alone can never become stuck." It is promised of threads that rule 14 lets
-- pass, which are there and are two
pub record CouplesExact (plan : LockPlan) (t u : ℕ) : Type 0 where
  pub every : (c : Couple) → Memᴰ c (couples plan t u) ↔ CriticalCouple plan t u c
  pub ordered : InOrder (couples plan t u)
  pub zero-exactly : (length (couples plan t u) ≡ 0) ↔ NeverStuckAlone plan t u
