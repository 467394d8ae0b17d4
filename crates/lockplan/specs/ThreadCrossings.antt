-- What 02, changes 7 and 9, ask of the couples at which two threads cross: said of the text, of its plan, of the critical pairs of source 000, and of all runs of the gateway with
-- these two threads. A theorem about whatever the promises let the calls answer, `crossings-exact`.
use Rattle.std.specs.Prelude.{ℕ, ◌<◌, ◌≢◌, ◌↔◌, ◌≡◌, length, Result, Ok}
use mathlib.Core.List.{List, Memᴰ}
use Rattle.laws.specs.Wrote.{filled}
use Rattle.text.specs.declared.Refusal.{Refusal}
use Rattle.semantics.specs.Plan.{LockPlan}
use Rattle.semantics.specs.Stuck.{DeadlockFree}
use Rattle.semantics.specs.Language.{PublishedCritical}
use Rattle.demands.specs.Broken.{AcceptedText}
use Rattle.answers.specs.Answers.{read_counted}
use Rattle.couples.specs.Couples.{Couple, CoupleWhere, InOrder, NeverStuckAlone}
use Rattle.couples.specs.Fitting.{fitting_words, fitting_bytes}
use Rattle.crossing.specs.Crossed.{Crossed, CrossedBytes}

-- a "couple of pairs, one from each"; change 9: "Threads cross when their locks may stand together, and each one's wish may not stand beside what another has."
abbrev pub PublishedCouple : LockPlan → ℕ → ℕ → Couple → Type 0
PublishedCouple plan = CoupleWhere (PublishedCritical plan.procs) plan

-- the couples of the threads t and u, of which the answer says how many
pub record CrossesExactly (plan : LockPlan) (t u : ℕ) (r : Result ℕ Refusal) (cs : List Couple) : Type 0 where
  -- "The count is of all couples"
  pub number : r ≡ Ok (length cs)
  -- "list every couple", and no other
  pub every : (c : Couple) → Memᴰ c cs ↔ PublishedCouple plan t u c
  -- "Order is by the first word, then the second."
  pub ordered : InOrder cs
  -- "The count is zero exactly when those two threads alone can never become stuck."
  pub zero-exactly : (r ≡ Ok 0) ↔ NeverStuckAlone plan t u
  -- so it is zero for any two threads of a plan that is free of deadlocks
  pub free : DeadlockFree plan.procs plan.threads → r ≡ Ok 0

-- of the calls, where the text is accepted and the threads are there and two: "the lent buffer, of any length, takes the first ones that fit whole .. and keeps its
-- remainder"; change 9: "a crossing couple six" words
pub record Crossings (text before after : List ℕ) : Type 0 where
  pub crossings : (t u : ℕ) (r : Result ℕ Refusal) → Crossed text t u before r after → (x : AcceptedText text) → t < length x.plan.threads → u < length x.plan.threads → t ≢ u
      → (cs : List Couple) × CrossesExactly x.plan t u r cs × (after ≡ filled (fitting_words (length before) cs) before)
  pub lockplan_crossings : (t u n : ℕ) → CrossedBytes text t u before n after → (x : AcceptedText text) → t < length x.plan.threads → u < length x.plan.threads → t ≢ u
      → (cs : List Couple) × CrossesExactly x.plan t u (read_counted n) cs × (after ≡ filled (fitting_bytes (length before) cs) before)
