-- Threads that stand on executions of their own. A position on each execution gives a joint state; this module says what its threads, counts and
-- steps are.
use Prim.Native.Nat.{ℕ, ◌-◌, ◌≤◌, ◌<◌}
use mathlib.Core.List.{List}
use mathlib.Core.Option.{Option, some}
use mathlib.Core.Path.{◌≡◌, sym, ap, ◌∙◌, subst}
use native.Mathlib.Omega.{arith}
use lib.ListN.{length, get_or, set, get_or-eq_default}
use Rattle.semantics.specs.Plan.{Block, body_in, Plain}
use Rattle.semantics.specs.Run.{ThreadState, initial, move, nth, absent_thread, counts}
use Rattle.semantics.specs.Execution.{Execution}
use Rattle.semantics.specs.Retreat.{joint}
use Rattle.semantics.proofs.Ground.Tables.{length-table, nth-table}
use Rattle.semantics.proofs.Thread.Balance.{Balanced, balanced_plain}
use Rattle.semantics.proofs.Thread.Execution.{balanced-at}
use Rattle.semantics.proofs.Gateway.Compatible.{Excludes, unlocked_excludes_none}
use Rattle.semantics.proofs.Gateway.Blocked.{BalancedAll}

-- executions of n threads, each alone: thread i runs procedure `proc i`, and under the choices P i it is s i a after a steps
pub record Executions (ps : List Block) (n : ℕ) (P : ℕ → List ℕ) (s : ℕ → ℕ → ThreadState) : Type 0 where
  pub bodies : (q : ℕ) → Plain (body_in ps q)
  pub few : n ≤ 8
  pub proc : ℕ → ℕ
  pub runs : (i : ℕ) → i < n → Execution ps (initial ps (proc i)) (P i) (s i)

-- the joint moment j with thread k one step earlier
abbrev pub earlier : ℕ → (ℕ → ℕ → ThreadState) → (ℕ → ℕ) → ℕ → List ThreadState
earlier n s j k = set (joint n s j) k (s k (j k - 1))

module _ {ps : List Block} {n : ℕ} {P : ℕ → List ℕ} {s : ℕ → ℕ → ThreadState} (x : Executions ps n P s) where
  pub joint-at : (j : ℕ → ℕ) (i : ℕ) → i < n → nth (joint n s j) i ≡ s i (j i)
  joint-at j i b = nth-table n (λ i. s i (j i)) i b

  pub in_joint : (j : ℕ → ℕ) (i : ℕ) → i < n → i < length (joint n s j)
  in_joint j i b = subst (λ m. i < m) (sym (length-table n (λ i. s i (j i)))) b

  pub of_joint : (j : ℕ → ℕ) (i : ℕ) → i < length (joint n s j) → i < n
  of_joint j i b = subst (λ m. i < m) (length-table n (λ i. s i (j i))) b

  pub joint-counts : (j : ℕ → ℕ) (i : ℕ) → i < n → counts (joint n s j) i ≡ (s i (j i)).count
  joint-counts j i b = ap (λ y. y.count) (joint-at j i b)

  pub joint-absent : (j : ℕ → ℕ) (i : ℕ) → n ≤ i → nth (joint n s j) i ≡ absent_thread
  joint-absent j i b = get_or-eq_default (joint n s j) absent_thread (omega (arith, length-table n (λ i. s i (j i))))

  pub state-balanced : (i a : ℕ) → i < n → a ≤ length (P i) → Balanced (s i a).rest (s i a).count
  state-balanced i a b c = balanced-at x.bodies (x.bodies (x.proc i)) (balanced_plain (body_in ps (x.proc i)) (x.bodies (x.proc i)))
      (x.runs i b) a c

  pub joint-balanced : (j : ℕ → ℕ) → ((i : ℕ) → i < n → j i ≤ length (P i)) → BalancedAll (joint n s j)
  joint-balanced j w i b = let c = of_joint j i b in rw (joint-at j i c) (state-balanced i (j i) c (w i c))

  -- a thread at its start excludes nobody
  pub start_excludes_none : (i l : ℕ) → i < n → Excludes (s i 0).count l → ⊥
  start_excludes_none i l b h = unlocked_excludes_none l (subst (λ y. Excludes y.count l) (x.runs i b).first h)

  -- the last step of thread k
  pub last_step : (j : ℕ → ℕ) (k : ℕ) → k < n → 0 < j k → j k ≤ length (P k)
      → move ps (get_or (P k) (j k - 1) 0) (s k (j k - 1)).rest (s k (j k - 1)).count ≡ some (s k (j k))
  last_step j k b o w = (x.runs k b).steps (j k - 1) (omega arith) ∙ ap {B = Option ThreadState} (λ a. some (s k a)) (omega arith)
