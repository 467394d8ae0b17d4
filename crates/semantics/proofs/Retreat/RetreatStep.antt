-- The retreat (source 000, Lemma 4.3, as an algorithm), and its first step. A joint state that is apart and leads by a run to a stuck set (`Retreat`)
-- can be put one step back at a thread, if it stays apart: the step taken back is put in front of the run.
use Prim.Native.Nat.{ℕ, suc, ◌+◌, ◌*◌, ◌≤◌, ◌<◌}
use mathlib.Core.List.{List, ◌∷◌}
use mathlib.Core.Logic.{⊎_elim, ◌≢◌}
use mathlib.Core.Option.{Option, some, bind}
use mathlib.Core.Path.{◌≡◌, sym, ap, ◌∙◌, subst}
use native.Mathlib.Omega.{arith}
use lib.ListN.{length, get_or, set}
use lib.Dec.{T}
use Rattle.laws.proofs.Tests.{eq_or_ne}
use Rattle.laws.proofs.Sums.{total_lt}
use Rattle.semantics.specs.Plan.{Block}
use Rattle.semantics.specs.Run.{ThreadState, move, apart, everyone, step, run}
use Rattle.semantics.specs.Retreat.{joint, Retreat}
use Rattle.semantics.proofs.Ground.Tables.{set-table}
use Rattle.semantics.proofs.Gateway.Steps.{move_of, step-some}
use Rattle.semantics.proofs.Gateway.Invariant.{entry_thread, entry_choice}
use Rattle.semantics.proofs.Retreat.JointStates.{Executions, earlier, joint-at, in_joint}

-- j' is j with k's position one lower
pub record Lowered (k : ℕ) (j j' : ℕ → ℕ) : Type 0 where
  pub one_less : j k ≡ suc (j' k)
  pub others : (i : ℕ) → i ≢ k → j' i ≡ j i

module _ {ps : List Block} {n : ℕ} {P : ℕ → List ℕ} {s : ℕ → ℕ → ThreadState} (x : Executions ps n P s) where
  lowered_joint : (k : ℕ) (j j' : ℕ → ℕ) → k < n → Lowered k j j' → earlier n s j k ≡ joint n s j'
  lowered_joint k j j' b l =
      ap (λ a. set (joint n s j) k (s k a)) (omega (arith, l.one_less))
      ∙ set-table n (λ i. s i (j i)) (λ i. s i (j' i)) k b (λ i d. ap (s i) (sym (l.others i d)))

  raised_joint : (k : ℕ) (j j' : ℕ → ℕ) → k < n → Lowered k j j' → set (joint n s j') k (s k (j k)) ≡ joint n s j
  raised_joint k j j' b l = set-table n (λ i. s i (j' i)) (λ i. s i (j i)) k b (λ i d. ap (s i) (l.others i d))

  pub lowered_le : (k : ℕ) (j j' : ℕ → ℕ) → Lowered k j j' → (i : ℕ) → j' i ≤ j i
  lowered_le k j j' l i = ⊎_elim (λ (e : i ≡ k). rw e (omega (arith, l.one_less))) (λ (d : i ≢ k). omega (arith, l.others i d)) (eq_or_ne i k)

  -- the step that leads on from the lowered moment
  step_on : (k : ℕ) (j j' : ℕ → ℕ) → k < n → Lowered k j j' → j k ≤ length (P k) → T (apart everyone (joint n s j))
      → step ps (joint n s j') (k + 8 * get_or (P k) (j' k) 0) ≡ some (joint n s j)
  unfolding step
  step_on k j j' b l w a =
      let c = get_or (P k) (j' k) 0 in
      let m : move_of ps (joint n s j') k c ≡ some (s k (j k)) =
      ap (λ x. move ps c x.rest x.count) (joint-at x j' k b) ∙ (x.runs k b).steps (j' k) (omega (arith, l.one_less))
      ∙ ap {B = Option ThreadState} (λ a. some (s k a)) (sym l.one_less) in
      let e = step-some everyone ps (joint n s j') k c (s k (j k)) (in_joint x j' k b) m (rw (raised_joint k j j' b l) a) in
      rw (entry_thread k c (omega arith), entry_choice k c (omega arith)) (e ∙ ap {B = Option (List ThreadState)} some (raised_joint k j j' b l))

  -- thread k goes back by one step
  pub retreat-step : {bound : ℕ} {j : ℕ → ℕ} {es : List ℕ} {ts : List ThreadState} (k : ℕ) (j' : ℕ → ℕ) → k < n → Lowered k j j'
      → T (apart everyone (earlier n s j k)) → Retreat ps n P s bound j es ts → Retreat ps n P s bound j' ((k + 8 * get_or (P k) (j' k) 0) ∷ es) ts
  unfolding run bind
  retreat-step {j = j} {es} {ts} k j' b l a r = record {
    within = λ i c. omega (arith, lowered_le k j j' l i, r.within i c);
    all_apart = subst (λ us. T (apart everyone us)) (lowered_joint k j j' b l) a;
    leads = ap (λ o. bind o (λ us. run ps us es)) (step_on k j j' b l (r.within k b) r.all_apart) ∙ r.leads;
    stuck = r.stuck;
    short = omega (arith, r.short, total_lt n j' j (λ i _. lowered_le k j j' l i) k b (omega (arith, l.one_less)));
  }
