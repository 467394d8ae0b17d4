-- The retreat as a whole: go back or jump until no thread has taken a step. That is the start, and the run that was put together leads from it to a
-- stuck set.
use Prim.Native.Nat.{ℕ, zero, suc, ◌+◌, ◌-◌, ◌*◌, ◌≤◌, ◌<◌}
use mathlib.Core.List.{List, [], ◌∷◌}
use mathlib.Core.Bool.{Bool, ◌&&◌, cond}
use mathlib.Core.Logic.{◌⊎◌, inl, inr, ⊎_elim}
use mathlib.Core.Option.{some}
use mathlib.Core.Path.{◌≡◌, refl, sym, ap, ◌∙◌}
use native.Mathlib.Nat.{eq-zero-or-pos}
use native.Mathlib.Omega.{arith}
use lib.ListN.{length, get_or}
use lib.Dec.{T, ltb, eqb, ltb→lt, lt→ltb, eqb→eq, eqb_refl}
use Rattle.laws.proofs.Tests.{search_below, T_and, and_T, T_true, T_false, lt_or_le}
use Rattle.laws.specs.Sums.{total}
use Rattle.laws.proofs.Sums.{total_lt}
use Rattle.semantics.specs.Plan.{Block}
use Rattle.semantics.specs.Run.{ThreadState, initial, apart, everyone, run}
use Rattle.semantics.specs.Stuck.{Stuck}
use Rattle.semantics.specs.Retreat.{table, joint, Retreat}
use Rattle.semantics.proofs.Ground.Tables.{length-table, is-table}
use Rattle.semantics.proofs.Retreat.JointStates.{Executions, earlier, joint-at}
use Rattle.semantics.proofs.Retreat.RetreatStep.{Lowered, lowered_le, retreat-step}
use Rattle.semantics.proofs.Retreat.RetreatRefused.{StepBackRefused, retreat-refused}
use Rattle.semantics.proofs.Retreat.RetreatJump.{MatchingBegin, matching_begin, jump_total, retreat_jump}

-- a run, no longer than the bound, to a moment with a stuck set
pub record DeadlockRun (ps : List Block) (us : List ThreadState) (bound : ℕ) : Type 0 where
  pub entries : List ℕ
  pub there : List ThreadState
  pub members : ℕ → Bool
  pub reached : run ps us entries ≡ some there
  pub stuck : Stuck ps there members
  pub short : length entries ≤ bound

module _ {ps : List Block} {n : ℕ} {P : ℕ → List ℕ} {s : ℕ → ℕ → ThreadState} (x : Executions ps n P s) where
  abbrev test : (ℕ → ℕ) → ℕ → Bool
  test j k = ltb 0 (j k) && apart everyone (earlier n s j k)

  -- one lower at k
  lower : ℕ → (ℕ → ℕ) → ℕ → ℕ
  lower k j i = cond (eqb i k) (j k - 1) (j i)

  lower-is : (k : ℕ) (j : ℕ → ℕ) → 0 < j k → Lowered k j (lower k j)
  unfolding lower
  lower-is k j o = record {
    one_less = rw (T_true (eqb k k) (eqb_refl k)) (omega arith);
    others = λ i d. ap (λ b. cond b (j k - 1) (j i)) (T_false (eqb i k) (λ t. d (eqb→eq i k t)));
  }

  -- where to go back to, for each thread
  places : (j : ℕ → ℕ) → ((i : ℕ) → i < n → j i ≤ length (P i)) → ((k : ℕ) → k < n → 0 < j k → StepBackRefused n s j k)
      → (i : ℕ) → (a : ℕ) × (i < n → 0 < j i → MatchingBegin (s i) (j i) a) × (j i ≡ 0 → a ≡ 0)
  places j w r i =
      ⊎_elim (λ (e : j i ≡ 0). (0, (λ _ o. absurd (omega arith)), λ _. refl))
      (λ (o : 0 < j i).
      ⊎_elim (λ (b : i < n). let q = matching_begin x j i b o (w i b) (r i b o) in (q.0, (λ _ _. q.1), λ e. absurd (omega arith)))
      (λ (c : n ≤ i). (0, (λ b _. absurd (omega arith)), λ _. refl))
      (lt_or_le i n))
      (eq-zero-or-pos (j i))

  -- the next moment to go back to, unless no thread has taken a step
  pub retreat-next : (bound : ℕ) (j : ℕ → ℕ) (es : List ℕ) (ts : List ThreadState) → Retreat ps n P s bound j es ts
      → ((k : ℕ) → k < n → j k ≡ 0) ⊎
      ((j' : ℕ → ℕ) × (es' : List ℕ) × (ts' : List ThreadState) × (total n j' < total n j) × Retreat ps n P s bound j' es' ts')
  retreat-next bound j es ts r =
      ⊎_elim
      (λ (q : (k : ℕ) × (k < n) × T (test j k)).
      let k = q.0 in
      let t = T_and (ltb 0 (j k)) (apart everyone (earlier n s j k)) q.2 in
      let o = ltb→lt 0 (j k) t.0 in
      let l = lower-is k j o in
      inr (
        lower k j,
        (k + 8 * get_or (P k) (lower k j k) 0) ∷ es,
        ts,
        total_lt n (lower k j) j (λ i _. lowered_le x k j (lower k j) l i) k q.1 (omega (arith, l.one_less)),
        retreat-step x k (lower k j) q.1 l t.1 r,
      ))
      (λ (u : (k : ℕ) → k < n → T (test j k) → ⊥).
      let refused : (k : ℕ) → k < n → 0 < j k → StepBackRefused n s j k =
      λ k b o. retreat-refused x j k r.within r.all_apart b o
      (λ a. u k b (and_T (ltb 0 (j k)) (apart everyone (earlier n s j k)) (lt→ltb 0 (j k) o) a)) in
      let g = places j r.within refused in
      let h : ℕ → ℕ = λ i. (g i).0 in
      let back : (k : ℕ) → k < n → 0 < j k → MatchingBegin (s k) (j k) (h k) = λ k b o. (g k).1 b o in
      let still : (k : ℕ) → k < n → j k ≡ 0 → h k ≡ 0 = λ k b e. (g k).2 e in
      ⊎_elim
      (λ (q : (k : ℕ) × (k < n) × T (ltb 0 (j k))).
      let o = ltb→lt 0 (j q.0) q.2 in
      inr (
        h,
        [],
        joint n s h,
        jump_total x j h r.within r.all_apart refused back still q.0 q.1 o,
        retreat_jump x j h r.within r.all_apart refused back still bound q.0 q.1 o (omega (arith, r.short)),
      ))
      (λ (v : (k : ℕ) → k < n → T (ltb 0 (j k)) → ⊥).
      inl (λ k b. ⊎_elim (λ e. e) (λ o. absurd (v k b (lt→ltb 0 (j k) o))) (eq-zero-or-pos (j k))))
      (search_below n (λ k. ltb 0 (j k))))
      (search_below n (test j))

  -- no thread has taken a step: that is the start
  pub retreat-at_start : (bound : ℕ) (j : ℕ → ℕ) (es : List ℕ) (ts : List ThreadState) → Retreat ps n P s bound j es ts → ((k : ℕ) → k < n → j k ≡ 0)
      → DeadlockRun ps (table n (λ i. initial ps (x.proc i))) bound
  retreat-at_start bound j es ts r z =
      let e = is-table n (λ i. initial ps (x.proc i)) (joint n s j) (length-table n (λ i. s i (j i)))
      (λ i b. joint-at x j i b ∙ ap (s i) (z i b) ∙ (x.runs i b).first) in
      record {
        entries = es;
        there = ts;
        members = r.stuck.0;
        reached = ap (λ us. run ps us es) (sym e) ∙ r.leads;
        stuck = r.stuck.1;
        short = omega (arith, r.short);
      }

  pub retreat-run : (fuel bound : ℕ) (j : ℕ → ℕ) (es : List ℕ) (ts : List ThreadState) → total n j ≤ fuel → Retreat ps n P s bound j es ts
      → DeadlockRun ps (table n (λ i. initial ps (x.proc i))) bound
  retreat-run zero bound j es ts f r =
      ⊎_elim (retreat-at_start bound j es ts r) (λ q. absurd (omega (arith, q.3))) (retreat-next bound j es ts r)
  retreat-run (suc fuel) bound j es ts f r =
      ⊎_elim (retreat-at_start bound j es ts r) (λ q. retreat-run fuel bound q.0 q.1 q.2 (omega (arith, q.3)) q.4)
      (retreat-next bound j es ts r)
