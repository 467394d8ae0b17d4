-- Source 000, Lemma 3.13. Where a hold ends, the thread stood before that hold at an earlier moment, with the counts that the end leaves: what the
-- remainder will end was begun before, with the same remainder after it, and the remainder settles the counts.
use Prim.Native.Nat.{ℕ, zero, suc, ◌≤◌, ◌<◌}
use mathlib.Core.List.{List}
use mathlib.Core.Logic.{inl, ⊎_elim}
use mathlib.Core.Path.{◌≡◌, refl, sym, ap, ◌∙◌, subst}
use native.Mathlib.Nat.{not-suc-le-zero, eq-or-lt_of_le}
use native.Mathlib.Omega.{arith}
use lib.ListN.{length, get_or}
use Rattle.semantics.specs.Plan.{Block, hold, end, body_in, Plain}
use Rattle.semantics.specs.Run.{ThreadState}
use Rattle.semantics.specs.Execution.{Execution}
use Rattle.semantics.proofs.Thread.Transitions.{Transition}
use Rattle.semantics.proofs.Thread.Balance.{Balanced, end_count, balanced-unique, balanced-hold, positive_by_begin}
use Rattle.semantics.proofs.Thread.HoldEnds.{WillEnd, will_end_before, plain_ends_nothing, begin_will_end, will_end_next, will_end_positive}
use Rattle.semantics.proofs.Thread.Execution.{step-at, balanced-at}

module _ {ps : List Block} {x : ThreadState} {cs : List ℕ} {s : ℕ → ThreadState}
    (bodies : (p : ℕ) → Plain (body_in ps p)) (plain : Plain x.rest) (kept : Balanced x.rest x.count)
    (a : Execution ps x cs s) where
  -- a hold that the remainder will end was begun at an earlier moment, with the same remainder after it
  pub begun-earlier : (l : ℕ) (r : Block) (j : ℕ) → j ≤ length cs → WillEnd l r (s j).rest
      → (h : ℕ) × (h < j) × (b : Block) × ((s h).rest ≡ hold l b r)
  begun-earlier l r zero b e = absurd (plain_ends_nothing l r x.rest plain (subst (λ y. WillEnd l r y.rest) a.first e))
  begun-earlier l r (suc j) b e =
      ⊎_elim
      (λ (f : WillEnd l r (s j).rest). let p = begun-earlier l r j (omega arith) f in (p.0, omega arith, p.2, p.3))
      (λ (f : (y : Block) × ((s j).rest ≡ hold l y r)). (j, omega arith, f.0, f.1))
      (will_end_before ps bodies (step-at bodies plain kept a j b) (balanced-at bodies plain kept a j (omega arith)).remainder e)

  -- Lemma 3.13: where step j ends a hold, the thread stood before that hold at an earlier moment, with the counts that the step leaves
  pub matching_hold : (l : ℕ) (r : Block) (j : ℕ) → j < length cs → (s j).rest ≡ end l r → (s (suc j)).rest ≡ r
      → (h : ℕ) × (h < j) × (b : Block) × ((s h).rest ≡ hold l b r) × ((s h).count ≡ (s (suc j)).count)
  unfolding WillEnd
  matching_hold l r j b e f =
      let p = begun-earlier l r j (omega arith) (rw e (inl (refl, refl))) in
      let before = balanced-hold (subst (λ y. Balanced y (s p.0).count) p.3 (balanced-at bodies plain kept a p.0 (omega arith))) in
      let behind = subst (λ y. Balanced y (s (suc j)).count) f (balanced-at bodies plain kept a (suc j) b) in
      (p.0, p.1, p.2, p.3, balanced-unique before behind)

  -- how to find that moment: it is the last one at which the claim was not had
  module _ (l : ℕ) (r : Block) (j : ℕ) (b : j < length cs) (ended : (s j).rest ≡ end l r) (on : (s (suc j)).rest ≡ r) (freed : get_or (s (suc j)).count l 0 ≡ 0)
      (h : ℕ) (before : h < j) (without : get_or (s h).count l 0 ≡ 0) (between : (a : ℕ) → h < a → a ≤ j → 0 < get_or (s a).count l 0) where
    -- a hold of l that began at h goes on until j
    lasts : (x q : Block) → (s h).rest ≡ hold l x q → (i : ℕ) → h < i → i ≤ j → WillEnd l q (s i).rest
    unfolding end_count
    lasts x q e zero o c = absurd (not-suc-le-zero o)
    lasts x q e (suc i) o c =
        ⊎_elim
        (λ (d : h ≡ i).
        let f : (s i).rest ≡ hold l x q = subst (λ m. (s m).rest ≡ hold l x q) d e in
        let m : Transition ps (get_or cs i 0) (hold l x q) (s i).count (s (suc i)).rest
        (s (suc i)).count = rw f at (step-at bodies plain kept a i (omega arith)) in
        begin_will_end ps bodies m)
        (λ (d : h < i).
        ⊎_elim (λ (f : WillEnd l q (s (suc i)).rest). f)
        (λ (f : ((s i).rest ≡ end l q) × ((s (suc i)).rest ≡ q)).
        let k : Balanced (hold l x q) (s h).count = rw e at (balanced-at bodies plain kept a h (omega arith)) in
        let m : Balanced q (s (suc i)).count = rw f.1 at (balanced-at bodies plain kept a (suc i) (omega arith)) in
        absurd (omega (arith, between (suc i) o c, without, m.counts l, k.counts l)))
        (will_end_next ps bodies (step-at bodies plain kept a i (omega arith)) (lasts x q e i d (omega arith))))
        (eq-or-lt_of_le (omega arith))

    pub matching_hold_scan : (x : Block) × ((s h).rest ≡ hold l x r) × ((s h).count ≡ (s (suc j)).count)
    unfolding WillEnd end_count
    matching_hold_scan =
        let u = positive_by_begin ps bodies (step-at bodies plain kept a h (omega arith)) (balanced-at bodies plain kept a h (omega arith)) l without
        (between (suc h) (omega arith) before) in
        let f : WillEnd l u.1 (end l r) = rw ended at (lasts u.0 u.1 u.2 j before (omega arith)) in
        let k : Balanced r (s (suc j)).count = rw on at (balanced-at bodies plain kept a (suc j) b) in
        let same : r ≡ u.1 =
        ⊎_elim (λ (e : (l ≡ l) × (r ≡ u.1)). e.1)
        (λ (e : WillEnd l u.1 r). absurd (omega (arith, will_end_positive l u.1 r e, k.counts l, freed))) f in
        let g : (s h).rest ≡ hold l u.0 r = u.2 ∙ ap (hold l u.0) (sym same) in
        (u.0, g, balanced-unique (balanced-hold (subst (λ y. Balanced y (s h).count) g (balanced-at bodies plain kept a h (omega arith)))) k)
