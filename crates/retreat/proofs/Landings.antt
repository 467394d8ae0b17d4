-- The jump: the scan for the last place at which a thread has not a claim, where one thread lands by it, and all of them, each standing where it stood
-- until its turn.
use Prim.Native.Nat.{ℕ, zero, suc, ◌+◌, ◌-◌, ◌^◌, ◌<◌, ◌≤◌}
use native.Mathlib.Nat.{add-zero, eq-zero-or-pos}
use native.Mathlib.Omega.{arith}
use mathlib.Core.Path.{◌≡◌, refl, sym, ap, ◌∙◌, subst}
use mathlib.Core.Logic.{⊎_elim, ◌≢◌}
use mathlib.Core.Bool.{Bool, true, false, not}
use mathlib.Core.List.{List, []}
use borrow.Author.Tests.{ne_eqb, eqb-false}
use lib.Bits.{bit_and}
use lib.Count.{count_trailing_zeros}
use lib.Dec.{eqb}
use lib.ListN.{length, get_or, set, drop}
use lib.Seq.{get_or-drop, get_or-set_same, get_or-set_other}
use Rattle.limits.specs.Limits.{max_threads, claim_count, max_size}
use Rattle.laws.specs.Choice.{pick}
use Rattle.laws.specs.Mask.{bit, in_mask}
use Rattle.laws.proofs.Tests.{eq_or_ne, lt_or_le}
use Rattle.laws.proofs.Writes.{emit_keep}
use Rattle.laws.proofs.Masks.{digit-out, trailing_lowest}
use Rattle.semantics.specs.Retreat.{others_at, scan_back, JumpTo}
use Rattle.retreat.specs.Paths.{masks_of, InRows, Holding, barred_by_others, meeting, may_go_back, NoneMayGoBack}
use Rattle.retreat.specs.Moves.{Landed}
use Rattle.retreat.proofs.HeldLocks.{within-at, others-held}

-- ---- the scan

-- at place i of the scan down to r
module _ (rows : List ℕ) (t l i r : ℕ) (s : scan_back (masks_of rows t) l i ≡ r) where
  abbrev row : List ℕ
  row = masks_of rows t

  module _ (m : ℕ) (q : Bool) (o : 0 < i) (e : m ≡ get_or (masks_of rows t) i 0) (f : q ≡ in_mask m l) where
    tested : q ≡ in_mask (get_or row i 0) l
    tested = f ∙ ap (λ x. in_mask x l) e

    pub scan-more : not q ≡ false → scan_back (masks_of rows t) l (i - 1) ≡ r
    unfolding scan_back
    scan-more z = more i o (same q z tested) s
      where
        same : (q : Bool) → not q ≡ false → {x : Bool} → q ≡ x → x ≡ true
        same true z e = sym e
        same false z e = cc

        more : (i : ℕ) → 0 < i → in_mask (get_or row i 0) l ≡ true → scan_back row l i ≡ r → scan_back row l (i - 1) ≡ r
        more zero o h s = absurd (omega arith)
        more (suc i) o h s = let e : suc i - 1 ≡ i = omega arith in rw e (rw h at s)

    pub scan-here : not q ≡ true → i ≡ r
    unfolding scan_back
    scan-here z = here i o (same q z tested) s
      where
        same : (q : Bool) → not q ≡ true → {x : Bool} → q ≡ x → x ≡ false
        same true z e = cc
        same false z e = sym e

        here : (i : ℕ) → 0 < i → in_mask (get_or row i 0) l ≡ false → scan_back row l i ≡ r → i ≡ r
        here zero o h s = absurd (omega arith)
        here (suc i) o h s = rw h at s

  pub scan-out : i ≤ 0 → 0 ≡ r
  unfolding scan_back
  scan-out h = let e : i ≡ 0 = omega arith in rw e at s

-- ---- one thread

-- `u64::trailing_zeros(m)`
pub lowest-claim : (m : ℕ) → 0 < m → m < 2 ^ 64 → (count_trailing_zeros 64 m < claim_count) × (bit m (count_trailing_zeros 64 m) ≡ 1)
lowest-claim m o h =
    let e : bit m (count_trailing_zeros 64 m) ≡ 1 = (trailing_lowest 64 m o h).member in
    (⊎_elim (λ b. b) (λ (b : claim_count ≤ count_trailing_zeros 64 m). absurd (omega (arith, digit-out m 64 (count_trailing_zeros 64 m) h b))) (lt_or_le (count_trailing_zeros 64 m) 64), e)

module _ (row : List ℕ) (others begin j : ℕ) where
  pub land_still : (h : ℕ) → j ≡ 0 → h ≡ 0 → JumpTo row others begin j h begin
  land_still h e z = record {
    claim = 0;
    given-up = λ o. absurd (omega arith);
    place = λ o. absurd (omega arith);
    wanted = λ o. absurd (omega arith);
    still = λ _. (z, refl);
  }

  module _ (a b : ℕ) (n : j ≡ 0 → ⊥) (e : a ≡ get_or row (j - 1) 0) (f : b ≡ others) where
    stepped : 0 < j
    stepped = ⊎_elim (λ (z : j ≡ 0). absurd (n z)) (λ (o : 0 < j). o) (eq-zero-or-pos j)

    pub land_some : (0 < j → 0 < bit_and (get_or row (j - 1) 0) others) → 0 < bit_and a b
    land_some g = rw (e, f) (g stepped)

    pub land_back : (l h w : ℕ) → bit (bit_and a b) l ≡ 1 → h ≡ scan_back row l (j - 1) → w ≡ 2 ^ l → JumpTo row others begin j h w
    land_back l h w g p v = record {
      claim = l;
      given-up = λ _. rw (← e, ← f) g;
      place = λ _. p;
      wanted = λ _. v;
      still = λ z. absurd (n z);
    }

-- what each thread that has stepped gave up, where none may go back
meets : (rows positions masks : List ℕ) (n k : ℕ) → k < n → Holding rows positions masks n → NoneMayGoBack rows positions n → 0 < get_or positions k 0
    → 0 < bit_and (get_or (masks_of rows k) (get_or positions k 0 - 1) 0) (barred_by_others masks n k)
unfolding NoneMayGoBack may_go_back pick meeting
meets rows positions masks n k b h f o =
    let z : eqb (meeting rows positions n k) 0 ≡ false = rw (ne_eqb (get_or positions k 0) 0 (λ e. omega arith)) at (f k b) in
    rw (others-held rows positions masks n k h)
    (⊎_elim (λ (e : meeting rows positions n k ≡ 0). absurd (eqb-false (meeting rows positions n k) 0 z e)) (λ (p : 0 < meeting rows positions n k). p)
    (eq-zero-or-pos (meeting rows positions n k)))

-- the positions from k on are as they were
same_from : (positions positions₀ : List ℕ) (k : ℕ) → drop k positions ≡ drop k positions₀ → get_or positions k 0 ≡ get_or positions₀ k 0
same_from positions positions₀ k e =
    let at : (l : List ℕ) → get_or (drop k l) 0 0 ≡ get_or l k 0 = λ l. get_or-drop k l 0 0 ∙ ap (λ i. get_or l i 0) (add-zero k) in
    sym (at positions) ∙ ap (λ l. get_or l 0 0) e ∙ at positions₀

module _ (rows begins masks positions positions₀ wanted : List ℕ) (n k : ℕ) (b : k < n) (same : drop k positions ≡ drop k positions₀) (h : Holding rows positions₀ masks n) where
  pub jump_some : NoneMayGoBack rows positions₀ n → 0 < get_or positions k 0 → 0 < bit_and (get_or (masks_of rows k) (get_or positions k 0 - 1) 0) (barred_by_others masks n k)
  jump_some f = rw (same_from positions positions₀ k same) (meets rows positions₀ masks n k b h f)

  pub jump_within : InRows positions₀ n → get_or positions k 0 ≤ max_size
  jump_within w = rw (same_from positions positions₀ k same) (within-at positions₀ n k w b)

  module _ (small : n ≤ max_threads) (long : max_threads ≡ length positions) where
    pub jump_keep : (v : ℕ) → drop (k + 1) (set positions k v) ≡ drop (k + 1) positions₀
    jump_keep v = emit_keep positions positions₀ [] [] k v (omega arith) same

    pub landed-more : (p w : ℕ) → max_threads ≡ length wanted
        → JumpTo (masks_of rows k) (barred_by_others masks n k) (get_or begins k 0) (get_or positions k 0) p w → Landed rows begins n positions₀ positions wanted k
        → Landed rows begins n positions₀ (set positions k p) (set wanted k w) (k + 1)
    unfolding Landed
    landed-more p w long' to f t l =
        ⊎_elim
        (λ (e : t ≡ k). subst (λ u. At u (get_or (set positions k p) u 0) (get_or (set wanted k w) u 0)) (sym e) (rw (
          get_or-set_same positions k p 0 (omega arith),
          get_or-set_same wanted k w 0 (omega arith),
          ← others-held rows positions₀ masks n k h,
          ← same_from positions positions₀ k same,
        ) to))
        (λ (d : t ≢ k). rw (get_or-set_other positions k t p 0 d, get_or-set_other wanted k t w 0 d) (f t (less t d l)))
        (eq_or_ne t k)
      where
        At : ℕ → ℕ → ℕ → Type 0
        At u x y = JumpTo (masks_of rows u) (others_at n (masks_of rows) positions₀ u) (get_or begins u 0) (get_or positions₀ u 0) x y

        less : (i : ℕ) → i ≢ k → i < k + 1 → i < k
        less i z l = omega arith

pub landed_none : (rows begins positions positions₀ wanted : List ℕ) (n : ℕ) → Landed rows begins n positions₀ positions wanted 0
unfolding Landed
landed_none rows begins positions positions₀ wanted n t h = absurd (omega arith)
