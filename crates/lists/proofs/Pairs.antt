-- The list of a procedure stands in the part of the columns that was lent for it, and the pairs before the part stay.
use Prim.Native.Nat.{ℕ, ◌+◌, ◌-◌, ◌≤◌}
use mathlib.Core.List.{List, [], ◌++◌, append_assoc, append-nil}
use mathlib.Core.Path.{◌≡◌, sym, ap, subst, ◌∙◌}
use native.Mathlib.Omega.{arith}
use lib.ListN.{length, take, drop, take-append-drop, length-drop, drop_of_length-le}
use lib.Seq.{take_at, drop_at, take-append-le, drop-append-le, length-take-le, take_all}
use Rattle.limits.specs.Limits.{max_pairs}
use Rattle.laws.specs.Wrote.{Wrote}
use Rattle.laws.proofs.Wrote.{part-wrote}
use Rattle.columns.specs.Columns.{pair_numbers}
use Rattle.columns.proofs.Numbers.{numbers-length, numbers-take, numbers-drop, numbers_append}

-- ---- the part that was lent

-- a part that goes to the end is all that is left, and nothing stands behind it
rest_all : (l : List ℕ) (at : ℕ) → at ≤ length l → take (length l - at) (drop at l) ≡ drop at l
rest_all l at h = take_all (length l - at) (drop at l) (rw length-drop (omega arith))

rest-none : (l : List ℕ) (at : ℕ) → at ≤ length l → drop (length l - at) (drop at l) ≡ []
rest-none l at h = let e : length (drop at l) ≤ length l - at = rw length-drop (omega arith) in drop_of_length-le (drop at l) e

put_back : (l part : List ℕ) (at : ℕ) → at ≤ length l → take at l ++ (part ++ drop (length l - at) (drop at l)) ≡ take at l ++ part
put_back l part at h = ap (λ x. take at l ++ x) (ap (λ x. part ++ x) (rest-none l at h) ∙ append-nil part)

pub listed-from : (ws ms ks : List ℕ) (at r : ℕ) (pm pk : List ℕ) → at + max_pairs ≤ length ms → at + max_pairs ≤ length ks
    → Wrote (pair_numbers (take (length ms - at) (drop at ms)) (take (length ks - at) (drop at ks))) (pair_numbers pm pk) 0 r ws
    → Wrote (pair_numbers ms ks) (pair_numbers (take at ms ++ (pm ++ drop (length ms - at) (drop at ms))) (take at ks ++ (pk ++ drop (length ks - at) (drop at ks)))) at (at + r) ws
listed-from ws ms ks at r pm pk room room' v =
    let all = pair_numbers ms ks in
    let h : at ≤ length all = omega (arith, numbers-length ms ks) in
    let lent : pair_numbers (take (length ms - at) (drop at ms)) (take (length ks - at) (drop at ks)) ≡ take (length all - at) (drop at all) =
    rw (rest_all ms at (omega arith), rest_all ks at (omega arith)) (sym (numbers-drop at ms ks)) ∙ sym (rest_all all at h) in
    let front : length (take at ms) ≡ length (take at ks) = length-take-le at ms (omega arith) ∙ sym (length-take-le at ks (omega arith)) in
    let back : take at all ++ (pair_numbers pm pk ++ drop (length all - at) (drop at all))
    ≡ pair_numbers (take at ms ++ (pm ++ drop (length ms - at) (drop at ms))) (take at ks ++ (pk ++ drop (length ks - at) (drop at ks))) =
    put_back all (pair_numbers pm pk) at h ∙ ap (λ x. x ++ pair_numbers pm pk) (numbers-take at ms ks) ∙ sym (numbers_append (take at ms) (take at ks) pm pk front)
    ∙ sym (rw (put_back ms pm at (omega arith), put_back ks pk at (omega arith))) in
    subst (λ x. Wrote all x at (at + r) ws) back (part-wrote all at r (pair_numbers pm pk) ws h (subst (λ x. Wrote x (pair_numbers pm pk) 0 r ws) lent v))

-- ---- what stands in the lists then

module _ (ws before : List ℕ) (at r : ℕ) (after : List ℕ) (s : Wrote before after at (at + r) ws) where
  front_length : length (take at before) ≡ at
  front_length = length-take-le at before (omega (arith, s.fits))

  pub listed-there : take r (drop at after) ≡ ws
  listed-there =
      rw (s.written, append_assoc (take at before) ws (drop (at + r) before)) (ap (take r) (drop_at (take at before) (ws ++ drop (at + r) before) at front_length) ∙ take_at ws (drop (at + r) before) r (omega (arith, s.place)))

  front : (k b : ℕ) (later : List ℕ) → b + k ≤ at → take k (drop b (take at before ++ later)) ≡ take k (drop b (take at before))
  front k b later h =
      ap (take k) (drop-append-le b (take at before) later (omega (arith, front_length)))
      ∙ take-append-le k (drop b (take at before)) later (rw length-drop (omega (arith, front_length)))

  -- the pairs before are kept
  pub kept-before : (k b : ℕ) → b + k ≤ at → take k (drop b after) ≡ take k (drop b before)
  kept-before k b h =
      ap (λ l. take k (drop b l)) (s.written ∙ append_assoc (take at before) ws (drop (at + r) before))
      ∙ front k b (ws ++ drop (at + r) before) h
      ∙ sym (front k b (drop at before) h)
      ∙ ap (λ l. take k (drop b l)) (take-append-drop at before)
