-- One row of a table of rows is lent and put back, the others stay: those below lie before it, those above behind it.
use Prim.Native.Nat.{ℕ, ◌+◌, ◌-◌, ◌*◌, ◌%◌, ◌<◌, ◌≤◌}
use native.Mathlib.Omega.{arith}
use mathlib.Core.List.{List, [], ◌∷◌, ◌++◌}
use mathlib.Core.Logic.{⊎_elim, ◌≢◌}
use mathlib.Core.Path.{◌≡◌, refl, sym, ap, ◌∙◌}
use borrow.Rule.Slice.PartMut.{put_mid}
use lib.ListN.{length, take, drop, length-drop, take-append-drop}
use lib.Seq.{length-take-le, take-append-le, drop-append-le, drop-append-add, drop_at, drop-drop}
use Rattle.limits.specs.Limits.{max_size}
use Rattle.laws.proofs.Tests.{lt_or_le}
use Rattle.semantics.specs.Paths.{step_of}
use Rattle.columns.specs.Columns.{steps}
use Rattle.columns.proofs.Steps.{steps-take, steps-drop}

-- a part that ends within the front
front : (p : List ℕ) (m b : ℕ) → b + m ≤ length p → (x : List ℕ) → take m (drop b (p ++ x)) ≡ take m (drop b p)
front p m b h x =
    let k : b ≤ length p = omega arith in
    let j : m ≤ length (drop b p) = omega (arith, length-drop b p) in
    ap (take m) (drop-append-le b p x k) ∙ take-append-le m (drop b p) x j

module _ (s part : List ℕ) (t k : ℕ) (size : k ≡ max_size) (full : length part ≡ max_size) (room : max_size * t + max_size ≤ length s) where
  abbrev at : ℕ
  at = max_size * t

  abbrev pub back : List ℕ
  back = put_mid at k s part

  before : length (take at s) ≡ at
  before = length-take-le at s (omega arith)

  pub row_same : (m : ℕ) → m ≤ max_size → take m (drop at back) ≡ take m part
  row_same m h = ap (take m) (drop_at (take at s) (part ++ drop k (drop at s)) at before) ∙ take-append-le m part (drop k (drop at s)) (omega arith)

  row_below : (u m : ℕ) → u < t → m ≤ max_size → take m (drop (max_size * u) back) ≡ take m (drop (max_size * u) s)
  row_below u m h l =
      let j : max_size * u + m ≤ length (take at s) = omega (arith, before) in
      front (take at s) m (max_size * u) j (part ++ drop k (drop at s)) ∙ sym (front (take at s) m (max_size * u) j (drop at s))
      ∙ ap (λ x. take m (drop (max_size * u) x)) (take-append-drop at s)

  row-above : (u m : ℕ) → t < u → take m (drop (max_size * u) back) ≡ take m (drop (max_size * u) s)
  row-above u m h =
      let e = max_size * u - at - max_size in
      let there : length (take at s) + (length part + e) ≡ max_size * u = omega (arith, before) in
      let same : at + (k + e) ≡ max_size * u = omega arith in
      ap (take m) (ap (λ i. drop i back) (sym there) ∙ drop-append-add (take at s) (part ++ drop k (drop at s)) (length part + e)
      ∙ drop-append-add part (drop k (drop at s)) e ∙ drop-drop e k (drop at s) ∙ drop-drop (k + e) at s ∙ ap (λ i. drop i s) same)

  pub row_other : (u m : ℕ) → u ≢ t → m ≤ max_size → take m (drop (max_size * u) back) ≡ take m (drop (max_size * u) s)
  row_other u m n h = ⊎_elim (λ (b : u < t). row_below u m b h) (λ (b : t ≤ u). row-above u m (omega arith)) (lt_or_le u t)

-- ---- a row of two columns

steps_append : (us vs cs ms : List ℕ) → length us ≡ length vs → steps (us ++ cs) (vs ++ ms) ≡ steps us vs ++ steps cs ms
unfolding steps
steps_append [] [] cs ms e = refl
steps_append [] (v ∷ vs) cs ms e = absurd (omega arith)
steps_append (u ∷ us) [] cs ms e = absurd (omega arith)
steps_append (u ∷ us) (v ∷ vs) cs ms e = ap (λ (l : List ℕ). step_of (u % 4) v ∷ l) (steps_append us vs cs ms (omega arith))

-- a part put back into both is put back into the steps
pub steps_back : (cs ms us vs : List ℕ) (at k : ℕ) → length us ≡ length vs → at ≤ length cs → at ≤ length ms
    → put_mid at k (steps cs ms) (steps us vs) ≡ steps (put_mid at k cs us) (put_mid at k ms vs)
steps_back cs ms us vs at k e h l =
    let front : length (take at cs) ≡ length (take at ms) = length-take-le at cs h ∙ sym (length-take-le at ms l) in
    sym (steps_append (take at cs) (take at ms) (us ++ drop k (drop at cs)) (vs ++ drop k (drop at ms)) front
    ∙ ap (λ x. steps (take at cs) (take at ms) ++ x) (steps_append us vs (drop k (drop at cs)) (drop k (drop at ms)) e)
    ∙ ap (λ x. x ++ (steps us vs ++ steps (drop k (drop at cs)) (drop k (drop at ms)))) (sym (steps-take at cs ms))
    ∙ ap (λ x. take at (steps cs ms) ++ (steps us vs ++ x)) (sym (ap (drop k) (steps-drop at cs ms) ∙ steps-drop k (drop at cs) (drop at ms))))
