-- Numbers as bytes, one behind another: of the first numbers of a list one more is written at each turn, over the part of the buffer that is its own.
use Rattle.std.proofs.Common.{◌≡◌, ℕ, zero, suc, ◌+◌, ◌-◌, ◌*◌, ◌<◌, ◌≤◌, List, [], ◌∷◌, ◌++◌, length, get_or, take, drop, map, refl, sym, ap, ◌∙◌, arith, append_assoc, drop-drop, add-one, mul-le-mul_right}
use Rattle.std.proofs.lemmas.Grind.{common_steps}
use Rattle.std.proofs.Math.Nat.{zero-mul, suc-mul}
use Rattle.std.proofs.lemmas.List.{map_more, take-map}
use mathlib.Core.List.{append-nil}
use mathlib.Core.Path.{subst}
use lib.ListN.{drop_of_length-le}
use lib.Seq.{drop-cons}
use borrow.Rule.Slice.PartMut.{put_mid}
use Rattle.laws.specs.Wrote.{Wrote}
use Rattle.laws.proofs.Wrote.{wrote_none, wrote-more, wrote-length}
use Rattle.buffers.specs.LittleEndian.{number_bytes, list_bytes}

-- what is written over a part is written at its place
pub part-put : (l part : List ℕ) (at n : ℕ) → length part ≡ n → at + n ≤ length l → Wrote l (put_mid at n l part) at (at + n) part
part-put l part at n e h = record {
  place = rw e;
  fits = h;
  written = ap (λ x. take at l ++ (part ++ x)) (drop-drop n at l) ∙ sym (append_assoc (take at l) part (drop (at + n) l));
}

number_bytes-length : (w x : ℕ) → length (number_bytes w x) ≡ w
unfolding number_bytes
number_bytes-length zero x = refl
number_bytes-length (suc w) x = ap suc (number_bytes-length w _)

list_bytes-one : (w : ℕ) (xs : List ℕ) (x : ℕ) → list_bytes w (xs ++ (x ∷ [])) ≡ list_bytes w xs ++ number_bytes w x
unfolding list_bytes
list_bytes-one w [] x = grind (arith, common_steps)
list_bytes-one w (y ∷ ys) x = ap (λ l. number_bytes w y ++ l) (list_bytes-one w ys x) ∙ sym (append_assoc (number_bytes w y) (list_bytes w ys) (number_bytes w x))

module _ {T : Type 0} (value : T → ℕ) (w : ℕ) (numbers : List T) (out₀ : List ℕ) where
  pub numbers_none : Wrote out₀ out₀ 0 (0 * w) (list_bytes w [])
  unfolding list_bytes
  numbers_none = rw (zero-mul w) (wrote_none out₀ 0 (omega arith))

  -- one number more
  pub numbers_more : (out : List ℕ) (i : ℕ) (x : T) (part : List ℕ) → length numbers * w ≤ length out₀ → i < length numbers → x ≡ get_or numbers i x → part ≡ number_bytes w (value x)
      → Wrote out₀ out 0 (i * w) (list_bytes w (take i (map value numbers)))
      → Wrote out₀ (put_mid (i * w) ((i + 1) * w - i * w) out part) 0 ((i + 1) * w) (list_bytes w (take (i + 1) (map value numbers)))
  numbers_more out i x part room h is e wrote =
      let step : (i + 1) * w ≡ i * w + w = rw (add-one i) (suc-mul i w) in
      let size : (i + 1) * w - i * w ≡ w = omega arith in
      let fits : (i + 1) * w ≤ length out = let all : (i + 1) * w ≤ length numbers * w = mul-le-mul_right w (omega arith) in omega (arith, wrote-length out₀ out _ _ _ wrote) in
      let more : list_bytes w (take (i + 1) (map value numbers)) ≡ list_bytes w (take i (map value numbers)) ++ part =
      rw (take-map value (i + 1) numbers, take-map value i numbers, map_more value numbers i x h, ← is, e) (list_bytes-one w (map value (take i numbers)) (value x)) in
      let mid : Wrote out (put_mid (i * w) w out part) (i * w) (i * w + w) part = part-put out part (i * w) w (rw e (number_bytes-length w (value x))) (omega arith) in
      rw (more, size, step) (wrote-more out₀ out _ 0 (i * w) (i * w + w) _ part wrote mid)

-- ---- a list of numbers with what is left of it: what is written already with the bytes that are left is the whole

-- a part of the whole is written from place `at` up to i, and the rest is left
pub record Partly (out out₀ : List ℕ) (at i : ℕ) (left whole : List ℕ) : Type 0 where
  pub part : List ℕ
  pub wrote : Wrote out₀ out at i part
  pub together : part ++ left ≡ whole

partly_done : (out out₀ : List ℕ) (at i : ℕ) (whole : List ℕ) → Partly out out₀ at i [] whole → Wrote out₀ out at i whole
partly_done out out₀ at i whole f = rw (sym (append-nil f.part) ∙ f.together) at f.wrote

module _ (w : ℕ) (pairs out out₀ : List ℕ) (i : ℕ) where
  -- the next number is written
  pub list-more : (out' : List ℕ) (v : ℕ) → Wrote out out' (i * w) (i * w + w) (number_bytes w v) → v ≡ get_or pairs i 0 → i < length pairs
      → Partly out out₀ 0 (i * w) (list_bytes w (drop i pairs)) (list_bytes w pairs) → Partly out' out₀ 0 ((i + 1) * w) (list_bytes w (drop (i + 1) pairs)) (list_bytes w pairs)
  unfolding list_bytes
  list-more out' v a g h f =
      let step : (i + 1) * w ≡ i * w + w = rw (add-one i) (suc-mul i w) in
      let rest : drop i pairs ≡ v ∷ drop (i + 1) pairs = rw (add-one i, g) (drop-cons pairs i 0 h) in
      rw step (record {
        part = f.part ++ number_bytes w v;
        wrote = wrote-more out₀ out out' 0 (i * w) (i * w + w) f.part (number_bytes w v) f.wrote a;
        together = append_assoc f.part (number_bytes w v) (list_bytes w (drop (i + 1) pairs)) ∙ rw rest at f.together;
      })

  -- all are written
  pub list_done : length pairs ≤ i → i ≤ length pairs → Partly out out₀ 0 (i * w) (list_bytes w (drop i pairs)) (list_bytes w pairs) → Wrote out₀ out 0 (length pairs * w) (list_bytes w pairs)
  unfolding list_bytes
  list_done h k f =
      let e : i ≡ length pairs = omega arith in
      subst (λ n. Wrote out₀ out 0 (n * w) (list_bytes w pairs)) e (partly_done out out₀ 0 (i * w) (list_bytes w pairs) (rw (drop_of_length-le pairs h) at f))
