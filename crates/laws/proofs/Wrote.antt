-- What is written one behind another: what is written first is kept by what is written behind it, since that begins at the place where the first ends. The laws are in the
-- shape of a function's needs.
use Prim.Native.Nat.{ℕ, suc, ◌+◌, ◌-◌, ◌<◌, ◌≤◌}
use native.Mathlib.Numerals.{add-one}
use native.Mathlib.Nat.{add-zero}
use native.Mathlib.Omega.{arith}
use mathlib.Core.Path.{◌≡◌, refl, sym, ap, ◌∙◌}
use mathlib.Core.List.{List, [], ◌∷◌, ◌++◌, append-nil, append_assoc}
use lib.ListN.{length, take, drop, get_or, set, length-append, length-drop, take-append-drop, drop_of_length-le}
use lib.Seq.{drop-cons, drop-drop, length-take-le, take_all, take_at, drop_at, set_at, append_snoc, take-suc, take-length}
use Rattle.laws.specs.Wrote.{Wrote, filled}

-- the front of the buffer, up to the place behind what is written
front : {A : Type 0} (l a : List A) (at next : ℕ) → next ≡ at + length a → next ≤ length l → length (take at l ++ a) ≡ next
front l a at next e h = let k : at ≤ length l = omega arith in rw (length-append, length-take-le at l k) (sym e)

module _ {A : Type 0} (l l' : List A) (at i : ℕ) (a : List A) (w : Wrote l l' at i a) where
  wrote-front : take i l' ≡ take at l ++ a
  wrote-front = rw w.written (take_at (take at l ++ a) (drop i l) i (front l a at i w.place w.fits))

  wrote-rest : (j : ℕ) → i ≤ j → drop j l' ≡ drop j l
  wrote-rest j h =
      let e : i + (j - i) ≡ j = omega arith in
      let d : drop i l' ≡ drop i l = rw w.written (drop_at (take at l ++ a) (drop i l) i (front l a at i w.place w.fits)) in
      ap (λ k. drop k l') (sym e) ∙ sym (drop-drop (j - i) i l') ∙ ap (drop (j - i)) d ∙ drop-drop (j - i) i l ∙ ap (λ k. drop k l) e

  -- what is written from the start on stands there, and behind it the rest is kept
  pub wrote-start : at ≡ 0 → take i l' ≡ a
  wrote-start z = rw z at wrote-front

  pub wrote_kept : drop i l' ≡ drop i l
  wrote_kept = wrote-rest i (omega arith)

  pub wrote-filled : at ≡ 0 → l' ≡ filled a l
  wrote-filled z =
      let e : i ≡ length a = omega (arith, w.place) in
      w.written ∙ rw (z, e)

  pub wrote-length : length l' ≡ length l
  wrote-length = rw (w.written, length-append, front l a at i w.place w.fits, length-drop) (omega (arith, w.fits))

-- nothing yet
pub wrote_none : {A : Type 0} (l : List A) (at : ℕ) → at ≤ length l → Wrote l l at at []
wrote_none l at h = record { place = sym (add-zero at); fits = h; written = rw append-nil (sym (take-append-drop at l)) }

-- one list behind another
pub wrote-more : {A : Type 0} (l l₁ l₂ : List A) (at i r : ℕ) (a b : List A) → Wrote l l₁ at i a → Wrote l₁ l₂ i r b → Wrote l l₂ at r (a ++ b)
wrote-more l l₁ l₂ at i r a b v w =
    let j : i ≤ r = omega (arith, w.place) in
    record {
      place = rw length-append (omega (arith, v.place, w.place));
      fits = omega (arith, w.fits, wrote-length l l₁ at i a v);
      written = w.written ∙ rw (wrote-front l l₁ at i a v, wrote-rest l l₁ at i a v r j) (ap (λ x. x ++ drop r l) (append_assoc (take at l) a b));
    }

-- three, one behind another
pub wrote-three : {A : Type 0} (l l₁ l₂ l₃ : List A) (at i j r : ℕ) (a b c : List A) → Wrote l l₁ at i a → Wrote l₁ l₂ i j b → Wrote l₂ l₃ j r c
    → Wrote l l₃ at r (a ++ b ++ c)
wrote-three l l₁ l₂ l₃ at i j r a b c u v w = wrote-more l l₂ l₃ at j r (a ++ b) c (wrote-more l l₁ l₂ at i j a b u v) w

-- one element behind it
pub wrote_one : {A : Type 0} (l l' : List A) (at i : ℕ) (a : List A) (b : A) → i < length l → Wrote l l' at i a → Wrote l (set l' i b) at (i + 1) (a ++ (b ∷ []))
wrote_one l l' at i a b h w = record {
  place = rw length-append (omega (arith, w.place));
  fits = omega arith;
  written = rw (w.written, drop-cons l i b h)
      (set_at (take at l ++ a) (get_or l i b) (drop (suc i) l) b i (front l a at i w.place w.fits)
      ∙ sym (append_snoc (take at l ++ a) b (drop (suc i) l)) ∙ rw (add-one i, append_assoc (take at l) a (b ∷ [])));
}

-- ---- a list copied element by element

pub copy-none : {A : Type 0} (l given : List A) (at : ℕ) → at + length given ≤ length l → Wrote l l at (at + 0) (take 0 given)
copy-none l given at h = rw add-zero (wrote_none l at (omega arith))

pub copy_more : {A : Type 0} (l l' given : List A) (at i : ℕ) (d : A) → i < length given → at + length given ≤ length l → Wrote l l' at (at + i) (take i given)
    → Wrote l (set l' (at + i) (get_or given i d)) at (at + (i + 1)) (take (i + 1) given)
copy_more l l' given at i d h k w =
    let e : at + (i + 1) ≡ at + i + 1 = omega arith in
    let t : take (i + 1) given ≡ take i given ++ (get_or given i d ∷ []) = rw add-one (take-suc given i d h) in
    rw (e, t) (wrote_one l l' at (at + i) (take i given) (get_or given i d) (omega arith) w)

pub copy_done : {A : Type 0} (l l' given : List A) (at i : ℕ) → length given ≤ i → i ≤ length given → Wrote l l' at (at + i) (take i given) → Wrote l l' at (at + i) given
copy_done l l' given at i h k w =
    let e : i ≡ length given = omega arith in
    let t : take i given ≡ given = ap (λ k. take k given) e ∙ take-length given in
    rw t at w

-- ---- from its parts

pub start-wrote : {A : Type 0} (l l' : List A) (i : ℕ) (a : List A) → i ≤ length l' → length l' ≡ length l → take i l' ≡ a → drop i l' ≡ drop i l → Wrote l l' 0 i a
start-wrote l l' i a h n t d = record {
  place = omega (arith, length-take-le i l' h, ap length t);
  fits = omega arith;
  written = sym (take-append-drop i l') ∙ rw (t, d);
}

-- what is written at the start of a part that was lent, from a place on, is written at that place of the whole
pub part-wrote : {A : Type 0} (l : List A) (at r : ℕ) (part given : List A) → at ≤ length l → Wrote (take (length l - at) (drop at l)) part 0 r given
    → Wrote l (take at l ++ (part ++ drop (length l - at) (drop at l))) at (at + r) given
part-wrote l at r part given room v =
    let size : length (drop at l) ≤ length l - at = rw length-drop (omega arith) in
    let whole : take (length l - at) (drop at l) ≡ drop at l = take_all (length l - at) (drop at l) size in
    let none_after : drop (length l - at) (drop at l) ≡ [] = drop_of_length-le (drop at l) size in
    let fits : r ≤ length l - at = rw (whole, length-drop) at v.fits in
    record {
      place = omega (arith, v.place);
      fits = omega arith;
      written = ap (λ x. take at l ++ x) (ap (λ x. part ++ x) none_after ∙ append-nil part ∙ v.written
          ∙ ap (λ x. given ++ x) (ap (drop r) whole ∙ drop-drop r at l)) ∙ sym (append_assoc (take at l) given (drop (at + r) l));
    }

-- what fills a buffer's start is settled by the buffer and its length
pub filled-equal : {A : Type 0} (a b l : List A) → length a ≡ length b → filled a l ≡ filled b l → a ≡ b
filled-equal a b l n e =
    sym (take_at a (drop (length a) l) (length a) refl) ∙ ap (take (length a)) e ∙ take_at b (drop (length b) l) (length a) (sym n)
