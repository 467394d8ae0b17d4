-- A part of a text by the numbers of its lines is those lines, whole (`lines_cut`): a text is its lines joined, none of which has a byte 10 within.
use Prim.Native.Nat.{ℕ, zero, suc, ◌+◌, ◌-◌, ◌≤◌}
use native.Mathlib.Omega.{arith}
use mathlib.Core.Path.{◌≡◌, refl, sym, ap, subst, ◌∙◌}
use mathlib.Core.Logic.{⊎_elim}
use mathlib.Core.Bool.{Bool, true, false, cond}
use mathlib.Core.List.Memᴰ
use mathlib.Core.List.{List, [], ◌∷◌, ◌++◌, append_assoc, Memᴰ}
use lib.ListN.{length, take, drop, length-append, take-append-drop}
use lib.Seq.{take_at, drop_at, take-add}
use lib.Dec.{eqb, eqb-suc-zero}
use borrow.Author.Tests.{ne_eqb}
use Rattle.text.specs.Lines.{Split, split, push_byte}
use Rattle.text.proofs.Cuts.{split-unbroken, joined, split-joined}
use Rattle.parts.specs.Parts.{left_after, skip_lines, bytes_in, lines_span}

-- ---- lines passed

skip-none : (l : List ℕ) → skip_lines 0 l ≡ 0
unfolding skip_lines
skip-none [] = refl
skip-none (b ∷ bs) = refl

skip-line : (l rest : List ℕ) (k : ℕ) → (Memᴰ 10 l → ⊥) → skip_lines (suc k) (l ++ 10 ∷ rest) ≡ suc (length l) + skip_lines k rest
unfolding skip_lines left_after
skip-line [] rest k h = let e : suc k - 1 ≡ k = omega arith in rw (eqb-suc-zero k, e) (omega arith)
skip-line (b ∷ l) rest k h =
    let n : b ≡ 10 → ⊥ = λ e. h (Memᴰ.head (sym e)) in
    rw (eqb-suc-zero k, ne_eqb b 10 n) (omega (arith, skip-line l rest k (λ m. h (Memᴰ.tail m))))

-- ---- lines joined

-- no line has a byte 10 within
unfoldable Unbroken : List (List ℕ) → Type 0
Unbroken [] = Unit {0}
Unbroken (l ∷ ls) = (Memᴰ 10 l → ⊥) × Unbroken ls

split-unbroken-lines : (l : List ℕ) → Unbroken (split l).ended
unfolding split Unbroken
split-unbroken-lines [] = tt
split-unbroken-lines (b ∷ bs) = go (eqb b 10) refl (split-unbroken-lines bs)
  where
    push : (ls : List (List ℕ)) (t : List ℕ) → (b ≡ 10 → ⊥) → Unbroken ls → Unbroken (push_byte b ls t).ended
    push [] t n u = tt
    push (l ∷ ls) t n u = (λ m. ⊎_elim (λ (e : 10 ≡ b). n (sym e)) u.0 (Memᴰ.cases_cons m), u.1)

    go : (t : Bool) → eqb b 10 ≡ t → Unbroken (split bs).ended
        → Unbroken (cond t (record { ended = [] ∷ (split bs).ended; tail = (split bs).tail }) (push_byte b (split bs).ended (split bs).tail)).ended
    go true e u = (λ m. Memᴰ.not-nil m, u)
    go false e u = push (split bs).ended (split bs).tail (λ z. let q : ◌≡◌ {A = Bool} true false = rw z at e in let w : ◌≡◌ {A = ℕ} 0 1 = cc in absurd (omega arith)) u

unbroken-take : (n : ℕ) (ls : List (List ℕ)) → Unbroken ls → Unbroken (take n ls)
unfolding Unbroken
unbroken-take zero ls u = tt
unbroken-take (suc n) [] u = tt
unbroken-take (suc n) (l ∷ ls) u = (u.0, unbroken-take n ls u.1)

unbroken-drop : (n : ℕ) (ls : List (List ℕ)) → Unbroken ls → Unbroken (drop n ls)
unfolding Unbroken
unbroken-drop zero ls u = u
unbroken-drop (suc n) [] u = tt
unbroken-drop (suc n) (l ∷ ls) u = unbroken-drop n ls u.1

split-lines : (ls : List (List ℕ)) → Unbroken ls → split (joined ls []) ≡ record { ended = ls; tail = [] }
unfolding joined split Unbroken
split-lines [] u = refl
split-lines (l ∷ ls) u =
    split-unbroken l (joined ls []) u.0 ∙ ap (λ (p : Split). record { ended = l ∷ p.ended; tail = p.tail }) (split-lines ls u.1)

joined_append : (xs ys : List (List ℕ)) (t : List ℕ) → joined (xs ++ ys) t ≡ joined xs [] ++ joined ys t
unfolding joined
joined_append [] ys t = refl
joined_append (x ∷ xs) ys t = ap (λ l. x ++ 10 ∷ l) (joined_append xs ys t) ∙ sym (append_assoc x (10 ∷ joined xs []) (joined ys t))

joined_length : (l : List ℕ) (ls : List (List ℕ)) → length (joined (l ∷ ls) []) ≡ suc (length l) + length (joined ls [])
unfolding joined
joined_length l ls = length-append l (10 ∷ joined ls []) ∙ omega arith

skip-joined : (ls : List (List ℕ)) (t : List ℕ) (k : ℕ) → Unbroken ls → k ≤ length ls → skip_lines k (joined ls t) ≡ length (joined (take k ls) [])
unfolding Unbroken joined
skip-joined ls t zero u h = skip-none (joined ls t)
skip-joined [] t (suc k) u h = absurd (omega arith)
skip-joined (l ∷ ls) t (suc k) u h =
    skip-line l (joined ls t) k u.0 ∙ ap (λ n. suc (length l) + n) (skip-joined ls t k u.1 (omega arith)) ∙ sym (joined_length l (take k ls))

cut-lines : (ls : List (List ℕ)) (t : List ℕ) (a n : ℕ) → Unbroken ls → a + n ≤ length ls
    → bytes_in (joined ls t) (lines_span (joined ls t) a (a + n)) ≡ joined (take n (drop a ls)) []
unfolding lines_span
cut-lines ls t a n u h =
    let x = joined (take a ls) [] in
    let y = joined (take n (drop a ls)) [] in
    let z = joined (drop n (drop a ls)) t in
    let whole : joined ls t ≡ x ++ joined (drop a ls) t = ap (λ l. joined l t) (sym (take-append-drop a ls)) ∙ joined_append (take a ls) (drop a ls) t in
    let later : joined (drop a ls) t ≡ y ++ z = ap (λ l. joined l t) (sym (take-append-drop n (drop a ls))) ∙ joined_append (take n (drop a ls)) (drop n (drop a ls)) t in
    let up_to : length (joined (take (a + n) ls) []) ≡ length x + length y =
    ap (λ l. length (joined l [])) (take-add a n ls) ∙ ap length (joined_append (take a ls) (take n (drop a ls)) []) ∙ length-append x y in
    let size : length x + length y - length x ≡ length y = omega arith in
    rw (skip-joined ls t a u (omega arith), skip-joined ls t (a + n) u h, up_to, size)
    (ap (take (length y)) (ap (drop (length x)) whole ∙ drop_at x (joined (drop a ls) t) (length x) refl ∙ later) ∙ take_at y z (length y) refl)

-- the lines of a part that is whole lines
pub lines_cut : (text : List ℕ) (a n : ℕ) → a + n ≤ length (split text).ended
    → split (bytes_in text (lines_span text a (a + n))) ≡ record { ended = take n (drop a (split text).ended); tail = [] }
lines_cut text a n h =
    let ls = (split text).ended in
    let u = split-unbroken-lines text in
    let bytes : bytes_in text (lines_span text a (a + n)) ≡ joined (take n (drop a ls)) [] =
    subst (λ x. bytes_in x (lines_span x a (a + n)) ≡ joined (take n (drop a ls)) []) (split-joined text) (cut-lines ls (split text).tail a n u h) in
    ap split bytes ∙ split-lines (take n (drop a ls)) (unbroken-take n (drop a ls) (unbroken-drop a ls u))
