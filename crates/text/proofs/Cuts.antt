-- A text cut at each byte 10: joining the parts gives the text again, and cutting a joined text gives the parts.
use Prim.Native.Nat.{ℕ, suc, ◌+◌, ◌<◌, ◌≤◌}
use native.Mathlib.Omega.{arith}
use mathlib.Core.Path.{◌≡◌, refl, sym, ap, ◌∙◌}
use mathlib.Core.Bool.{Bool, true, false, not, cond}
use mathlib.Core.List.{List, [], ◌∷◌, ◌++◌, Memᴰ}
use lib.ListN.{length, take, drop, length-drop}
use lib.Seq.{drop-drop}
use lib.Dec.{eqb}
use borrow.Author.Tests.{eqb-true, ne_eqb}
use Rattle.text.specs.Lines.{line_length, Split, push_byte, split}

-- how long a line is, by its first byte
pub line_length-cons : (b : ℕ) (bs : List ℕ) → line_length (b ∷ bs) ≡ cond (eqb b 10) 0 (suc (line_length bs))
unfolding line_length
line_length-cons b bs = go (eqb b 10)
  where
    go : (t : Bool) → cond (not t) (1 + line_length bs) 0 ≡ cond t 0 (suc (line_length bs))
    go true = refl
    go false = omega arith

-- the first line and the rest
pub split-line : (l : List ℕ) → line_length l < length l
    → split l ≡ record { ended = take (line_length l) l ∷ (split (drop (suc (line_length l)) l)).ended; tail = (split (drop (suc (line_length l)) l)).tail }
unfolding split
split-line [] h = absurd (omega arith)
split-line (b ∷ bs) h = rw (line_length-cons b bs) (go (eqb b 10) (split-line bs) (rw (line_length-cons b bs) at h))
  where
    n : ℕ
    n = line_length bs

    go : (t : Bool)
        → (n < length bs → split bs ≡ record { ended = take n bs ∷ (split (drop (suc n) bs)).ended; tail = (split (drop (suc n) bs)).tail })
        → cond t 0 (suc n) < suc (length bs)
        → cond t (record { ended = [] ∷ (split bs).ended; tail = (split bs).tail }) (push_byte b (split bs).ended (split bs).tail)
        ≡ record {
          ended = take (cond t 0 (suc n)) (b ∷ bs) ∷ (split (drop (suc (cond t 0 (suc n))) (b ∷ bs))).ended;
          tail = (split (drop (suc (cond t 0 (suc n))) (b ∷ bs))).tail;
        }
    go true ih h = refl
    go false ih h = ap (λ (p : Split). push_byte b p.ended p.tail) (ih (omega arith))

-- the line at a place of a text, where that is ended, and what stands from the place behind it on
pub split-behind : (text : List ℕ) (at next : ℕ) → next ≡ at + line_length (drop at text) + 1 → next ≤ length text
    → split (drop at text) ≡ record { ended = take (line_length (drop at text)) (drop at text) ∷ (split (drop next text)).ended; tail = (split (drop next text)).tail }
split-behind text at next e h =
    let n = line_length (drop at text) in
    let v : at + suc n ≡ next = omega arith in
    let w : drop (suc n) (drop at text) ≡ drop next text = drop-drop (suc n) at text ∙ ap (λ i. drop i text) v in
    let s = split-line (drop at text) (omega (arith, length-drop at text)) in
    rw w at s

-- no line end
pub split-tail : (l : List ℕ) → length l ≤ line_length l → split l ≡ record { ended = []; tail = l }
unfolding split
split-tail [] h = refl
split-tail (b ∷ bs) h = go (eqb b 10) (split-tail bs) (rw (line_length-cons b bs) at h)
  where
    go : (t : Bool) → (length bs ≤ line_length bs → split bs ≡ record { ended = []; tail = bs }) → suc (length bs) ≤ cond t 0 (suc (line_length bs))
        → cond t (record { ended = [] ∷ (split bs).ended; tail = (split bs).tail }) (push_byte b (split bs).ended (split bs).tail)
        ≡ record { ended = []; tail = b ∷ bs }
    go true ih h = absurd (omega arith)
    go false ih h = ap (λ (p : Split). push_byte b p.ended p.tail) (ih (omega arith))

-- a line without byte 10 in front of a text
pub split-unbroken : (l rest : List ℕ) → (Memᴰ 10 l → ⊥)
    → split (l ++ 10 ∷ rest) ≡ record { ended = l ∷ (split rest).ended; tail = (split rest).tail }
unfolding split
split-unbroken [] rest h = refl
split-unbroken (b ∷ bs) rest h =
    rw (ne_eqb b 10 (λ e. h (Memᴰ.head (sym e)))) (ap (λ (p : Split). push_byte b p.ended p.tail) (split-unbroken bs rest (λ m. h (Memᴰ.tail m))))

-- ended lines and what stands after them, as one text
unfoldable pub joined : List (List ℕ) → List ℕ → List ℕ
joined [] t = t
joined (l ∷ ls) t = l ++ 10 ∷ joined ls t

pub split-joined : (l : List ℕ) → joined (split l).ended (split l).tail ≡ l
unfolding split joined
split-joined [] = refl
split-joined (b ∷ bs) = go (eqb b 10) refl (split-joined bs)
  where
    push : (p : Split) → joined (push_byte b p.ended p.tail).ended (push_byte b p.ended p.tail).tail ≡ b ∷ joined p.ended p.tail
    push p = pushed p.ended p.tail
      where
        pushed : (ls : List (List ℕ)) (t : List ℕ) → joined (push_byte b ls t).ended (push_byte b ls t).tail ≡ b ∷ joined ls t
        pushed [] t = refl
        pushed (l ∷ ls) t = refl

    go : (t : Bool) → eqb b 10 ≡ t → joined (split bs).ended (split bs).tail ≡ bs
        → joined (cond t (record { ended = [] ∷ (split bs).ended; tail = (split bs).tail }) (push_byte b (split bs).ended (split bs).tail)).ended
        (cond t (record { ended = [] ∷ (split bs).ended; tail = (split bs).tail }) (push_byte b (split bs).ended (split bs).tail)).tail
        ≡ b ∷ bs
    go true e ih = cc (eqb-true b 10 e)
    go false e ih = push (split bs) ∙ ap (λ x. b ∷ x) ih
