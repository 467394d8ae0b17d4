-- A line has the kind `Some f` exactly when it is the bytes in which f is written. One way each choice of the decision is inverted: a keyword stands there, or the
-- digits of a number below 1,000 stand where they should; the other way the decision is computed on the bytes of each form.
use Prim.Native.Nat.{ℕ, ◌-◌, ◌<◌, ◌≤◌}
use native.Mathlib.Omega.{arith}
use mathlib.Core.Path.{◌≡◌, refl, sym, ap, subst, ◌∙◌}
use mathlib.Core.Logic.{◌↔◌, ⊎_elim}
use mathlib.Core.Bool.{Bool, true, false, not, cond}
use mathlib.Core.List.Memᴰ
use mathlib.Core.List.{List, [], ◌∷◌, ◌++◌, Memᴰ}
use lib.ListN.{length, take, drop, length-append, take-append-drop}
use lib.Seq.{take-append_seam, drop-append_seam}
use lib.Dec.{eqb}
use borrow.Author.Tests.{ne_eqb}
use Rattle.std.specs.Prelude.{Option, Some, None}
use Rattle.std.specs.Option.{option_map}
use Rattle.std.specs.Bool.{then_some}
use lib.Pointwise.{pointwise, bytes_decides}
use Rattle.std.specs.Cmp.{first_so, second_so}
use Rattle.std.specs.List.{list_all}
use Rattle.std.proofs.lemmas.List.Folds.{list_all-append}
use Rattle.std.proofs.lemmas.Bool.Decides.{nat_tests}
use Rattle.laws.specs.Bytes.{bytes}
use Rattle.std.proofs.lemmas.Bool.{cond_both}
use Rattle.text.specs.declared.Form.{Form}
use Rattle.text.specs.declared.Form.TheVariants.{Plan, Proc, Thread, Close, Skip, Call, Hold, Loop, Either, One, Two, Share}
use Rattle.text.specs.Forms.{decimal, write, number_in, IsForm}
use Rattle.text.specs.Kinds.{digit_of, leading_of, append_digit, number_of, after_keyword, between_keyword, keyword_kind, kind_of}

-- digits, read and written

record IsDecimal (l : List ℕ) (n : ℕ) : Type 0 where
  small : n < 1000
  written : l ≡ decimal n

one-digit : (a n : ℕ) → digit_of a ≡ Some n → IsDecimal (a ∷ []) n
unfolding decimal
one-digit a n e = record { small = grind (arith, nat_tests); written = grind (arith, nat_tests) }

two-digits : (a b n : ℕ) → append_digit (leading_of a) (digit_of b) ≡ Some n → IsDecimal (a ∷ b ∷ []) n
unfolding decimal
two-digits a b n e = record { small = grind (arith, nat_tests); written = grind (arith, nat_tests) }

three-digits : (a b c n : ℕ) → append_digit (append_digit (leading_of a) (digit_of b)) (digit_of c) ≡ Some n → IsDecimal (a ∷ b ∷ c ∷ []) n
unfolding decimal
three-digits a b c n e = record { small = grind (arith, nat_tests); written = grind (arith, nat_tests) }

number_inv : (l : List ℕ) (n : ℕ) → number_of l ≡ Some n → IsDecimal l n
unfolding number_of
number_inv [] n e = cc
number_inv (a ∷ []) n e = one-digit a n e
number_inv (a ∷ b ∷ []) n e = two-digits a b n e
number_inv (a ∷ b ∷ c ∷ []) n e = three-digits a b c n e
number_inv (a ∷ b ∷ c ∷ d ∷ l) n e =
    let k = length (a ∷ b ∷ c ∷ d ∷ l) in
    cc (rw (ne_eqb k 1 (λ h. omega arith), ne_eqb k 2 (λ h. omega arith), ne_eqb k 3 (λ h. omega arith)) at e)

-- the decision on a number's own digits
number-decimal : (n : ℕ) → n < 1000 → number_of (decimal n) ≡ Some n
unfolding number_of decimal
number-decimal n h = grind (arith, nat_tests)

-- the number after a keyword, and between a keyword and a bracket

after_inv : (l w : List ℕ) (n : ℕ) → after_keyword l w ≡ Some n → IsDecimal (drop (length w) l) n × (l ≡ w ++ decimal n)
unfolding after_keyword
after_inv l w n = go (pointwise eqb (take (length w) l) w) refl
  where
    go : (t : Bool) → pointwise eqb (take (length w) l) w ≡ t → cond t (number_of (drop (length w) l)) None ≡ Some n → IsDecimal (drop (length w) l) n × (l ≡ w ++ decimal n)
    go true t e =
        let d = number_inv (drop (length w) l) n e in
        let s = (bytes_decides (take (length w) l) w).0 t in
        (d, sym (take-append-drop (length w) l) ∙ rw (s, d.written))
    go false t e = cc

after_keyword_lem : (w d : List ℕ) → after_keyword (w ++ d) w ≡ number_of d
unfolding after_keyword
after_keyword_lem w d = rw (take-append_seam, (bytes_decides w w).1 refl, drop-append_seam)

between_inv : (l w : List ℕ) (n : ℕ) → between_keyword l w ≡ Some n → (n < 1000) × (l ≡ w ++ decimal n ++ (41 ∷ []))
unfolding between_keyword
between_inv l w n = go (pointwise eqb (drop (length l - 1) l) (41 ∷ [])) refl
  where
    go : (t : Bool) → pointwise eqb (drop (length l - 1) l) (41 ∷ []) ≡ t → cond t (after_keyword (take (length l - 1) l) w) None ≡ Some n
        → (n < 1000) × (l ≡ w ++ decimal n ++ (41 ∷ []))
    go true t e =
        let d = after_inv (take (length l - 1) l) w n e in
        let s = (bytes_decides (drop (length l - 1) l) (41 ∷ [])).0 t in
        (d.0.small, sym (take-append-drop (length l - 1) l) ∙ rw (s, d.1))
    go false t e = cc

between_keyword_lem : (w d : List ℕ) → between_keyword (w ++ d ++ (41 ∷ [])) w ≡ number_of d
unfolding between_keyword
between_keyword_lem w d =
    let k : length (w ++ d ++ (41 ∷ [])) - 1 ≡ length (w ++ d) = omega (arith, length-append {A = ℕ}) in
    rw (k, drop-append_seam, take-append_seam) (after_keyword_lem w d)

-- the forms that a kind lets through are written so
abbrev Right : List ℕ → Option Form → Type 0
Right l k = (f : Form) → k ≡ Some f → IsForm l f

right_keyword : (l : List ℕ) (g : Form) → number_in g < 1000 → Right l (keyword_kind l (write g) g)
unfolding keyword_kind
right_keyword l g h f = go (pointwise eqb l (write g)) refl
  where
    go : (t : Bool) → pointwise eqb l (write g) ≡ t → then_some t g ≡ Some f → IsForm l f
    go true t e = let k : g ≡ f = cc in subst (IsForm l) k (record { small = h; written = (bytes_decides l (write g)).0 t })
    go false t e = cc

right_number : (l : List ℕ) (g : ℕ → Form) (p : Option ℕ) → ((n : ℕ) → p ≡ Some n → IsForm l (g n)) → Right l (option_map g p)
right_number l g (Some n) h f e = let k : g n ≡ f = cc in subst (IsForm l) k (h n refl)
right_number l g None h f e = cc

right-after : (l w : List ℕ) (g : ℕ → Form) → ((n : ℕ) → number_in (g n) ≡ n) → ((n : ℕ) → write (g n) ≡ w ++ decimal n) → Right l (option_map g (after_keyword l w))
right-after l w g i e =
    right_number l g (after_keyword l w) (λ n k. let a = after_inv l w n k in record { small = omega (arith, i n, a.0.small); written = a.1 ∙ sym (e n) })

right-between : (l w : List ℕ) (g : ℕ → Form) → ((n : ℕ) → number_in (g n) ≡ n) → ((n : ℕ) → write (g n) ≡ w ++ decimal n ++ (41 ∷ [])) → Right l (option_map g (between_keyword l w))
right-between l w g i e =
    right_number l g (between_keyword l w) (λ n k. let a = between_inv l w n k in record { small = omega (arith, i n, a.0); written = a.1 ∙ sym (e n) })

-- both ways of a choice are right
right-pick : (l : List ℕ) (b : Bool) (x y : Option Form) → Right l x → Right l y → Right l (cond b x y)
right-pick l b x y p q = cond_both b x y (Right l) (λ t. p) (λ t. q)

right-kind : (l : List ℕ) → Right l (kind_of l)
unfolding kind_of write number_in
right-kind l =
    right-pick l _ _ _ (right_keyword l Skip (omega arith))
    (right-pick l _ _ _ (right-after l (bytes "(share ") Share (λ n. refl) (λ n. refl))
    (right-pick l _ _ _ (right-between l (bytes "(call ") Call (λ n. refl) (λ n. refl))
    (right-pick l _ _ _ (right-after l (bytes "(hold ") Hold (λ n. refl) (λ n. refl))
    (right-pick l _ _ _ (right_keyword l Loop (omega arith))
    (right-pick l _ _ _ (right_keyword l Either (omega arith))
    (right-pick l _ _ _ (right_keyword l One (omega arith))
    (right-pick l _ _ _ (right_keyword l Two (omega arith))
    (right-pick l _ _ _ (right-between l (bytes "(thread ") Thread (λ n. refl) (λ n. refl))
    (right-pick l _ _ _ (right_keyword l Plan (omega arith))
    (right-pick l _ _ _ (right_keyword l Proc (omega arith)) (right_keyword l Close (omega arith))))))))))))

-- the kind of a form as it is written
written-kind : (f : Form) → number_in f < 1000 → kind_of (write f) ≡ Some f
unfolding kind_of keyword_kind write number_in
written-kind (Thread n) h = ap (option_map Thread) (between_keyword_lem (bytes "(thread ") (decimal n) ∙ number-decimal n h)
written-kind (Call n) h = ap (option_map Call) (between_keyword_lem (bytes "(call ") (decimal n) ∙ number-decimal n h)
written-kind (Hold n) h = ap (option_map Hold) (after_keyword_lem (bytes "(hold ") (decimal n) ∙ number-decimal n h)
written-kind (Share n) h = ap (option_map Share) (after_keyword_lem (bytes "(share ") (decimal n) ∙ number-decimal n h)
written-kind f h = refl

pub kind-written : (l : List ℕ) (f : Form) → (kind_of l ≡ Some f) ↔ IsForm l f
kind-written l f = (right-kind l f, λ w. ap kind_of w.written ∙ written-kind f w.small)

-- and so a line is unknown exactly when it is no written form
pub unknown-written : (l : List ℕ) → (kind_of l ≡ None) ↔ ((f : Form) → IsForm l f → ⊥)
unknown-written l = (λ e f w. cc (e, (kind-written l f).1 w), go (kind_of l) refl)
  where
    go : (k : Option Form) → kind_of l ≡ k → ((f : Form) → IsForm l f → ⊥) → k ≡ None
    go (Some f) e h = absurd (h f ((kind-written l f).0 e))
    go None e h = refl

-- a written form has a byte, and byte 10 is none of its bytes

pub write-some : (f : Form) → 1 ≤ length (write f)
unfolding write
write-some Plan = omega arith
write-some f = omega arith

abbrev other : ℕ → Bool
other b = not (eqb b 10)

ne_10 : (b : ℕ) → b ≡ 10 → other b ≡ true → ⊥
ne_10 b e h = grind (arith, nat_tests)

unbroken-is : (l : List ℕ) → list_all other l ≡ true → Memᴰ 10 l → ⊥
unbroken-is [] t m = Memᴰ.not-nil m
unbroken-is (b ∷ bs) t m = ⊎_elim (λ (e : 10 ≡ b). absurd (ne_10 b (sym e) (first_so (other b) (list_all other bs) t))) (unbroken-is bs (second_so (other b) (list_all other bs) t)) (Memᴰ.cases_cons m)

unbroken-decimal : (n : ℕ) → list_all other (decimal n) ≡ true
unfolding decimal
unbroken-decimal n = grind (arith, nat_tests)

unbroken : (f : Form) → list_all other (write f) ≡ true
unfolding write
unbroken (Thread n) = rw (list_all-append, unbroken-decimal n)
unbroken (Call n) = rw (list_all-append, unbroken-decimal n)
unbroken (Hold n) = unbroken-decimal n
unbroken (Share n) = unbroken-decimal n
unbroken f = refl

pub write-unbroken : (f : Form) → Memᴰ 10 (write f) → ⊥
write-unbroken f = unbroken-is (write f) (unbroken f)
