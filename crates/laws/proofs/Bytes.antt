-- `equal` says exactly that two lists are equal, and so it is what any exact test of that answers.
use Prim.Native.Nat.{ℕ}
use mathlib.Core.Bool.{Bool, true, false, cond}
use mathlib.Core.List.{List, [], ◌∷◌}
use mathlib.Core.Path.{◌≡◌, refl, sym}
use lib.Dec.{eqb}
use borrow.Author.Tests.{eq-eqb, eqb-true}
use Rattle.laws.specs.Bytes.{equal}

pub equal-refl : (a : List ℕ) → equal a a ≡ true
unfolding equal
equal-refl [] = refl
equal-refl (x ∷ xs) = rw (eq-eqb x x refl) (equal-refl xs)

pub equal_is : (a b : List ℕ) → equal a b ≡ true → a ≡ b
unfolding equal
equal_is [] [] e = refl
equal_is [] (y ∷ ys) e = cc
equal_is (x ∷ xs) [] e = cc
equal_is (x ∷ xs) (y ∷ ys) e = go (eqb x y) refl (equal_is xs ys) e
  where
    go : (t : Bool) → eqb x y ≡ t → (equal xs ys ≡ true → xs ≡ ys) → cond t (equal xs ys) false ≡ true → x ∷ xs ≡ y ∷ ys
    go true d rest e = cc (eqb-true x y d, rest e)
    go false d rest e = cc

pub equal-same : (a b : List ℕ) → a ≡ b → equal a b ≡ true
equal-same a b e = rw e (equal-refl b)

-- a flag that is true exactly where the lists are equal
pub flag_equal : (a b : List ℕ) (r : Bool) → (r ≡ true → a ≡ b) → (a ≡ b → r ≡ true) → r ≡ equal a b
flag_equal a b true f g = sym (equal-same a b (f refl))
flag_equal a b false f g = go (equal a b) refl
  where
    go : (t : Bool) → equal a b ≡ t → false ≡ t
    go true e = g (equal_is a b e)
    go false e = refl
