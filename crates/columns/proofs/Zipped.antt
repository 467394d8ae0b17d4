-- Two columns taken together row by row, as pairs and steps are: a part of both is that part of the rows, and what is put into both is put into the rows.
use Rattle.std.proofs.Common.{◌≡◌, ℕ, zero, suc, List, [], ◌∷◌, ◌++◌, length, take, drop, refl, sym, ap, arith, min}
use Rattle.std.proofs.Math.ListN.{set}
use Rattle.std.specs.Simd.Lanes.{zip2}

module _ {A B C : Type 0} (f : A → B → C) where
  pub zipped-length : (xs : List A) (ys : List B) → length (zip2 f xs ys) ≡ min (length xs) (length ys)
  zipped-length [] ys = omega arith
  zipped-length (x ∷ xs) [] = omega arith
  zipped-length (x ∷ xs) (y ∷ ys) = omega (arith, zipped-length xs ys)

  pub zipped-take : (n : ℕ) (xs : List A) (ys : List B) → take n (zip2 f xs ys) ≡ zip2 f (take n xs) (take n ys)
  zipped-take zero xs ys = refl
  zipped-take (suc n) [] ys = refl
  zipped-take (suc n) (x ∷ xs) [] = refl
  zipped-take (suc n) (x ∷ xs) (y ∷ ys) = ap (λ (l : List C). f x y ∷ l) (zipped-take n xs ys)

  zipped-nil : (xs : List A) → zip2 f xs [] ≡ []
  zipped-nil [] = refl
  zipped-nil (x ∷ xs) = refl

  pub zipped-drop : (n : ℕ) (xs : List A) (ys : List B) → drop n (zip2 f xs ys) ≡ zip2 f (drop n xs) (drop n ys)
  zipped-drop zero xs ys = refl
  zipped-drop (suc n) [] ys = refl
  zipped-drop (suc n) (x ∷ xs) [] = sym (zipped-nil (drop n xs))
  zipped-drop (suc n) (x ∷ xs) (y ∷ ys) = zipped-drop n xs ys

  pub zipped-set : (xs : List A) (ys : List B) (n : ℕ) (x : A) (y : B) → set (zip2 f xs ys) n (f x y) ≡ zip2 f (set xs n x) (set ys n y)
  zipped-set [] ys n x y = refl
  zipped-set (u ∷ xs) [] zero x y = refl
  zipped-set (u ∷ xs) [] (suc n) x y = refl
  zipped-set (u ∷ xs) (v ∷ ys) zero x y = refl
  zipped-set (u ∷ xs) (v ∷ ys) (suc n) x y = ap (λ (l : List C). f u v ∷ l) (zipped-set xs ys n x y)

  pub zipped-append : (us : List A) (vs : List B) (xs : List A) (ys : List B) → length us ≡ length vs → zip2 f (us ++ xs) (vs ++ ys) ≡ zip2 f us vs ++ zip2 f xs ys
  zipped-append [] [] xs ys e = refl
  zipped-append [] (v ∷ vs) xs ys e = absurd (omega arith)
  zipped-append (u ∷ us) [] xs ys e = absurd (omega arith)
  zipped-append (u ∷ us) (v ∷ vs) xs ys e = ap (λ (l : List C). f u v ∷ l) (zipped-append us vs xs ys (omega arith))
