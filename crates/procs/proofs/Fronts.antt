-- The front of a slice, up to the first element that passes a test.
use Prim.Native.Nat.{ℕ, ◌-◌, ◌<◌, ◌≤◌, min}
use native.Mathlib.Omega.{arith}
use mathlib.Core.Path.{◌≡◌, refl, sym, ◌∙◌}
use mathlib.Core.Bool.{Bool, true, false, not, cond}
use mathlib.Core.List.{List, [], ◌∷◌}
use mathlib.Core.Logic.{◌⊎◌, inl, inr}
use borrow.Author.Tests.{ltb-false}
use lib.ListN.{length, take, drop, length-drop, drop_of_length-le}
use Rattle.laws.proofs.Tests.{lt_or_le}
use Rattle.std.specs.Prelude.{Option, Some, None, unwrap_or, nat_lt}
use Rattle.std.specs.List.{position, position_or_len, before_first}
use Rattle.std.proofs.lemmas.List.{take_all}
use Rattle.std.proofs.lemmas.List.Sums.{prefix_len-le-length, take_while-cons}

-- a slice from a place on, or from its end
pub from_place : (k m : ℕ) (xs : List ℕ) → m ≡ min k (length xs) → take (length xs - m) (drop m xs) ≡ drop k xs
from_place k m xs e = take_all (length xs - m) (drop m xs) (omega (arith, length-drop m xs)) ∙ go (lt_or_le (length xs) k)
  where
    go : (length xs < k) ⊎ (k ≤ length xs) → drop m xs ≡ drop k xs
    go (inr h) = let z : m ≡ k = omega arith in rw z
    go (inl h) = drop_of_length-le xs (omega arith) ∙ sym (drop_of_length-le xs (omega arith))

-- where none passes, the whole
pub place_or_end : (p : ℕ → Bool) (xs : List ℕ) → unwrap_or (position p xs) (length xs) ≡ position_or_len p xs
place_or_end p xs = go (nat_lt (position_or_len p xs) (length xs)) refl
  where
    go : (b : Bool) → nat_lt (position_or_len p xs) (length xs) ≡ b → unwrap_or (cond b (Some (position_or_len p xs)) None) (length xs) ≡ position_or_len p xs
    go true e = refl
    go false e = omega (arith, ltb-false (position_or_len p xs) (length xs) e, prefix_len-le-length (λ x. not (p x)) xs)

pub front_found : (p : ℕ → Bool) (r : Option ℕ) (n : ℕ) (xs : List ℕ) → r ≡ position p xs → n ≡ unwrap_or r (length xs) → take n xs ≡ before_first p xs
front_found p r n xs e g = rw (g, e, place_or_end p)

pub before_first-cons : (p : ℕ → Bool) (x : ℕ) (xs : List ℕ) → before_first p (x ∷ xs) ≡ cond (p x) [] (x ∷ before_first p xs)
before_first-cons p x xs = take_while-cons (λ y. not (p y)) x xs ∙ go (p x)
  where
    go : (b : Bool) → cond (not b) (x ∷ before_first p xs) [] ≡ cond b [] (x ∷ before_first p xs)
    go true = refl
    go false = refl
