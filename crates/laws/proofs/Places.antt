-- What stands at a place of a table: of one with zeros alone, of one whose front is kept, of a part as it is lent.
use Prim.Native.Nat.{ℕ, zero, suc, ◌+◌, ◌-◌, ◌≤◌, ◌<◌}
use native.Mathlib.Omega.{arith}
use mathlib.Core.List.{List}
use mathlib.Core.Path.{◌≡◌, refl, sym, ap, ◌∙◌}
use lib.ListN.{length, take, drop, get_or, replicate}
use lib.Seq.{get_or-take, length-take-le, take-add, drop_at, slice}

pub zeros_at : (n i : ℕ) → ◌≡◌ {A = ℕ} (get_or (replicate n 0) i 0) 0
zeros_at zero i = refl
zeros_at (suc n) zero = refl
zeros_at (suc n) (suc i) = zeros_at n i

module _ {A : Type 0} where
  pub front_at : (n : ℕ) (l front : List A) → take n l ≡ front → (i : ℕ) (d : A) → i < n → get_or l i d ≡ get_or front i d
  front_at n l front e i d h = sym (get_or-take n l i d h) ∙ ap (λ m. get_or m i d) e

  pub kept_at : (n : ℕ) (before after : List A) → take n after ≡ take n before → (i : ℕ) (d : A) → i < n → get_or after i d ≡ get_or before i d
  kept_at n before after e i d h = front_at n after (take n before) e i d h ∙ get_or-take n before i d h

  pub lent_slice : (a b : ℕ) (l : List A) → a ≤ b → a ≤ length l → take (b - a) (drop a l) ≡ slice a b l
  lent_slice a b l h room =
      let e : a + (b - a) ≡ b = omega arith in
      sym (drop_at (take a l) (take (b - a) (drop a l)) a (length-take-le a l room))
      ∙ ap (drop a) (sym (take-add a (b - a) l) ∙ ap (λ n. take n l) e)
