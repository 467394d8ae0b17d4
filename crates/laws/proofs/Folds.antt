-- The laws of `foldl` in the shape of a loop's needs, for `search`; what stands in a list that is made from another.
use Prim.Native.Nat.{ℕ, zero, suc, ◌+◌, ◌<◌, ◌≤◌}
use native.Mathlib.Numerals.{add-one}
use native.Mathlib.Nat.{le_of_suc-le-suc, not-suc-le-zero}
use mathlib.Core.Path.{◌≡◌, refl}
use mathlib.Core.List.{List, [], ◌∷◌, foldl, map}
use lib.ListN.{length, drop, get_or, drop_of_length-le}
use lib.Seq.{drop-cons}

module _ {A B : Type 0} (f : B → A → B) (s r : B) (l : List A) (i : ℕ) where
  turn : (d : A) → i < length l → foldl f s (drop i l) ≡ foldl f (f s (get_or l i d)) (drop (i + 1) l)
  turn d h = rw (add-one, drop-cons l i d)

  pub fold_again : (t : B) (d : A) → i < length l → t ≡ f s (get_or l i d) → foldl f s (drop i l) ≡ r → foldl f t (drop (i + 1) l) ≡ r
  fold_again t d h e p = rw e (cc (turn d h))

  pub fold_done : length l ≤ i → foldl f s (drop i l) ≡ r → s ≡ r
  fold_done h p = rw drop_of_length-le at p

pub map_at : {A B : Type 0} (f : A → B) (l : List A) (i : ℕ) (d : A) (e : B) → i < length l → get_or (map f l) i e ≡ f (get_or l i d)
map_at f [] i d e h = absurd (not-suc-le-zero h)
map_at f (x ∷ l) zero d e h = refl
map_at f (x ∷ l) (suc i) d e h = map_at f l i d e (le_of_suc-le-suc h)
