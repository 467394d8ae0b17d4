-- What an array's `map` gives, whose closure computes a function and keeps what it captured.
use Prim.Native.Nat.{ℕ, zero, suc, ◌+◌, ◌<◌, ◌≤◌}
use native.Mathlib.Omega.{arith}
use mathlib.Core.Path.{◌≡◌, sym, ap, subst, ◌∙◌}
use mathlib.Core.List.{List, map}
use mathlib.Core.Logic.{⊎_elim}
use native.Mathlib.Nat.{eq-or-lt_of_le}
use denote.Param.Members.{Mut}
use lib.ListN.{length, get_or, length-map}
use Rattle.std.specs.Array.{IsMapOf, MapsFrom}
use Rattle.std.specs.Fn.{Called}
use Rattle.std.proofs.lemmas.List.{same_lists}
use Rattle.laws.proofs.Folds.{map_at}

module _ {F A B : Type 0} (g : Mut F (A × Unit {0}) B) (h : A → B) (f : F) (same : (x : A) (y : B) (q : F) → Called g f (x, tt) y q → (q ≡ f) × (y ≡ h x)) (xs : List A) (ys : List B) where
  at_each : (n i k : ℕ) (d : A) (e : B) → MapsFrom g f xs ys i n → i ≤ k → k < i + n → get_or ys k e ≡ h (get_or xs k d)
  at_each zero i k d e m a b = absurd (omega arith)
  at_each (suc n) i k d e (q, x, y, u, v, c, m) a b =
      let s = same x y q c in
      ⊎_elim (λ (z : i ≡ k). subst (λ j. get_or ys j e ≡ h (get_or xs j d)) z (v.1 e ∙ s.1 ∙ ap h (sym (u.1 d))))
      (λ (z : i < k). at_each n (i + 1) k d e (subst (λ p. MapsFrom g p xs ys (i + 1) n) s.0 m) (omega arith) (omega arith)) (eq-or-lt_of_le a)

  pub mapped : (d : A) (n : ℕ) → length xs ≡ n → IsMapOf g f xs ys n → ys ≡ map h xs
  mapped d n l m =
      same_lists ys (map h xs) (m.long ∙ sym l ∙ sym (length-map xs h)) (λ k e b.
      at_each n 0 k d e m.each (omega arith) (omega (arith, m.long)) ∙ sym (map_at h xs k d e (omega (arith, m.long))))
