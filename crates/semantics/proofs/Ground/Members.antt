-- A list has a member that passes a test exactly where `any` says so.
use Prim.Native.Nat.{ℕ}
use mathlib.Core.Bool.{Bool}
use mathlib.Core.List.Memᴰ
use mathlib.Core.List.{List, [], ◌∷◌, Memᴰ}
use mathlib.Core.Logic.{inl, inr, ⊎_elim}
use mathlib.Core.Path.{◌≡◌, refl, subst}
use lib.Dec.{T}
use Rattle.laws.proofs.Tests.{T-or, or_T}
use Rattle.semantics.specs.Conflict.{any}

pub any-is : (f : ℕ → Bool) (vs : List ℕ) → T (any f vs) → (v : ℕ) × Memᴰ v vs × T (f v)
unfolding any
any-is f (v ∷ vs) t =
    ⊎_elim (λ a. (v, Memᴰ.head refl, a)) (λ b. let r = any-is f vs b in (r.0, Memᴰ.tail r.1, r.2)) (T-or (f v) (any f vs) t)
any-is f [] t = elim t [ ]

pub is_any : (f : ℕ → Bool) (vs : List ℕ) (v : ℕ) → Memᴰ v vs → T (f v) → T (any f vs)
unfolding any
is_any f [] v m t = absurd (Memᴰ.not-nil m)
is_any f (x ∷ vs) v m t =
    or_T (f x) (any f vs) (⊎_elim (λ (e : v ≡ x). inl (subst (λ y. T (f y)) e t)) (λ n. inr (is_any f vs v n t)) (Memᴰ.cases_cons m))
