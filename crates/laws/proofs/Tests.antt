-- Tests and what they say, and a search below a bound.
use Prim.Native.Nat.{ℕ, zero, suc, ◌<◌, ◌≤◌}
use mathlib.Core.Bool.{Bool, true, false, ◌&&◌, ◌||◌, cond}
use mathlib.Core.List.Memᴰ
use mathlib.Core.List.{[], ◌∷◌, Memᴰ}
use mathlib.Core.Logic.{◌⊎◌, inl, inr, ⊎_elim, ◌≢◌}
use mathlib.Core.Option.{Option, none, some, none-ne-some, bind, or_else, some-ne-none}
use mathlib.Core.Path.{◌≡◌, refl, subst}
use native.Mathlib.Nat.{not-suc-le-zero, eq-or-lt_of_le}
use native.Mathlib.Omega.{arith}
use lib.Dec.{T, ltb, eqb, ltb→lt, nltb→le, not_T, eqb→eq, eqb_refl}

pub T_and : (a b : Bool) → T (a && b) → T a × T b
T_and true true t = (tt, tt)
T_and false b t = elim t [ ]
T_and true false t = elim t [ ]

pub and_T : (a b : Bool) → T a → T b → T (a && b)
and_T true true p q = tt
and_T false b p q = elim p [ ]
and_T true false p q = elim q [ ]

pub T-dec : (b : Bool) → T b ⊎ (T b → ⊥)
T-dec true = inl tt
T-dec false = inr (λ t. t)

pub T_true : (b : Bool) → T b → b ≡ true
T_true true t = refl
T_true false t = elim t [ ]

pub T_false : (b : Bool) → (T b → ⊥) → b ≡ false
T_false true f = absurd (f tt)
T_false false f = refl

pub same_test : (a b : Bool) → (T a → T b) → (T b → T a) → a ≡ b
same_test true true f g = refl
same_test true false f g = absurd (f tt)
same_test false true f g = absurd (g tt)
same_test false false f g = refl

pub eq→eqb : (a b : ℕ) → a ≡ b → T (eqb a b)
eq→eqb a b e = subst (λ n. T (eqb a n)) e (eqb_refl a)

pub eq_or_ne : (a b : ℕ) → (a ≡ b) ⊎ (a ≢ b)
eq_or_ne a b = ⊎_elim (λ t. inl (eqb→eq a b t)) (λ f. inr (λ e. f (eq→eqb a b e))) (T-dec (eqb a b))

pub lt_or_le : (a b : ℕ) → (a < b) ⊎ (b ≤ a)
lt_or_le a b = ⊎_elim (λ t. inl (ltb→lt a b t)) (λ f. inr (nltb→le a b (not_T (ltb a b) f))) (T-dec (ltb a b))

pub eqb-cases : (a b : ℕ) → ((a ≡ b) × (eqb a b ≡ true)) ⊎ ((a ≢ b) × (eqb a b ≡ false))
eqb-cases a b =
    ⊎_elim (λ t. inl (eqb→eq a b t, T_true (eqb a b) t)) (λ f. inr (λ e. f (eq→eqb a b e), T_false (eqb a b) f)) (T-dec (eqb a b))

pub T-or : (a b : Bool) → T (a || b) → T a ⊎ T b
T-or true b t = inl tt
T-or false b t = inr t

pub or_T : (a b : Bool) → T a ⊎ T b → T (a || b)
or_T true b t = tt
or_T false b t = ⊎_elim absurd (λ x. x) t

pub bind_inv : {A B : Type 0} (o : Option A) (f : A → Option B) (b : B) → bind o f ≡ some b → (a : A) × (o ≡ some a) × (f a ≡ some b)
unfolding bind
bind_inv none f b h = absurd (none-ne-some b h)
bind_inv (some a) f b h = (a, refl, h)

-- neither of two stands where the first that does is none
pub first-none : {A : Type 0} (o p : Option A) → or_else o p ≡ none → (o ≡ none) × (p ≡ none)
unfolding or_else
first-none none p h = (refl, h)
first-none (some a) p h = absurd (some-ne-none a h)

-- the first of three, however they are taken together
pub first_assoc : {A : Type 0} (o p q : Option A) → or_else (or_else o p) q ≡ or_else o (or_else p q)
unfolding or_else
first_assoc none p q = refl
first_assoc (some a) p q = refl

-- the list of x where c holds, and else of nothing
pub only : (w x : ℕ) (c : Bool) → Memᴰ w (cond c (x ∷ []) []) → T c × (w ≡ x)
only w x true m = (tt, Memᴰ.eq_of_singleton m)
only w x false m = absurd (Memᴰ.not-nil m)

-- the first n numbers hold one that passes, or none passes
pub search_below : (n : ℕ) (p : ℕ → Bool) → ((k : ℕ) × (k < n) × T (p k)) ⊎ ((k : ℕ) → k < n → T (p k) → ⊥)
search_below zero p = inr (λ k b t. not-suc-le-zero b)
search_below (suc n) p =
    ⊎_elim (λ t. inl (n, omega arith, t))
    (λ f. ⊎_elim (λ (r : (k : ℕ) × (k < n) × T (p k)). inl (r.0, omega arith, r.2))
    (λ (g : (k : ℕ) → k < n → T (p k) → ⊥).
    inr (λ k b t. ⊎_elim (λ (e : k ≡ n). f (subst (λ m. T (p m)) e t)) (λ (c : k < n). g k c t) (eq-or-lt_of_le (omega arith))))
    (search_below n p))
    (T-dec (p n))
