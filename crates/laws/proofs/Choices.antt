-- A branch in the code and in a definition: the laws of `pick`, and the tests of numbers as rewritings, for `search`.
use Prim.Native.Nat.{ℕ, ◌<◌, ◌≤◌}
use mathlib.Core.Path.{◌≡◌, refl, sym, subst, ◌∙◌}
use mathlib.Core.Bool.{Bool, true, false, not}
use lib.Dec.{T, eqb, ltb, T_not, eqb_refl}
use borrow.Author.Tests.{eq-eqb, ne_eqb, lt-ltb, le-ltb, le-leb, lt-leb}
use Rattle.laws.specs.Choice.{pick}

-- what holds of both ways of a choice
pub pick_elim : {A : Type 0} (P : A → Type 0) (b : Bool) (x y : A) → (b ≡ true → P x) → (b ≡ false → P y) → P (pick b x y)
unfolding pick
pick_elim P true x y f g = f refl
pick_elim P false x y f g = g refl

module _ {A : Type 0} (x y r : A) where
  on_true : (b : Bool) → b ≡ true → r ≡ x → r ≡ pick b x y
  unfolding pick
  on_true b t p = rw t p

  on_false : (b : Bool) → b ≡ false → r ≡ y → r ≡ pick b x y
  unfolding pick
  on_false b t p = rw t p

  pub pick_true : (b q : Bool) → q ≡ b → q ≡ true → r ≡ x → r ≡ pick b x y
  pick_true b q e t = on_true b (sym e ∙ t)

  pub pick-false : (b q : Bool) → q ≡ b → q ≡ false → r ≡ y → r ≡ pick b x y
  pick-false b q e t = on_false b (sym e ∙ t)

  module _ (m n : ℕ) where
    pub pick_eq : m ≡ n → r ≡ x → r ≡ pick (eqb m n) x y
    pick_eq h = on_true (eqb m n) (eq-eqb m n h)

    pub pick_ne : (m ≡ n → ⊥) → r ≡ y → r ≡ pick (eqb m n) x y
    pick_ne h = on_false (eqb m n) (ne_eqb m n h)

    -- another number than n, as an arm of a `match` has found it
    pub pick_other : (k : ℕ) → m ≡ k → T (not (eqb k n)) → r ≡ y → r ≡ pick (eqb m n) x y
    pick_other k e t = on_false (eqb m n) (ne_eqb m n (λ h. T_not (eqb k n) t (subst (λ z. T (eqb k z)) (sym e ∙ h) (eqb_refl k))))

    pub pick_lt : m < n → r ≡ x → r ≡ pick (ltb m n) x y
    pick_lt h = on_true (ltb m n) (lt-ltb m n h)

    pub pick-ge : n ≤ m → r ≡ y → r ≡ pick (ltb m n) x y
    pick-ge h = on_false (ltb m n) (le-ltb m n h)

pub ruleset picks = (pick_true, pick-false, pick_eq, pick_ne, pick_lt, pick-ge)

-- the arms of a `match` on a number
pub ruleset arms = (pick_eq, pick_other, pick_ne, pick_lt, pick-ge)

pub ruleset tests = (eq-eqb, ne_eqb, lt-ltb, le-ltb, le-leb, lt-leb)
