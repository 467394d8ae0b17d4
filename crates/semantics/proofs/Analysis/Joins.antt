-- The join of masks over the numbers below a bound that pass a test: a number is in it just if it is in one of them.
use Prim.Native.Nat.{ℕ, zero, suc, ◌<◌}
use mathlib.Core.Bool.{Bool, true, false, cond}
use mathlib.Core.Logic.{⊎_elim, ◌≢◌}
use mathlib.Core.Path.{◌≡◌, sym, ap, ◌∙◌, subst}
use native.Mathlib.Nat.{not-suc-le-zero, eq-or-lt_of_le}
use native.Mathlib.Omega.{arith}
use lib.Dec.{T, eqb, eqb→eq, not_T}
use Rattle.laws.specs.Mask.{bit}
use Rattle.laws.proofs.Tests.{T_true}
use Rattle.laws.proofs.Bits.{bit-none, or_cases, or_left, or_right}
use Rattle.semantics.specs.Joins.{join_below, other_than}

pub other_than_lem : (t u : ℕ) → u ≢ t → T (other_than t u)
other_than_lem t u d = not_T (eqb u t) (λ e. d (eqb→eq u t e))

module _ (p : ℕ → Bool) (f : ℕ → ℕ) (l : ℕ) where
  pub in_join : (n u : ℕ) → u < n → T (p u) → bit (f u) l ≡ 1 → bit (join_below n p f) l ≡ 1
  unfolding join_below
  in_join zero u b t e = absurd (not-suc-le-zero b)
  in_join (suc n) u b t e =
      ⊎_elim
      (λ (z : u ≡ n).
      let s : p n ≡ true = T_true (p n) (subst (λ m. T (p m)) z t) in
      or_right (join_below n p f) (cond (p n) (f n) 0) l (ap (λ q. bit (cond q (f n) 0) l) s ∙ ap (λ m. bit (f m) l) (sym z) ∙ e))
      (λ (c : u < n). or_left (join_below n p f) (cond (p n) (f n) 0) l (in_join n u c t e))
      (eq-or-lt_of_le (omega arith))

  only : (q : Bool) (m : ℕ) → bit (cond q m 0) l ≡ 1 → T q × (bit m l ≡ 1)
  only true m e = (tt, e)
  only false m e = absurd (omega (arith, bit-none l))

  pub join_in : (n : ℕ) → bit (join_below n p f) l ≡ 1 → (u : ℕ) × (u < n) × T (p u) × (bit (f u) l ≡ 1)
  unfolding join_below
  join_in zero e = absurd (omega (arith, bit-none l))
  join_in (suc n) e =
      ⊎_elim
      (λ (h : bit (join_below n p f) l ≡ 1). let (u, b, t, g) = join_in n h in (u, omega arith, t, g))
      (λ (h : bit (cond (p n) (f n) 0) l ≡ 1). let (t, g) = only (p n) (f n) h in (n, omega arith, t, g))
      (or_cases (join_below n p f) (cond (p n) (f n) 0) l e)
