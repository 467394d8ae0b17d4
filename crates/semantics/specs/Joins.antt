-- The join of masks over the numbers below a bound that pass a test.
use Rattle.std.specs.Prelude.{ℕ, zero, suc, Bool, not, cond, eqb}
use Rattle.std.specs.Int.Bits.{bit_or}

-- the join of f u over the u below n that pass
unfoldable pub join_below : ℕ → (ℕ → Bool) → (ℕ → ℕ) → ℕ
join_below zero p f = 0
join_below (suc n) p f = bit_or (join_below n p f) (cond (p n) (f n) 0)

-- the numbers other than t
abbrev pub other_than : ℕ → ℕ → Bool
other_than t u = not (eqb u t)
