-- Sets of numbers as masks: k is in m where digit k of m is 1. A mask is the sum of the powers of two of its members (`mask_of`).
use Rattle.std.specs.Prelude.{ℕ, zero, suc, ◌+◌, ◌/◌, ◌%◌, ◌^◌, Bool, cond, eqb}

-- digit k of m
unfoldable pub bit : ℕ → ℕ → ℕ
bit m k = m / 2 ^ k % 2

-- whether k is in m
abbrev pub in_mask : ℕ → ℕ → Bool
in_mask m k = eqb (bit m k) 1

-- the sum of 2 to the power k over the k below n that are in f
unfoldable pub mask_of : ℕ → (ℕ → Bool) → ℕ
mask_of zero f = 0
mask_of (suc n) f = cond (f n) (2 ^ n) 0 + mask_of n f
