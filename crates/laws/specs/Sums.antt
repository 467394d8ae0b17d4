-- The sum of numbers that a function gives.
use Rattle.std.specs.Prelude.{ℕ, zero, suc, ◌+◌}

-- the sum of j 0, j 1, .. j (n - 1)
unfoldable pub total : ℕ → (ℕ → ℕ) → ℕ
total zero j = 0
total (suc n) j = j 0 + total n (λ i. j (suc i))
