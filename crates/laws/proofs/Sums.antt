-- Sums of numbers j 0, j 1, ..: each part is within the whole, greater parts have a greater sum, parts of at most m have n × m at most.
use Prim.Native.Nat.{ℕ, zero, suc, ◌+◌, ◌*◌, ◌≤◌, ◌<◌}
use native.Mathlib.Omega.{arith}
use mathlib.Core.Path.{◌≡◌}
use Rattle.laws.specs.Sums.{total}

pub total-le : (n : ℕ) (j h : ℕ → ℕ) → ((i : ℕ) → i < n → j i ≤ h i) → total n j ≤ total n h
unfolding total
total-le zero j h a = omega arith
total-le (suc n) j h a = omega (arith, a 0 (omega arith), total-le n (λ i. j (suc i)) (λ i. h (suc i)) (λ i b. a (suc i) (omega arith)))

pub total_lt : (n : ℕ) (j h : ℕ → ℕ) → ((i : ℕ) → i < n → j i ≤ h i) → (k : ℕ) → k < n → j k < h k → total n j < total n h
unfolding total
total_lt zero j h a k b c = absurd (omega arith)
total_lt (suc n) j h a zero b c = omega (arith, total-le n (λ i. j (suc i)) (λ i. h (suc i)) (λ i b. a (suc i) (omega arith)))
total_lt (suc n) j h a (suc k) b c =
    omega (arith, a 0 (omega arith), total_lt n (λ i. j (suc i)) (λ i. h (suc i)) (λ i b. a (suc i) (omega arith)) k (omega arith) c)

pub total-same : (n : ℕ) (j h : ℕ → ℕ) → ((i : ℕ) → i < n → j i ≡ h i) → total n j ≡ total n h
total-same n j h a = omega (arith, total-le n j h (λ i b. omega (arith, a i b)), total-le n h j (λ i b. omega (arith, a i b)))

pub total-most : (n most : ℕ) (j : ℕ → ℕ) → ((i : ℕ) → i < n → j i ≤ most) → total n j ≤ n * most
unfolding total
total-most zero most j h = omega arith
total-most (suc n) most j h = omega (arith, h 0 (omega arith), total-most n most (λ i. j (suc i)) (λ i b. h (suc i) (omega arith)))

pub total-last : (n : ℕ) (j : ℕ → ℕ) → total (n + 1) j ≡ total n j + j n
unfolding total
total-last zero j = omega arith
total-last (suc n) j = let e : suc n + 1 ≡ suc (n + 1) = omega arith in rw e (omega (arith, total-last n (λ i. j (suc i))))

pub total_ones : (n : ℕ) (j : ℕ → ℕ) → ((i : ℕ) → j i ≤ 1) → total n j ≤ n
total_ones n j h = omega (arith, total-most n 1 j (λ i b. h i))

pub total-at : (n : ℕ) (j : ℕ → ℕ) (i : ℕ) → i < n → j i ≤ total n j
unfolding total
total-at zero j i b = absurd (omega arith)
total-at (suc n) j zero b = omega arith
total-at (suc n) j (suc i) b = omega (arith, total-at n (λ i. j (suc i)) i (omega arith))
