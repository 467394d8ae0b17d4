-- Masks as sums of powers of two, and the machine's operations on them: a join with one member more, tests of membership, the lowest member, a shift
-- with a number put below it. `width` is the number of digits of a machine word.
use Prim.Native.Nat.{ℕ, zero, suc, ◌+◌, ◌-◌, ◌*◌, ◌/◌, ◌%◌, ◌^◌, ◌<◌, ◌≤◌, max}
use mathlib.Core.Bool.{Bool, true, false, not, ◌||◌, cond}
use mathlib.Core.Logic.{◌≢◌, ◌⊎◌, inl, inr, ⊎_elim}
use mathlib.Core.Path.{◌≡◌, refl, sym, ap, subst, ◌∙◌}
use native.Mathlib.Omega.{arith}
use native.Mathlib.Nat.{one-mul, zero-mul, zero-add, mod-eq_of_lt, div-eq_of_lt}
use native.Mathlib.Numerals.{one-add, add-one}
use lib.Bits.{bit_and, bit_or, and_step, and_self, and_high, and_le_r, or_shifted, or_zero_l, or_comm}
use lib.Count.{count_trailing_zeros}
use lib.Dec.{T, eqb, eqb→eq, eqb-zero-suc, eqb-suc-zero, eqb-suc-suc}
use lib.Pow.{pow_pos, pow_mono, shl_exact}
use borrow.Author.Tests.{eq-eqb, ne_eqb}
use Rattle.laws.specs.Mask.{bit, in_mask, mask_of}
use Rattle.laws.proofs.Bits.{bit-zero, bit-suc, bit_lt, bit_or_lem, bit-and, bit_ext, bit-none, bit_pow, bit_pow_other}
use Rattle.laws.proofs.Tests.{same_test, eq→eqb, or_T, lt_or_le, eq_or_ne}

-- a number of n digits has none above
pub digit-out : (m n k : ℕ) → m < 2 ^ n → n ≤ k → bit m k ≡ 0
unfolding bit
digit-out m n k h b = let z : m / 2 ^ k ≡ 0 = div-eq_of_lt (omega (arith, pow_mono b)) in rw z

-- a digit is 0 or 1
on_digit : (P : ℕ → Type 0) → P 0 → P 1 → (d : ℕ) → d < 2 → P d
on_digit P a b zero h = a
on_digit P a b (suc zero) h = b
on_digit P a b (suc (suc d)) h = absurd (omega arith)

-- a digit is the number of its test, and the test of such a number is the test
pub digit-test : (m k : ℕ) → cond (in_mask m k) 1 0 ≡ bit m k
digit-test m k = on_digit (λ d. cond (eqb d 1) 1 0 ≡ d) refl refl (bit m k) (bit_lt m k)

test-digit : (t : Bool) → eqb (cond t 1 0) 1 ≡ t
test-digit true = refl
test-digit false = refl

-- ---- members of no mask, of a power of two, of a join

pub in_none : (k : ℕ) → in_mask 0 k ≡ false
in_none k = rw (bit-none k) refl

pub in_power : (l k : ℕ) → in_mask (2 ^ l) k ≡ eqb k l
in_power l k =
    ⊎_elim (λ (e : k ≡ l). rw (e, bit_pow l) (sym (eq-eqb l l refl)))
    (λ (d : k ≢ l). rw (bit_pow_other l k d, ne_eqb k l d) refl)
    (eq_or_ne k l)

pub in_or : (a b k : ℕ) → in_mask (bit_or a b) k ≡ (in_mask a k || in_mask b k)
in_or a b k =
    rw (bit_or_lem a b k) (on_digit (λ x. eqb (max x (bit b k)) 1 ≡ (eqb x 1 || eqb (bit b k) 1))
    (on_digit (λ y. eqb (max 0 y) 1 ≡ (eqb 0 1 || eqb y 1)) refl refl (bit b k) (bit_lt b k))
    (on_digit (λ y. eqb (max 1 y) 1 ≡ (eqb 1 1 || eqb y 1)) refl refl (bit b k) (bit_lt b k))
    (bit a k) (bit_lt a k))

-- a mask within another
pub within_or : (a b : ℕ) → ((k : ℕ) → T (in_mask a k) → T (in_mask b k)) → bit_or a b ≡ b
within_or a b h = bit_ext (bit_or a b) b (λ k. rw (bit_or_lem a b k) (go k (bit a k) refl (bit_lt a k)))
  where
    go : (k d : ℕ) → bit a k ≡ d → d < 2 → max d (bit b k) ≡ bit b k
    go k zero e l = omega arith
    go k (suc zero) e l = let z : bit b k ≡ 1 = eqb→eq (bit b k) 1 (h k (eq→eqb (bit a k) 1 e)) in omega arith
    go k (suc (suc d)) e l = absurd (omega arith)

pub or_within : (a b k : ℕ) → bit_or a b ≡ b → T (in_mask a k) → T (in_mask b k)
or_within a b k e t = subst (λ m. T (in_mask m k)) e (subst T (sym (in_or a b k)) (or_T (in_mask a k) (in_mask b k) (inl t)))

-- ---- sums of powers of two

pub mask_lt : (n : ℕ) (f : ℕ → Bool) → mask_of n f < 2 ^ n
unfolding mask_of
mask_lt zero f = omega arith
mask_lt (suc n) f = go (f n) (mask_lt n f)
  where
    go : (b : Bool) → mask_of n f < 2 ^ n → cond b (2 ^ n) 0 + mask_of n f < 2 ^ suc n
    go true h = omega arith
    go false h = omega arith

mask-join : (n : ℕ) (f : ℕ → Bool) → mask_of (suc n) f ≡ bit_or (cond (f n) (2 ^ n) 0) (mask_of n f)
unfolding mask_of
mask-join n f = go (f n)
  where
    go : (b : Bool) → cond b (2 ^ n) 0 + mask_of n f ≡ bit_or (cond b (2 ^ n) 0) (mask_of n f)
    go true = sym (rw one-mul at (or_shifted 1 n (mask_of n f) (mask_lt n f)))
    go false = zero-add (mask_of n f) ∙ sym (or_zero_l (mask_of n f))

-- as a pass that joins one member after another
pub mask-more : (f : ℕ → Bool) (i r x : ℕ) → r ≡ mask_of i f → x ≡ cond (f i) (2 ^ i) 0 → bit_or r x ≡ mask_of (i + 1) f
mask-more f i r x e h = rw (e, h, add-one) (or_comm (mask_of i f) (cond (f i) (2 ^ i) 0) ∙ sym (mask-join i f))

power_digit : (b : Bool) (n : ℕ) → bit (cond b (2 ^ n) 0) n ≡ cond b 1 0
power_digit true n = bit_pow n
power_digit false n = bit-none n

power_other : (b : Bool) (n k : ℕ) → k ≢ n → bit (cond b (2 ^ n) 0) k ≡ 0
power_other true n k d = bit_pow_other n k d
power_other false n k d = bit-none k

pub mask-out : (n : ℕ) (f : ℕ → Bool) (k : ℕ) → n ≤ k → bit (mask_of n f) k ≡ 0
mask-out n f k b = digit-out (mask_of n f) n k (mask_lt n f) b

pub mask-digit : (n : ℕ) (f : ℕ → Bool) (k : ℕ) → k < n → bit (mask_of n f) k ≡ cond (f k) 1 0
mask-digit zero f k b = absurd (omega arith)
mask-digit (suc n) f k b = rw (mask-join n f, bit_or_lem)
    (⊎_elim (λ (e : k ≡ n). rw (e, power_digit, mask-out n f n (omega arith)) (omega arith))
    (λ (d : k ≢ n). rw (power_other (f n) n k d, mask-digit n f k (omega arith)) (omega arith))
    (eq_or_ne k n))

pub mask-member : (n : ℕ) (f : ℕ → Bool) (k : ℕ) → k < n → in_mask (mask_of n f) k ≡ f k
mask-member n f k b = rw (mask-digit n f k b) (test-digit (f k))

-- its members are those of f below n
pub in_mask_of : (n : ℕ) (f : ℕ → Bool) (k : ℕ) → k < n → T (f k) → T (in_mask (mask_of n f) k)
in_mask_of n f k b t = rw (mask-member n f k b) t

pub mask_of_in : (n : ℕ) (f : ℕ → Bool) (k : ℕ) → T (in_mask (mask_of n f) k) → (k < n) × T (f k)
mask_of_in n f k t =
    ⊎_elim (λ (b : k < n). (b, rw (mask-member n f k b) at t))
    (λ (b : n ≤ k). let e : bit (mask_of n f) k ≡ 1 = eqb→eq (bit (mask_of n f) k) 1 t in absurd (omega (arith, mask-out n f k b))) (lt_or_le k n)

-- without members from n on it is below 2 to the power n
pub mask_below : (m n : ℕ) → ((k : ℕ) → T (in_mask m k) → k < n) → m < 2 ^ n
mask_below m n below =
    let members : (k : ℕ) → in_mask (mask_of n (in_mask m)) k ≡ in_mask m k =
    λ k. same_test (in_mask (mask_of n (in_mask m)) k) (in_mask m k) (λ t. (mask_of_in n (in_mask m) k t).1) (λ t. in_mask_of n (in_mask m) k (below k t) t) in
    subst (λ x. x < 2 ^ n)
    (bit_ext (mask_of n (in_mask m)) m (λ k. sym (digit-test (mask_of n (in_mask m)) k) ∙ ap (λ b. cond b 1 0) (members k) ∙ digit-test m k)) (mask_lt n (in_mask m))

-- ---- the machine's shifts and tests

pub and_power : (m k : ℕ) → bit_and m (2 ^ k) ≡ bit m k * 2 ^ k
unfolding bit
and_power m k = let e : 2 ^ k ≡ 2 ^ (1 + k) - 2 ^ k = rw one-add (omega arith) in ap (λ x. bit_and m x) e ∙ and_high m 1 k

-- the meet with a power is 0 just where the mask has not its exponent
pub test_power : (m k : ℕ) → not (eqb (bit_and m (2 ^ k)) 0) ≡ in_mask m k
test_power m k = rw and_power
    (on_digit (λ d. not (eqb (d * 2 ^ k) 0) ≡ eqb d 1) (rw zero-mul) (rw (one-mul, ne_eqb (2 ^ k) 0 (λ e. omega (arith, pow_pos k)))) (bit m k) (bit_lt m k))

module _ (width : ℕ) where
  -- `1 << k`
  pub shl_one : (k : ℕ) → k < width → 1 * 2 ^ k % 2 ^ width ≡ 2 ^ k
  shl_one k h = shl_exact 1 k width (omega arith) (omega arith) ∙ one-mul (2 ^ k)

  -- `m | 1 << k`
  pub or_one : (m k : ℕ) → k < width → bit_or m (1 * 2 ^ k % 2 ^ width) ≡ bit_or m (2 ^ k)
  or_one m k h = ap (λ x. bit_or m x) (shl_one k h)

  -- `m & 1 << k != 0`
  pub test_bit : (m k : ℕ) → k < width → not (eqb (bit_and m (1 * 2 ^ k % 2 ^ width)) 0) ≡ in_mask m k
  test_bit m k h = rw (shl_one k h) (test_power m k)

  -- `m << s | k`: k in the s lowest digits, m above them
  pub or_below : (s m k : ℕ) → m * 2 ^ s < 2 ^ width → k < 2 ^ s → bit_or (m * 2 ^ s % 2 ^ width) k ≡ m * 2 ^ s + k
  or_below s m k h b = rw (mod-eq_of_lt h) (or_shifted m s k b)

-- ---- the lowest member

-- k is the lowest member of m
pub record Lowest (m k : ℕ) : Type 0 where
  pub member : bit m k ≡ 1
  pub below : (i : ℕ) → i < k → bit m i ≡ 0

low_digit : (m : ℕ) → (m % 2 ≡ 0) ⊎ (m % 2 ≡ 1)
low_digit m = on_digit (λ d. (d ≡ 0) ⊎ (d ≡ 1)) (inl refl) (inr refl) (m % 2) (omega arith)

half-small : (n m : ℕ) → m < 2 ^ suc n → m / 2 < 2 ^ n
half-small n m h = omega arith

even_below : (m t : ℕ) → m % 2 ≡ 0 → ((i : ℕ) → i < t → bit (m / 2) i ≡ 0) → (i : ℕ) → i < suc t → bit m i ≡ 0
even_below m t e r zero b = rw bit-zero e
even_below m t e r (suc i) b = rw bit-suc (r i (omega arith))

-- the trailing zeros of a number of `width` digits that is not 0 count up to its lowest member
pub trailing_lowest : (width m : ℕ) → 0 < m → m < 2 ^ width → Lowest m (count_trailing_zeros width m)
unfolding count_trailing_zeros
trailing_lowest zero m p h = absurd (omega arith)
trailing_lowest (suc n) m p h = ⊎_elim
    (λ (e : m % 2 ≡ 0). let r = trailing_lowest n (m / 2) (omega arith) (half-small n m h) in
    rw e (record { member = rw bit-suc r.member; below = even_below m (count_trailing_zeros n (m / 2)) e r.below }))
    (λ (e : m % 2 ≡ 1). rw e (record { member = rw bit-zero e; below = λ i b. absurd (omega arith) }))
    (low_digit m)

pub trailing_lt : (width m : ℕ) → 0 < m → m < 2 ^ width → count_trailing_zeros width m < width
trailing_lt width m p h = ⊎_elim (λ b. b)
    (λ (b : width ≤ count_trailing_zeros width m). absurd
    (omega (arith, digit-out m width (count_trailing_zeros width m) h b, (trailing_lowest width m p h).member)))
    (lt_or_le (count_trailing_zeros width m) width)

pub clear_lt : (m : ℕ) → 0 < m → bit_and m (m - 1) < m
clear_lt m p = omega (arith, and_le_r m (m - 1))

-- `m & m - 1` is m without its lowest member
pub clear_digit : (width m k : ℕ) → 0 < m → m < 2 ^ width → bit (bit_and m (m - 1)) k ≡ cond (eqb k (count_trailing_zeros width m)) 0 (bit m k)
unfolding count_trailing_zeros
clear_digit zero m k p h = absurd (omega arith)
clear_digit (suc n) m zero p h = ⊎_elim
    (λ (e : m % 2 ≡ 0).
    let z : bit m 0 ≡ 0 = bit-zero m ∙ e in
    rw (e, bit-and, z, eqb-zero-suc (count_trailing_zeros n (m / 2))) (omega arith))
    (λ (e : m % 2 ≡ 1). let z : bit (m - 1) 0 ≡ 0 = bit-zero (m - 1) ∙ omega arith in rw (e, bit-and, z) (omega arith))
    (low_digit m)
clear_digit (suc n) m (suc k) p h =
    let q : bit_and m (m - 1) / 2 ≡ bit_and (m / 2) ((m - 1) / 2) = omega (arith, and_step m (m - 1)) in
    ⊎_elim
    (λ (e : m % 2 ≡ 0).
    let half : (m - 1) / 2 ≡ m / 2 - 1 = omega arith in
    rw (e, bit-suc, q, half, bit-suc, eqb-suc-suc k (count_trailing_zeros n (m / 2))) (clear_digit n (m / 2) k (omega arith) (half-small n m h)))
    (λ (e : m % 2 ≡ 1).
    let half : (m - 1) / 2 ≡ m / 2 = omega arith in
    rw (e, bit-suc, q, half, and_self, eqb-suc-zero k) (sym (bit-suc m k)))
    (low_digit m)
