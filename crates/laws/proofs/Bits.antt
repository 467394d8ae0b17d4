-- Sets of numbers as masks: k is in m where digit k of m is 1. Two masks with the same digits are equal (`bit_ext`), and from that follow the laws of
-- joins and of disjoint sets.
use Prim.Native.Nat.{ℕ, zero, suc, ◌+◌, ◌*◌, ◌/◌, ◌%◌, ◌^◌, ◌<◌, ◌≤◌, min, max}
use mathlib.Core.Path.{◌≡◌, refl, ap, sym, ◌∙◌}
use mathlib.Core.Logic.{◌≢◌, ◌⊎◌, inl, inr, ⊎_elim}
use native.Mathlib.Omega.{arith}
use native.Mathlib.Nat.{div-one, eq-zero-or-pos}
use native.Mathlib.Numerals.{one-add}
use lib.Pow.{shr-shr, high, split}
use lib.Bits.{bit_and, bit_or, and_step, and_shr, or_step, or_shr, block_half, block_odd}
use Rattle.laws.specs.Mask.{bit}

pub bit-zero : (m : ℕ) → bit m 0 ≡ m % 2
unfolding bit
bit-zero m = rw div-one

pub bit-suc : (m k : ℕ) → bit m (suc k) ≡ bit (m / 2) k
unfolding bit
bit-suc m k = rw (shr-shr m 1 k, one-add)

pub bit_lt : (m k : ℕ) → bit m k < 2
unfolding bit
bit_lt m k = omega arith

-- the digits of h * 2 ^ n + s: those of s below n, and those of h from n on
pub bit_below : (n h s k : ℕ) → k < n → bit (h * 2 ^ n + s) k ≡ bit s k
bit_below zero h s k b = absurd (omega arith)
bit_below (suc n) h s zero b = rw (bit-zero, block_odd) (sym (bit-zero s))
bit_below (suc n) h s (suc k) b = rw (bit-suc, block_half) (bit_below n h (s / 2) k (omega arith) ∙ sym (bit-suc s k))

pub bit-above : (n h s k : ℕ) → s < 2 ^ n → bit (h * 2 ^ n + s) (n + k) ≡ bit h k
unfolding bit
bit-above n h s k b = rw (← shr-shr (h * 2 ^ n + s) n k, high h n b)

-- of a quotient and of a remainder
pub bit_quotient : (n m k : ℕ) → bit (m / 2 ^ n) k ≡ bit m (n + k)
unfolding bit
bit_quotient n m k = rw (shr-shr m n k)

pub bit-remainder : (n m k : ℕ) → k < n → bit (m % 2 ^ n) k ≡ bit m k
bit-remainder n m k b = sym (bit_below n (m / 2 ^ n) (m % 2 ^ n) k b) ∙ ap (λ x. bit x k) (split m n)

or_low : (a b : ℕ) → bit_or a b % 2 ≡ max (a % 2) (b % 2)
or_low a b = rw or_step (omega arith)

pub bit_or_lem : (a b k : ℕ) → bit (bit_or a b) k ≡ max (bit a k) (bit b k)
unfolding bit
bit_or_lem a b k = rw or_shr (or_low (a / 2 ^ k) (b / 2 ^ k))

and_low : (a b : ℕ) → bit_and a b % 2 ≡ min (a % 2) (b % 2)
and_low a b = rw and_step (omega arith)

pub bit-and : (a b k : ℕ) → bit (bit_and a b) k ≡ min (bit a k) (bit b k)
unfolding bit
bit-and a b k = rw and_shr (and_low (a / 2 ^ k) (b / 2 ^ k))

-- two sets with the same members
pub bit_ext : (a b : ℕ) → ((k : ℕ) → bit a k ≡ bit b k) → a ≡ b
bit_ext a b e = go (a + b) a b (omega arith) e
  where
    go : (n a b : ℕ) → a + b ≤ n → ((k : ℕ) → bit a k ≡ bit b k) → a ≡ b
    go zero a b h e = omega arith
    go (suc n) a b h e =
        let low : a % 2 ≡ b % 2 = sym (bit-zero a) ∙ e 0 ∙ bit-zero b in
        let high : a / 2 ≡ b / 2 = go n (a / 2) (b / 2) (omega arith) (λ k. sym (bit-suc a k) ∙ e (suc k) ∙ bit-suc b k) in
        omega arith

pub bit-none : (k : ℕ) → bit 0 k ≡ 0
bit-none zero = bit-zero 0
bit-none (suc k) = bit-suc 0 k ∙ bit-none k

pub bit_pow : (l : ℕ) → bit (2 ^ l) l ≡ 1
bit_pow zero = bit-zero 1
bit_pow (suc l) = let e : 2 ^ suc l / 2 ≡ 2 ^ l = omega arith in rw (bit-suc, e) (bit_pow l)

pub bit_pow_other : (l k : ℕ) → k ≢ l → bit (2 ^ l) k ≡ 0
bit_pow_other zero zero n = absurd (n refl)
bit_pow_other zero (suc k) n = bit-suc 1 k ∙ bit-none k
bit_pow_other (suc l) zero n = rw bit-zero (omega arith)
bit_pow_other (suc l) (suc k) n = let e : 2 ^ suc l / 2 ≡ 2 ^ l = omega arith in rw (bit-suc, e) (bit_pow_other l k (omega arith))

pub or_assoc : (a b c : ℕ) → bit_or (bit_or a b) c ≡ bit_or a (bit_or b c)
or_assoc a b c = bit_ext _ _ (λ k. simp bit_or_lem (omega arith))

-- two sets without a common member
pub disjoint : (a b : ℕ) → ((k : ℕ) → bit a k ≡ 0 ⊎ bit b k ≡ 0) → bit_and a b ≡ 0
disjoint a b h = bit_ext _ 0 (λ k. rw (bit-and, bit-none) (⊎_elim (λ (e : bit a k ≡ 0). omega arith) (λ (e : bit b k ≡ 0). omega arith) (h k)))

pub of_disjoint : (a b : ℕ) → bit_and a b ≡ 0 → (k : ℕ) → bit a k ≡ 1 → bit b k ≡ 0
of_disjoint a b e k one = let m : min (bit a k) (bit b k) ≡ 0 = sym (bit-and a b k) ∙ ap (λ (x : ℕ). bit x k) e ∙ bit-none k in omega arith

-- a member of a join is in one of the two
pub or_cases : (a b l : ℕ) → bit (bit_or a b) l ≡ 1 → (bit a l ≡ 1) ⊎ (bit b l ≡ 1)
or_cases a b l e =
    let x : max (bit a l) (bit b l) ≡ 1 = sym (bit_or_lem a b l) ∙ e in
    ⊎_elim (λ (z : bit a l ≡ 0). inr (omega arith)) (λ (h : 0 < bit a l). inl (omega (arith, bit_lt a l))) (eq-zero-or-pos (bit a l))

pub or_left : (a b l : ℕ) → bit a l ≡ 1 → bit (bit_or a b) l ≡ 1
or_left a b l e = rw bit_or_lem (omega (arith, bit_lt b l))

pub or_right : (a b l : ℕ) → bit b l ≡ 1 → bit (bit_or a b) l ≡ 1
or_right a b l e = rw bit_or_lem (omega (arith, bit_lt a l))

pub some-bit : (m l : ℕ) → bit m l ≡ 1 → 0 < m
some-bit m l e = ⊎_elim (λ (z : m ≡ 0). absurd (omega (arith, bit-none l, ap (λ x. bit x l) z))) (λ h. h) (eq-zero-or-pos m)

-- sets that share no member
pub apart_or : (a b c : ℕ) → bit_and a c ≡ 0 → bit_and b c ≡ 0 → bit_and (bit_or a b) c ≡ 0
apart_or a b c p q = disjoint (bit_or a b) c (λ k.
    ⊎_elim (λ (z : bit c k ≡ 0). inr z)
    (λ (g : 0 < bit c k). inl (rw bit_or_lem (omega (arith, bit_lt a k, bit_lt b k, bit_lt c k, meet a p k, meet b q k))))
    (eq-zero-or-pos (bit c k)))
  where
    meet : (x : ℕ) → bit_and x c ≡ 0 → (k : ℕ) → min (bit x k) (bit c k) ≡ 0
    meet x e k = sym (bit-and x c k) ∙ ap (λ y. bit y k) e ∙ bit-none k

-- where the members of a are in b, what is apart from b is apart from a
pub apart_in : (a b c : ℕ) → ((l : ℕ) → bit a l ≡ 1 → bit b l ≡ 1) → bit_and b c ≡ 0 → bit_and a c ≡ 0
apart_in a b c h e = disjoint a c (λ k.
    ⊎_elim (λ z. inl z) (λ (g : 0 < bit a k). inr (of_disjoint b c e k (h k (omega (arith, bit_lt a k))))) (eq-zero-or-pos (bit a k)))
