-- What stands against a set as the machine makes it, the bit of a claim from that of its lock, and the test whether a claim is fresh.
use Prim.Native.Nat.{ℕ, ◌+◌, ◌-◌, ◌*◌, ◌/◌, ◌%◌, ◌^◌, ◌<◌, ◌≤◌}
use mathlib.Core.Bool.{Bool, true, false, not, ◌||◌}
use mathlib.Core.Logic.{⊎_elim}
use mathlib.Core.Path.{◌≡◌, sym, ap, ◌∙◌}
use native.Mathlib.Nat.{mod-eq_of_lt}
use native.Mathlib.Omega.{arith}
use lib.Bits.{bit_or, or_comm, or_mod, or_shifted}
use lib.Pow.{pow-add, pow-lt}
use Rattle.std.proofs.Math.Bool.{or-false}
use Rattle.limits.specs.Limits.{claim_count}
use lib.Dec.{eqb}
use Rattle.laws.specs.Mask.{bit, in_mask}
use Rattle.laws.proofs.Bits.{bit_quotient}
use Rattle.laws.proofs.Masks.{in_or, digit-out}
use Rattle.laws.proofs.Tests.{lt_or_le}
use Rattle.semantics.specs.Claims.{by_hold, lock_of, is_hold, fresh_to}
use Rattle.semantics.specs.Paths.{fresh_in}
use Rattle.semantics.specs.Conflict.{bars}
use Rattle.semantics.proofs.Ground.Claims.{share-lock, hold-lock, share-way, hold-way, share-is, hold-is}

-- `m << 32` keeps the lower half
shift-half : (m : ℕ) → m * 2 ^ 32 % 2 ^ 64 ≡ m % 2 ^ 32 * 2 ^ 32
shift-half m = omega arith

-- `((m | h) << 32) | h`, where h is `m >> 32`
pub machine_bars : (m : ℕ) → m < 2 ^ 64 → bit_or (bit_or m (m / 2 ^ 32) * 2 ^ 32 % 2 ^ 64) (m / 2 ^ 32) ≡ bars m
unfolding bars
machine_bars m h =
    let small : m / 2 ^ 32 < 2 ^ 32 = omega arith in
    let same : m / 2 ^ 32 % 2 ^ 32 ≡ m / 2 ^ 32 = mod-eq_of_lt small in
    rw (shift-half (bit_or m (m / 2 ^ 32)), or_mod m (m / 2 ^ 32) 32, same)
    (or_shifted (bit_or (m % 2 ^ 32) (m / 2 ^ 32)) 32 (m / 2 ^ 32) small ∙ ap (λ x. x * 2 ^ 32 + m / 2 ^ 32) (or_comm (m % 2 ^ 32) (m / 2 ^ 32)))

-- `lock_bit(l % 32) << (l / 32 * 32)`
pub claim_power : (l b : ℕ) → l < claim_count → b ≡ 2 ^ (l % 32) → b * 2 ^ (l / 32 * 32) % 2 ^ 64 ≡ 2 ^ l
claim_power l b k e =
    let p : 2 ^ (l % 32) * 2 ^ (l / 32 * 32) ≡ 2 ^ l = sym (pow-add 2 (l % 32) (l / 32 * 32)) ∙ ap (λ n. 2 ^ n) (omega arith) in
    rw (e, p) (mod-eq_of_lt (pow-lt k))

-- ---- fresh claims: a claim by share is fresh if neither it nor the hold is had, one by hold if it is not had

module _ (m l : ℕ) where
  -- the held locks stand in the upper half of the digits
  upper : in_mask (m / 2 ^ 32) l ≡ in_mask m (l + 32)
  upper = ap (λ x. eqb x 1) (bit_quotient 32 m l ∙ ap (bit m) (omega arith))

  hold-fresh : 32 ≤ l → l < claim_count → m < 2 ^ 64 → not (in_mask m l || in_mask m (l + 32)) ≡ fresh_in m l
  unfolding fresh_to
  hold-fresh h k s =
      let is : by_hold (l - 32) ≡ l = omega (arith, hold-is (l - 32) (omega arith)) in
      let way : is_hold l ≡ true = ap is_hold (sym is) ∙ hold-way (l - 32) in
      let lock : lock_of l ≡ l - 32 = ap lock_of (sym is) ∙ hold-lock (l - 32) in
      let none : in_mask m (l + 32) ≡ false = ap (λ x. eqb x 1) (digit-out m 64 (l + 32) s (omega arith)) in
      rw (way, lock, is, none) (ap not (or-false (in_mask m l)))

  share-fresh : l < 32 → not (in_mask m l || in_mask m (l + 32)) ≡ fresh_in m l
  unfolding fresh_to
  share-fresh h =
      let way : is_hold l ≡ false = ap is_hold (sym (share-is l h)) ∙ share-way l in
      let lock : lock_of l ≡ l = ap lock_of (sym (share-is l h)) ∙ share-lock l in
      rw (way, lock, share-is l h, hold-is l h)

  -- `!has_claim(m | (m >> 32), l)`
  pub machine_fresh : (b : Bool) → m < 2 ^ 64 → l < claim_count → b ≡ in_mask (bit_or m (m / 2 ^ 32)) l → not b ≡ fresh_in m l
  machine_fresh b s k e =
      ap not (e ∙ in_or m (m / 2 ^ 32) l ∙ ap (λ x. in_mask m l || x) upper)
      ∙ ⊎_elim share-fresh (λ (h : 32 ≤ l). hold-fresh h k s) (lt_or_le l 32)
