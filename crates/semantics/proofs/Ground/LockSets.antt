-- The set of the claims that counts have (`held`) as a mask: digit l is 1 just if the count of l is positive. So it is the sum of the powers of two of
-- those claims, and to begin a hold joins its claim to it.
use Prim.Native.Nat.{ℕ, zero, suc, ◌+◌, ◌*◌, ◌/◌, ◌%◌, ◌^◌, ◌<◌, ◌≤◌, max}
use mathlib.Core.List.{List, [], ◌∷◌}
use mathlib.Core.Bool.{Bool, true, false, cond}
use mathlib.Core.Path.{◌≡◌, refl, sym, ap, ◌∙◌}
use mathlib.Core.Logic.{⊎_elim}
use native.Mathlib.Omega.{arith}
use native.Mathlib.Nat.{pow-suc, zero-mul, eq-zero-or-pos}
use native.Mathlib.Numerals.{add-one}
use native.Mathlib.Decide.{ℕ_discrete}
use lib.Bits.{bit_or}
use lib.ListN.{length, get_or, set, get_or-eq_default}
use lib.Seq.{get_or-set_same, get_or-set_other}
use lib.Dec.{ltb}
use borrow.Author.Tests.{lt-ltb}
use Rattle.limits.specs.Limits.{lock_count, claim_count}
use Rattle.laws.specs.Mask.{bit, mask_of}
use Rattle.laws.proofs.Bits.{bit-zero, bit-suc, bit_or_lem, bit_ext, bit-none, bit_pow, bit_pow_other, bit_quotient, bit-remainder}
use Rattle.laws.proofs.Masks.{mask_lt, mask-digit, mask-out, digit-out}
use Rattle.laws.proofs.Tests.{lt_or_le}
use Rattle.semantics.specs.Claims.{by_share, by_hold}
use Rattle.semantics.specs.Run.{has, up}
use Rattle.semantics.specs.Pairs.{had_from, had, pair_of, held_word, shared_word}
use Rattle.semantics.proofs.Ground.Claims.{share-is, hold-is, pair-had}

pub shift : (k : ℕ) (cs : List ℕ) → had_from k cs ≡ had cs * 2 ^ k
unfolding had_from
shift k [] = sym (zero-mul (2 ^ k))
shift k (c ∷ cs) = rw (shift (k + 1) cs, shift 1 cs, add-one, pow-suc 2 k) (go (ltb 0 c))
  where
    go : (t : Bool) → cond t (2 ^ k) 0 + had cs * (2 ^ k * 2) ≡ (cond t 1 0 + had cs * 2) * 2 ^ k
    go true = omega arith
    go false = omega arith

pub held-digit : (cs : List ℕ) (k : ℕ) → bit (had cs) k ≡ cond (ltb 0 (get_or cs k 0)) 1 0
unfolding had_from
held-digit [] k = bit-none k
held-digit (c ∷ cs) zero = rw (bit-zero, shift 1 cs) (go (ltb 0 c))
  where
    go : (t : Bool) → (cond t 1 0 + had cs * 2) % 2 ≡ cond t 1 0
    go true = omega arith
    go false = omega arith
held-digit (c ∷ cs) (suc k) = rw (bit-suc, shift 1 cs, go (ltb 0 c)) (held-digit cs k)
  where
    go : (t : Bool) → (cond t 1 0 + had cs * 2) / 2 ≡ had cs
    go true = omega arith
    go false = omega arith

pub free-digit : (cs : List ℕ) (l : ℕ) → get_or cs l 0 ≡ 0 → bit (had cs) l ≡ 0
free-digit cs l e = rw (held-digit, e)

pub positive-digit : (cs : List ℕ) (l : ℕ) → 0 < get_or cs l 0 → bit (had cs) l ≡ 1
positive-digit cs l h = rw (held-digit, lt-ltb 0 (get_or cs l 0) h)

pub digit-positive : (cs : List ℕ) (l : ℕ) → bit (had cs) l ≡ 1 → 0 < get_or cs l 0
digit-positive cs l e = ⊎_elim (λ z. absurd (omega (arith, free-digit cs l z))) (λ h. h) (eq-zero-or-pos (get_or cs l 0))

pub digit-free : (cs : List ℕ) (l : ℕ) → bit (had cs) l ≡ 0 → get_or cs l 0 ≡ 0
digit-free cs l e = ⊎_elim (λ z. z) (λ h. absurd (omega (arith, positive-digit cs l h))) (eq-zero-or-pos (get_or cs l 0))

pub held_begin : (cs : List ℕ) (l : ℕ) → l < length cs → had (up l cs) ≡ bit_or (had cs) (2 ^ l)
unfolding up
held_begin cs l h = bit_ext _ _ (λ k. rw (held-digit, bit_or_lem, held-digit) (go k (ℕ_discrete k l)))
  where
    most : (t : Bool) → 1 ≡ max (cond t 1 0) 1
    most true = refl
    most false = refl

    go : (k : ℕ) → Dec (k ≡ l) → cond (ltb 0 (get_or (set cs l (get_or cs l 0 + 1)) k 0)) 1 0 ≡ max (cond (ltb 0 (get_or cs k 0)) 1 0) (bit (2 ^ l) k)
    go k (yes e) = rw (e, get_or-set_same, bit_pow, lt-ltb 0 (get_or cs l 0 + 1) (omega arith)) (most (ltb 0 (get_or cs l 0)))
    go k (no n) = rw (get_or-set_other, bit_pow_other) (omega arith)

-- claim k in the set counts 2 to the power k: it is the sum over the claims below n with a positive count
pub held-mask : (n : ℕ) (cs : List ℕ) → length cs ≤ n → had cs ≡ mask_of n (λ l. ltb 0 (get_or cs l 0))
held-mask n cs h = bit_ext (had cs) (mask_of n (λ l. ltb 0 (get_or cs l 0))) (λ k. ⊎_elim
    (λ (b : k < n). held-digit cs k ∙ sym (mask-digit n (λ l. ltb 0 (get_or cs l 0)) k b))
    (λ (b : n ≤ k). free-digit cs k (get_or-eq_default cs 0 (omega arith)) ∙ sym (mask-out n (λ l. ltb 0 (get_or cs l 0)) k b))
    (lt_or_le k n))

pub held_lt : (n : ℕ) (cs : List ℕ) → length cs ≤ n → had cs < 2 ^ n
held_lt n cs h = rw (held-mask n cs h) (mask_lt n (λ l. ltb 0 (get_or cs l 0)))

-- 01: "lock k in X counts 2 to the power k". It is so in the held and in the shared word of a pair: each is the sum over the locks that are held, or shared
module _ (cs : List ℕ) (short : length cs ≤ claim_count) (a : ℕ) (small : a < claim_count) where
  held-sum-digit : (k : ℕ) → bit (had cs / 2 ^ lock_count) k ≡ bit (mask_of lock_count (λ l. has cs (by_hold l))) k
  held-sum-digit k = bit_quotient lock_count (had cs) k ∙ ⊎_elim
      (λ (b : k < lock_count). held-digit cs (lock_count + k) ∙ ap (λ i. cond (has cs i) 1 0) (omega (arith, hold-is k b)) ∙ sym (mask-digit lock_count (λ l. has cs (by_hold l)) k b))
      (λ (b : lock_count ≤ k). free-digit cs (lock_count + k) (get_or-eq_default cs 0 (omega arith)) ∙ sym (mask-out lock_count (λ l. has cs (by_hold l)) k b))
      (lt_or_le k lock_count)

  pub held-sum : held_word (pair_of (had cs) a) ≡ mask_of lock_count (λ l. has cs (by_hold l))
  held-sum = ap (λ m. m / 2 ^ lock_count) (pair-had (had cs) a small) ∙ bit_ext _ _ held-sum-digit

  shared-sum-digit : (k : ℕ) → bit (had cs % 2 ^ lock_count) k ≡ bit (mask_of lock_count (λ l. has cs (by_share l))) k
  shared-sum-digit k = ⊎_elim
      (λ (b : k < lock_count). bit-remainder lock_count (had cs) k b ∙ held-digit cs k ∙ ap (λ i. cond (has cs i) 1 0) (sym (share-is k b)) ∙ sym (mask-digit lock_count (λ l. has cs (by_share l)) k b))
      (λ (b : lock_count ≤ k). digit-out (had cs % 2 ^ lock_count) lock_count k (omega arith) b ∙ sym (mask-out lock_count (λ l. has cs (by_share l)) k b))
      (lt_or_le k lock_count)

  pub shared-sum : shared_word (pair_of (had cs) a) ≡ mask_of lock_count (λ l. has cs (by_share l))
  shared-sum = ap (λ m. m % 2 ^ lock_count) (pair-had (had cs) a small) ∙ bit_ext _ _ shared-sum-digit
