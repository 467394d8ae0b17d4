-- What a thread can have of a lock, and what may stand together. 02, change 9: "The storage library has locks that several readers may hold together." A lock is had by share or
-- by hold, or both ways. A claim is a lock and the way, as one number; a set of claims is a test of them.
use Rattle.std.specs.Prelude.{ℕ, zero, suc, ◌+◌, ◌*◌, ◌/◌, ◌%◌, Bool, true, not, ◌&&◌, ◌||◌, cond, eqb}
use Rattle.limits.specs.Limits.{lock_count, claim_count}

-- the claim on lock l by share: l, if l is below 32. A lock from 32 on, which rule 6 refuses, has claims of its own too, since a text is read before its locks are tested
unfoldable pub by_share : ℕ → ℕ
by_share l = l / lock_count * claim_count + l % lock_count

-- the claim on lock l by hold: 32 more
unfoldable pub by_hold : ℕ → ℕ
by_hold l = by_share l + lock_count

-- the lock of a claim
unfoldable pub lock_of : ℕ → ℕ
lock_of a = a / claim_count * lock_count + a % lock_count

-- whether a claim is by hold
unfoldable pub is_hold : ℕ → Bool
is_hold a = eqb (a / lock_count % 2) 1

-- "wanted lock times 2 plus 1 for a hold": a claim below 64 as a word of a buffer
abbrev pub claim_word : ℕ → ℕ
claim_word a = a % lock_count * 2 + a / lock_count

-- the claim of such a word
abbrev pub word_claim : ℕ → ℕ
word_claim x = x / 2 + x % 2 * lock_count

-- lock l is had by hold in S
abbrev pub held_in : (ℕ → Bool) → ℕ → Bool
held_in S l = S (by_hold l)

-- "in any way"
abbrev pub had_in : (ℕ → Bool) → ℕ → Bool
had_in S l = S (by_share l) || S (by_hold l)

-- lock l "is held by hold in one thread while another holds it in any way", of two threads
abbrev pub clash : (ℕ → Bool) → (ℕ → Bool) → ℕ → Bool
clash S R l = held_in S l && had_in R l || held_in R l && had_in S l

-- no number below n passes
unfoldable pub none_below : ℕ → (ℕ → Bool) → Bool
none_below zero p = true
none_below (suc n) p = not (p n) && none_below n p

-- the claims of S and of R may stand together, in two threads
unfoldable pub together : (ℕ → Bool) → (ℕ → Bool) → Bool
together S R = none_below lock_count (clash S R)

-- "A share is fresh if the thread has the lock in no way, a hold if it does not then have it by hold."
unfoldable pub fresh_to : (ℕ → Bool) → ℕ → Bool
fresh_to S a = cond (is_hold a) (not (held_in S (lock_of a))) (not (had_in S (lock_of a)))
