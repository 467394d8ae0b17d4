-- The largest stuck set, from what each thread wants and has, as masks: begin with the threads that want a claim and drop, in rounds, those whom no other member excludes from
-- what they want.
use Rattle.std.specs.Prelude.{ℕ, zero, suc, ◌^◌, ◌<◌, Bool, not, ◌&&◌, List, ◌≡◌, length, get_or, eqb, ltb}
use Rattle.std.specs.Int.Bits.{bit_and}
use Rattle.laws.specs.Mask.{in_mask, mask_of}
use Rattle.semantics.specs.Plan.{Block, done, skip, call, hold, loop, either, end}
use Rattle.semantics.specs.Run.{ThreadState, nth, counts}
use Rattle.semantics.specs.Pairs.{had}
use Rattle.semantics.specs.Conflict.{bars}
use Rattle.semantics.specs.Joins.{join_below}

-- the claim that a remainder is about to make, as a mask: none where it does not begin with a hold
unfoldable pub first_wanted : Block → ℕ
first_wanted done = 0
first_wanted (skip r) = 0
first_wanted (call p r) = 0
first_wanted (hold l b r) = 2 ^ l
first_wanted (loop b r) = 0
first_wanted (either a b r) = 0
first_wanted (end l r) = 0

-- what each of the threads ts wants and has
pub record WantedAt (ts : List ThreadState) (wanted masks : List ℕ) : Type 0 where
  pub wants : (t : ℕ) → t < length ts → get_or wanted t 0 ≡ first_wanted (nth ts t).rest
  pub mask : (t : ℕ) → t < length ts → get_or masks t 0 ≡ had (counts ts t)

-- the claims that may not stand beside what the members of m other than t have, of n threads
unfoldable pub barred_by_members : ℕ → List ℕ → ℕ → ℕ → ℕ
barred_by_members n masks m t = join_below n (λ u. in_mask m u && not (eqb u t)) (λ u. bars (get_or masks u 0))

-- thread t wants what may not stand beside what another member of m has: "ℓᵢ ∈ ⋃ ⌊Lⱼ⌋" (j ≠ i; source 000, Proposition 2.3)
abbrev pub waits_in : ℕ → List ℕ → List ℕ → ℕ → ℕ → Bool
waits_in n wanted masks m t = not (eqb (bit_and (get_or wanted t 0) (barred_by_members n masks m t)) 0)

-- the threads that want a claim
unfoldable pub wanting : ℕ → List ℕ → ℕ
wanting n wanted = mask_of n (λ t. ltb 0 (get_or wanted t 0))

-- what is left of the set m after a round
unfoldable pub stuck_round : ℕ → List ℕ → List ℕ → ℕ → ℕ
stuck_round n wanted masks m = mask_of n (λ t. in_mask m t && waits_in n wanted masks m t)

-- what is left after k rounds
unfoldable pub stuck_rounds : ℕ → ℕ → List ℕ → List ℕ → ℕ
stuck_rounds zero n wanted masks = wanting n wanted
stuck_rounds (suc k) n wanted masks = stuck_round n wanted masks (stuck_rounds k n wanted masks)
