-- The way back (source 000, Lemma 4.3) as a program carries it: positions on the paths of the threads, what is had there, and the entries that lead from there to
-- a stuck set.
use Rattle.std.specs.Prelude.{ℕ, zero, suc, ◌+◌, ◌≤◌, ◌<◌, ◌-◌, ◌^◌, List, [], ◌∷◌, ◌≡◌, Bool, cond, length, get_or, T}
use Rattle.std.proofs.Math.Option.{some}
use Rattle.std.specs.Int.Bits.{bit_and}
use Rattle.laws.specs.Mask.{bit, in_mask}
use Rattle.laws.specs.Sums.{total}
use Rattle.semantics.specs.Plan.{Plain, Block, body_in}
use Rattle.semantics.specs.Run.{ThreadState, initial, apart, everyone, run}
use Rattle.semantics.specs.Stuck.{Stuck}
use Rattle.semantics.specs.Pairs.{had}
use Rattle.semantics.specs.Conflict.{bars}
use Rattle.semantics.specs.Execution.{Execution}
use Rattle.semantics.specs.Joins.{join_below, other_than}
use Rattle.semantics.specs.StuckRounds.{first_wanted, WantedAt}

-- the list of f 0, f 1, .. f (n - 1)
unfoldable pub table : ℕ → (ℕ → ThreadState) → List ThreadState
table zero f = []
table (suc n) f = f 0 ∷ table n (λ i. f (suc i))

-- the moment with thread i < n at position j i of its execution s i: "An arbitrary concurrent configuration given by an interleaving from these n executions"
abbrev pub joint : ℕ → (ℕ → ℕ → ThreadState) → (ℕ → ℕ) → List ThreadState
joint n s j = table n (λ i. s i (j i))

-- what a thread has
abbrev pub had_mask : ThreadState → ℕ
had_mask x = had x.count

-- the position of thread i
abbrev pub position_of : List ℕ → ℕ → ℕ
position_of positions i = get_or positions i 0

-- paths of the threads that run the procedures ns: under the choices P i thread i is s i a after a steps, row i of M has the masks of what is had along it, and
-- `begin` what each block begins with a hold of
pub record Paths (ps : List Block) (ns : List ℕ) (P : ℕ → List ℕ) (s : ℕ → ℕ → ThreadState) (M : ℕ → List ℕ) (begin : List ℕ) : Type 0 where
  pub bodies : (q : ℕ) → Plain (body_in ps q)
  -- an entry has room for a thread below 8: "thread + 8 × choice"
  pub few : length ns ≤ 8
  pub runs : (i : ℕ) → i < length ns → Execution ps (initial ps (get_or ns i 0)) (P i) (s i)
  pub masks : (i a : ℕ) → i < length ns → a ≤ length (P i) → get_or (M i) a 0 ≡ had_mask (s i a)
  pub begins : (i : ℕ) → i < length ns → get_or begin i 0 ≡ first_wanted (body_in ps (get_or ns i 0))

-- the moment j is apart ("compatible", Lemma 4.3) and leads by the schedule es to ts, where a set is stuck; es with the steps left to go back is as short as the bound asks
pub record Retreat (ps : List Block) (n : ℕ) (P : ℕ → List ℕ) (s : ℕ → ℕ → ThreadState) (bound : ℕ) (j : ℕ → ℕ) (es : List ℕ) (ts : List ThreadState) : Type 0 where
  pub within : (i : ℕ) → i < n → j i ≤ length (P i)
  pub all_apart : T (apart everyone (joint n s j))
  pub leads : run ps (joint n s j) es ≡ some ts
  pub stuck : (S : ℕ → Bool) × Stuck ps ts S
  pub short : length es + total n j ≤ bound

-- positions from which the entries es lead to a target with a stuck set; what each thread wants and has at the target; the entries with what is left of the
-- paths are no more than the bound
pub record GoingBack (ps : List Block) (n : ℕ) (P : ℕ → List ℕ) (s : ℕ → ℕ → ThreadState) (bound : ℕ) (positions es wanted masks : List ℕ) : Type 0 where
  pub size : length positions ≡ n
  pub target : ℕ → ℕ
  pub retreat : Retreat ps n P s bound (position_of positions) es (joint n s target)
  pub there : WantedAt (joint n s target) wanted masks

-- the claims that may not stand beside what n threads other than k have at their positions
unfoldable pub others_at : ℕ → (ℕ → List ℕ) → List ℕ → ℕ → ℕ
others_at n M positions k = join_below n (other_than k) (λ i. bars (get_or (M i) (position_of positions i) 0))

-- the last place, from a downward, at which claim l is not had
unfoldable pub scan_back : List ℕ → ℕ → ℕ → ℕ
scan_back row l zero = 0
scan_back row l (suc a) = cond (in_mask (get_or row (suc a) 0) l) (scan_back row l a) (suc a)

-- where a thread at position j jumps to, and what it wants there: from its start nowhere, and else before the hold of a claim that its last step gave up and
-- that may not stand beside what another thread has. Lemma 4.3: "we can find hₖ < jₖ such that" the locks held at hₖ are those at jₖ and those after one step
-- more are those at jₖ - 1
pub record JumpTo (row : List ℕ) (others begin j h wants : ℕ) : Type 0 where
  pub claim : ℕ
  pub given-up : 0 < j → bit (bit_and (get_or row (j - 1) 0) others) claim ≡ 1
  pub place : 0 < j → h ≡ scan_back row claim (j - 1)
  pub wanted : 0 < j → wants ≡ 2 ^ claim
  pub still : j ≡ 0 → (h ≡ 0) × (wants ≡ begin)
