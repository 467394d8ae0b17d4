-- The moves of the way back over the lent tables, as the theory has them (semantics, RetreatMoves): a step back puts an entry in front, a jump forgets
-- the entries.
use Rattle.std.specs.Prelude.{ℕ, ◌+◌, ◌-◌, ◌*◌, ◌<◌, ◌≤◌, Bool, true, false, List, [], ◌∷◌, ◌⊎◌, ◌≡◌, Option, MatchOption, length, get_or, set, take}
use Rattle.laws.specs.Sums.{total}
use Rattle.semantics.specs.Plan.{Block}
use Rattle.semantics.specs.Run.{ThreadState}
use Rattle.semantics.specs.Retreat.{Paths, GoingBack, others_at, JumpTo}
use Rattle.retreat.specs.declared.State.{State}
use Rattle.retreat.specs.Paths.{masks_of, choice_at, Holding, may_go_back}

-- no number below k passes the test
abbrev pub NoneBelow : (ℕ → Bool) → ℕ → Type 0
NoneBelow test k = (i : ℕ) → i < k → test i ≡ false

-- r is the first number below n that passes the test, if one does
abbrev pub FirstBelow : (ℕ → Bool) → ℕ → Option ℕ → Type 0
FirstBelow test n r = MatchOption r (NoneBelow test n) (λ k. (k < n) × (test k ≡ true) × NoneBelow test k)

-- one of n threads has stepped
abbrev pub SomeStepped : List ℕ → ℕ → Type 0
SomeStepped positions n = (t : ℕ) × (t < n) × (0 < get_or positions t 0)

-- n threads are at their start
abbrev pub AtStart : List ℕ → ℕ → Type 0
AtStart positions n = (t : ℕ) → t < n → get_or positions t 0 ≡ 0

-- the sum of the positions of n threads
unfoldable pub steps_left : List ℕ → ℕ → ℕ
steps_left positions n = total n (λ t. get_or positions t 0)

-- "thread + 8 × choice", for the last step of thread k
unfoldable pub entry_of : List ℕ → List ℕ → ℕ → ℕ
entry_of choices positions k = k + 8 * choice_at choices k (get_or positions k 0 - 1)

-- each thread below k landed: where it jumped to and what it wants there
unfoldable pub Landed : List ℕ → List ℕ → ℕ → List ℕ → List ℕ → List ℕ → ℕ → Type 0
Landed rows begins n positions positions' wanted' k =
    (t : ℕ) → t < k → JumpTo (masks_of rows t) (others_at n (masks_of rows) positions t) (get_or begins t 0) (get_or positions t 0) (get_or positions' t 0) (get_or wanted' t 0)

-- a thread that may go back did: its entry is in front, what is wanted and had at the target is as before
pub record SteppedBack (choices rows : List ℕ) (n : ℕ) (s s' : State) (es es' : List ℕ) : Type 0 where
  pub thread : ℕ
  pub present : thread < n
  pub permitted : may_go_back rows s.positions n thread ≡ true
  pub moved : s'.positions ≡ set s.positions thread (get_or s.positions thread 0 - 1)
  pub entries : es' ≡ entry_of choices s.positions thread ∷ es
  pub wants : s'.wanted ≡ s.wanted
  pub holds : s'.masks ≡ s.masks

-- none may go back: all jumped, the entries are forgotten
pub record Jumped (rows begins : List ℕ) (n : ℕ) (s s' : State) (es' : List ℕ) : Type 0 where
  pub landed : Landed rows begins n s.positions s'.positions s'.wanted n
  pub holds : Holding rows s.positions s'.masks n
  pub entries : es' ≡ []

-- one move, from a state with the entries es to one with the entries es'
unfoldable pub Turned : List ℕ → List ℕ → List ℕ → ℕ → State → State → List ℕ → List ℕ → Type 0
Turned choices rows begins n s s' es es' = SteppedBack choices rows n s s' es es' ⊎ Jumped rows begins n s s' es'

-- whatever plan the paths are of: from a target that the first state is, the way back leads to the second, with the entries es
pub record Retreats (choices rows begins : List ℕ) (n : ℕ) (s₀ s : State) (es : List ℕ) : Type 0 where
  pub leads : (ps : List Block) (ns : List ℕ) (P : ℕ → List ℕ) (x : ℕ → ℕ → ThreadState) (bound : ℕ) → length ns ≡ n
      → ((t j : ℕ) → t < n → j < length (P t) → get_or (P t) j 0 ≡ choice_at choices t j)
      → Paths ps ns P x (masks_of rows) begins
      → GoingBack ps (length ns) P x bound (take n s₀.positions) [] s₀.wanted s₀.masks
      → GoingBack ps (length ns) P x bound (take n s.positions) es s.wanted s.masks

-- The way back has come to the start, and there are no more entries than there were steps to go back at first.
pub record WentBack (choices rows begins : List ℕ) (n : ℕ) (s₀ s : State) (es : List ℕ) : Type 0 where
  pub short : length es ≤ steps_left s₀.positions n
  pub ended : AtStart s.positions n
  pub retreats : Retreats choices rows begins n s₀ s es
