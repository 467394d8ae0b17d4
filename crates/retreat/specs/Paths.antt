-- The lent tables: the path of each thread, the masks of what it has along it, and what the threads have at their positions.
use Rattle.std.specs.Prelude.{ℕ, ◌+◌, ◌-◌, ◌*◌, ◌%◌, ◌<◌, ◌≤◌, Bool, false, List, ◌∷◌, ◌≡◌, eqb, get_or, take, drop}
use Rattle.std.specs.Int.Bits.{bit_and}
use Rattle.limits.specs.Limits.{max_size}
use Rattle.laws.specs.Choice.{pick}
use Rattle.columns.specs.Columns.{steps}
use Rattle.semantics.specs.Conflict.{bars}
use Rattle.semantics.specs.Joins.{other_than, join_below}
use Rattle.semantics.specs.Retreat.{others_at}

-- where the path of thread t begins in the columns of steps
abbrev pub row_start : ℕ → ℕ
row_start t = max_size * t

-- the path of thread t: as many steps as `lens` says, each its choice and the mask of what is had after it
unfoldable pub path_of : List ℕ → List ℕ → List ℕ → ℕ → List ℕ
path_of choices rows lens t = take (get_or lens t 0) (drop (row_start t) (steps choices rows))

-- the masks along the path of thread t: it begins with no locks
unfoldable pub masks_of : List ℕ → ℕ → List ℕ
masks_of rows t = 0 ∷ drop (row_start t) rows

-- the choice of the step that thread t takes at position j
unfoldable pub choice_at : List ℕ → ℕ → ℕ → ℕ
choice_at choices t j = get_or choices (row_start t + j) 0 % 4

-- the positions of n threads are within the rows
unfoldable pub InRows : List ℕ → ℕ → Type 0
InRows positions n = (t : ℕ) → t < n → get_or positions t 0 ≤ max_size

-- n threads at their positions have the masks
unfoldable pub Holding : List ℕ → List ℕ → List ℕ → ℕ → Type 0
Holding rows positions masks n = (t : ℕ) → t < n → get_or masks t 0 ≡ get_or (masks_of rows t) (get_or positions t 0) 0

-- the claims that may not stand beside what the threads other than k have, of n threads that have the masks
unfoldable pub barred_by_others : List ℕ → ℕ → ℕ → ℕ
barred_by_others masks n k = join_below n (other_than k) (λ i. bars (get_or masks i 0))

-- what thread k had before its last step and may not have beside another thread
unfoldable pub meeting : List ℕ → List ℕ → ℕ → ℕ → ℕ
meeting rows positions n k = bit_and (get_or (masks_of rows k) (get_or positions k 0 - 1) 0) (others_at n (masks_of rows) positions k)

-- thread k has stepped and may go back: its mask before its last step may stand beside each other thread's present mask
unfoldable pub may_go_back : List ℕ → List ℕ → ℕ → ℕ → Bool
may_go_back rows positions n k = pick (eqb (get_or positions k 0) 0) false (eqb (meeting rows positions n k) 0)

-- no thread may go back
unfoldable pub NoneMayGoBack : List ℕ → List ℕ → ℕ → Type 0
NoneMayGoBack rows positions n = (k : ℕ) → k < n → may_go_back rows positions n k ≡ false
