-- The walk of a block in a table of forms, and what it writes into a lent buffer: what `walk_with` of the theory says of the block's tree.
use Rattle.std.specs.Prelude.{ℕ, ◌+◌, ◌<◌, ◌≤◌, ◌≡◌, Option, MatchOption, length, take, drop}
use Rattle.std.specs.ControlFlow.{MatchControlFlow}
use Rattle.std.specs.declared.ops.ControlFlow.{ControlFlow}
use Rattle.std.specs.declared.ops.ControlFlow.TheVariants.{Continue, Break}
use mathlib.Core.List.{List, [], ◌∷◌, ◌++◌, Memᴰ}
use Rattle.limits.specs.Limits.{claim_count, max_size}
use Rattle.text.specs.declared.Form.{Form}
use Rattle.text.specs.declared.Form.TheVariants.{Close}
use Rattle.semantics.specs.Plan.{Block, Written, Ranks}
use Rattle.semantics.specs.Sizes.{size_with, size_at, size_of}
use Rattle.semantics.specs.Pairs.{pairs}
use Rattle.semantics.specs.Paths.{Walked, found, passed, walk_with, walk_at, PathFound}
use Rattle.plan.specs.Grammar.{claim_form, block_forms}
use Rattle.plan.specs.Table.{table_forms}
use Rattle.plan.specs.Settled.{table_plan, PlanTable}
use Rattle.plan.specs.Starts.{Starts}
use Rattle.paths.specs.declared.Spot.{Spot}
use Rattle.paths.specs.declared.Way.{Way}

-- r is the claim of which f is the form, if there is one
abbrev pub ClaimOf : Form → Option ℕ → Type 0
ClaimOf f r = MatchOption r ((a : ℕ) → a < claim_count → f ≡ claim_form a → ⊥) (λ a. (a < claim_count) × (f ≡ claim_form a))

-- the procedures of a plan's table
abbrev pub procs_in : List ℕ → List Block
procs_in ws = (table_plan ws).procs

-- the forms of a table from a place on
abbrev pub forms_from : List ℕ → ℕ → List Form
forms_from ws at = table_forms (drop at ws)

-- the number of a procedure of the plan
abbrev pub InPlan : List ℕ → ℕ → Type 0
InPlan ws q = q < length (procs_in ws)

-- a block whose calls go to procedures of the plan
abbrev pub Inside : List ℕ → Block → Type 0
Inside ws b = Written (InPlan ws) b

-- the size of a block, where calls go less deep than a way says
abbrev pub size_in : List ℕ → Way → Block → ℕ
size_in ws way b = size_with (size_at way.depth (procs_in ws)) b

-- the walk of a block behind a path, to a hold that gives a pair: as a way says, with the claims of its mask
abbrev pub walk_in : List ℕ → ℕ → Way → List ℕ → Block → Walked
walk_in ws pair way path b = walk_with (walk_at way.depth (procs_in ws) pair) pair way.mask path b

-- A buffer that goes on from its first n entries to its first k: those n stay.
pub record FrontKept (before : List ℕ) (n : ℕ) (after : List ℕ) (k : ℕ) : Type 0 where
  pub grows : n ≤ k
  pub room : k ≤ length after
  pub size : length after ≡ length before
  pub same : take n after ≡ take n before

-- The entry e is put behind the first n entries, where there is room for it.
pub record PutAt (before : List ℕ) (n e : ℕ) (k : ℕ) (after : List ℕ) : Type 0 where
  pub buffer : FrontKept before n after k
  pub one : k ≤ n + 1
  pub put : n < length before → take k after ≡ take n before ++ (e ∷ [])

-- what a walk asks: a plan's table with the places of its procedures, and a place in the buffer
pub record WalkReady (ws starts : List ℕ) (steps : List ℕ) (n : ℕ) : Type 0 where
  pub plan : PlanTable ws
  pub begins : Starts ws starts
  pub room : n ≤ length steps

-- where a walk stopped: it broke off at the hold that was looked for, with so many steps written, or it goes on at a spot
abbrev pub Stopped : Type 0
Stopped = ControlFlow ℕ Spot

-- how many steps are written
abbrev pub count_of : Stopped → ℕ
count_of (Break n) = n
count_of (Continue s) = s.count

-- what has been written, by whether the hold was reached
abbrev pub outcome_of : Stopped → List ℕ → Walked
outcome_of (Break n) steps = found (take n steps)
outcome_of (Continue s) steps = passed (take s.count steps)

-- what holds of the spot at which a walk goes on, if it does
abbrev pub GoesOn : Stopped → (Spot → Type 0) → Type 0
GoesOn r P = MatchControlFlow r P (λ n. Unit {0})

-- ---- a block

-- The walk of block b behind a path of n steps stopped at r. Where it passed the block, the forms behind it are those of `later`.
pub record BlockWalked (ws : List ℕ) (pair : ℕ) (way : Way) (path : List ℕ) (n : ℕ) (b : Block) (later : List Form) (r : Stopped) (after : List ℕ) : Type 0 where
  pub outcome : walk_in ws pair way path b ≡ outcome_of r after
  pub next : GoesOn r (λ s. forms_from ws s.next ≡ later)
  pub short : count_of r ≤ n + size_in ws way b

-- The walk of the forms from a place on, behind a path of k steps: of the block that they begin with, if they do with one, and there is room for its size. The first
-- n entries of the buffer stay.
pub record Walks (ws : List ℕ) (pair : ℕ) (way : Way) (at : ℕ) (before : List ℕ) (n : ℕ) (path : List ℕ) (k : ℕ) (r : Stopped) (after : List ℕ) : Type 0 where
  pub buffer : FrontKept before n after (count_of r)
  pub forward : GoesOn r (λ s. at ≤ s.next)
  pub walked : (b : Block) (later : List Form) → forms_from ws at ≡ block_forms b (Close ∷ later) → Inside ws b
      → k + size_in ws way b ≤ length before → BlockWalked ws pair way path k b later r after

-- ---- a statement

-- What is left of block b at a spot: its walk behind what is written is that of b behind the path of n steps.
pub record Left (ws : List ℕ) (pair : ℕ) (way : Way) (path : List ℕ) (n : ℕ) (b : Block) (later : List Form) (s : Spot) (after : List ℕ) : Type 0 where
  pub rest : Block
  pub forms : forms_from ws s.next ≡ block_forms rest (Close ∷ later)
  pub inside : Inside ws rest
  pub same : walk_in ws pair way path b ≡ walk_in ws pair way (take s.count after) rest
  pub short : s.count + size_in ws way rest ≤ n + size_in ws way b

-- The walk of block b's first statement stopped at r: the hold was reached, or the rest of b is left.
pub record StatementWalked (ws : List ℕ) (pair : ℕ) (way : Way) (path : List ℕ) (n : ℕ) (b : Block) (later : List Form) (r : Stopped) (after : List ℕ) : Type 0 where
  pub outcome : MatchControlFlow r (λ s. Left ws pair way path n b later s after) (λ k. walk_in ws pair way path b ≡ found (take k after))
  pub short : count_of r ≤ n + size_in ws way b

-- The walk of the statement whose first form is f and whose other forms stand from a place on: of the block that begins with it, if one does.
pub record StatementWalks (ws : List ℕ) (pair : ℕ) (way : Way) (f : Form) (at : ℕ) (before : List ℕ) (n : ℕ) (r : Stopped) (after : List ℕ) : Type 0 where
  pub buffer : FrontKept before n after (count_of r)
  pub forward : GoesOn r (λ s. at ≤ s.next)
  pub walked : (b : Block) (later : List Form) → (f ≡ Close → ⊥) → f ∷ forms_from ws at ≡ block_forms b (Close ∷ later) → Inside ws b
      → n + size_in ws way b ≤ length before → StatementWalked ws pair way (take n before) n b later r after

-- ---- the path

-- what the path to a pair asks: a plan within rule 12, and one of the pairs of its procedure p, whose size is within rule 9
pub record PathAsked (ws starts : List ℕ) (procs p pair : ℕ) : Type 0 where
  pub plan : PlanTable ws
  pub ranks : Ranks (procs_in ws)
  pub begins : Starts ws starts
  pub count : procs ≡ length (procs_in ws)
  pub present : p < procs
  pub small : size_of (procs_in ws) p ≤ max_size
  pub member : Memᴰ pair (pairs (length (procs_in ws)) (procs_in ws) p)

-- The path to the pair of procedure p is found, and is the first r entries.
pub record PathWritten (ws : List ℕ) (p pair r : ℕ) (steps : List ℕ) : Type 0 where
  pub found : PathFound (length (procs_in ws)) (procs_in ws) p pair
  pub written : take r steps ≡ found.path
  pub count : r ≡ length found.path
