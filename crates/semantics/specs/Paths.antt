-- The path to a critical pair: the walk that lists the pairs of a procedure, with the steps written down as it goes, and what it says of an execution.
use Rattle.std.specs.Prelude.{ℕ, zero, suc, ◌+◌, ◌*◌, ◌/◌, ◌%◌, ◌^◌, ◌<◌, ◌≤◌, List, [], ◌∷◌, ◌++◌, map, Bool, cond, ◌&&◌, ◌≡◌, length, get_or, T, eqb}
use Rattle.std.proofs.Math.Option.{some}
use Rattle.std.specs.Int.Bits.{bit_or}
use Rattle.limits.specs.Limits.{claim_count}
use Rattle.laws.specs.Mask.{in_mask}
use Rattle.semantics.specs.Claims.{fresh_to}
use Rattle.semantics.specs.Plan.{Block, done, skip, call, hold, loop, either, end, body_in}
use Rattle.semantics.specs.Sizes.{size_at}
use Rattle.semantics.specs.Run.{ThreadState, thread, initial}
use Rattle.semantics.specs.Pairs.{pair_of, had, fresh}
use Rattle.semantics.specs.Execution.{exec, state_after}

-- One number for each step of a path: the choice, and the mask of what is had after it.
abbrev pub step_of : ℕ → ℕ → ℕ
step_of c m = c + 4 * m

-- the choice of a step
abbrev pub choice_of : ℕ → ℕ
choice_of e = e % 4

-- its mask
abbrev pub mask_in : ℕ → ℕ
mask_in e = e / 4

-- the choices of a path
abbrev pub choices : List ℕ → List ℕ
choices path = map choice_of path

-- the mask after j steps from no locks
abbrev pub mask_at : List ℕ → ℕ → ℕ
mask_at path zero = 0
mask_at path (suc j) = mask_in (get_or path j 0)

-- the claims of m, and l
abbrev pub holding : ℕ → ℕ → ℕ
holding m l = bit_or m (2 ^ l)

-- one step more
abbrev pub put : List ℕ → ℕ → ℕ → List ℕ
put path c m = path ++ (step_of c m ∷ [])

-- claim l is fresh to who has those of m
abbrev pub fresh_in : ℕ → ℕ → Bool
fresh_in m l = fresh_to (in_mask m) l

-- a hold of claim l that is begun with the claims of m gives the pair w
abbrev pub gives : ℕ → ℕ → ℕ → Bool
gives w m l = fresh_in m l && eqb (pair_of m l) w

-- where a walk stopped, with the path written so far: at the hold that was looked for, or behind the block
pub data Walked : Type 0 where
  found : List ℕ → Walked
  passed : List ℕ → Walked

-- what follows, if the walk passed
abbrev pub and_then : Walked → (List ℕ → Walked) → Walked
and_then (found path) k = found path
and_then (passed path) k = k path

-- the walk of a block, with the claims of m had and the path so far, to a hold that gives w; g p walks procedure p
unfoldable pub walk_with : (ℕ → ℕ → List ℕ → Walked) → ℕ → ℕ → List ℕ → Block → Walked
walk_with g w m path done = passed path
walk_with g w m path (skip r) = walk_with g w m (put path 0 m) r
walk_with g w m path (call p r) = and_then (g p m (put path 0 m)) (λ q. walk_with g w m q r)
walk_with g w m path (hold l b r) =
    cond (gives w m l) (found path)
    (and_then (walk_with g w (holding m l) (put path 0 (holding m l)) b) (λ q. walk_with g w m (put q 0 m) r))
walk_with g w m path (loop b r) = and_then (walk_with g w m (put path 1 m) b) (λ q. walk_with g w m (put path 2 m) r)
walk_with g w m path (either a b r) =
    and_then (walk_with g w m (put path 1 m) a) (λ q. and_then (walk_with g w m (put path 2 m) b) (λ q'. walk_with g w m q' r))
walk_with g w m path (end l r) = passed path

-- the walk of procedure p, where calls go less than d deep
unfoldable pub walk_at : ℕ → List Block → ℕ → ℕ → ℕ → List ℕ → Walked
walk_at zero ps w p m path = passed path
walk_at (suc d) ps w p m path = walk_with (walk_at d ps w) w m path (body_in ps p)

-- the path to a hold of procedure p that gives w
abbrev pub path_to : ℕ → List Block → ℕ → ℕ → Walked
path_to d ps p w = walk_at d ps w p 0 []

-- The walk that began with thread x and has written the path has the claims of m and stands before b: the choices lead there, with counts cs, and each step has
-- the mask of the counts after it.
pub record Stands (ps : List Block) (x : ThreadState) (path : List ℕ) (m : ℕ) (cs : List ℕ) (b : Block) : Type 0 where
  pub leads : exec ps x (choices path) ≡ some (thread b cs)
  pub masks : (j : ℕ) → j < length path → mask_in (get_or path j 0) ≡ had (state_after ps x (choices path) (suc j)).count
  pub mask : m ≡ had cs
  pub locks : length cs ≡ claim_count

-- The path leads from x to a hold that gives w. Source 000, Lemma 4.2: "⟨C, ∅⟩ →* ⟨C', L⟩ → ⟨C'', L[ℓ++]⟩, with X = ⌊L⌋ and ℓ ∉ X".
pub record Finds (ps : List Block) (x : ThreadState) (w : ℕ) (path : List ℕ) : Type 0 where
  pub claim : ℕ
  pub inside : Block
  pub following : Block
  pub count : List ℕ
  pub mask : ℕ
  pub stands : Stands ps x path mask count (hold claim inside following)
  pub small : claim < claim_count
  pub free : T (fresh count claim)
  pub pair : w ≡ pair_of (had count) claim

-- The computed path to the pair w of procedure p: its choices are an execution to a hold that gives w, the masks are those after each step, and it is no longer
-- than the procedure's size.
pub record PathFound (d : ℕ) (ps : List Block) (p w : ℕ) : Type 0 where
  pub path : List ℕ
  pub walked : path_to d ps p w ≡ found path
  pub place : Finds ps (initial ps p) w path
  pub short : length path ≤ size_at d ps p
