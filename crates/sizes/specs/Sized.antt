-- A table of the procedures' sizes, and how it is found: callees first.
use Rattle.std.specs.Prelude.{ℕ, ◌<◌, ◌≤◌, min, List, ◌≡◌, T, length, get_or}
use Rattle.limits.specs.Limits.{max_threads, size_room}
use Rattle.laws.specs.Mask.{in_mask}
use Rattle.laws.specs.Sums.{total}
use Rattle.semantics.specs.Plan.{Ranks}
use Rattle.semantics.specs.Sizes.{size_of}
use Rattle.plan.specs.Settled.{PlanTable, table_plan}
use Rattle.procs.specs.declared.Layout.{Layout}
use Rattle.procs.specs.Laid.{Laid}
use Rattle.reach.specs.Reached.{ReachTable}
use Rattle.sizes.specs.declared.Space.{Space}
use Rattle.sizes.specs.Passes.{known_size}

-- of each procedure of a table of forms the size, cut off at one more than rule 9 allows
pub record Sized (ws sizes : List ℕ) : Type 0 where
  pub room : length (table_plan ws).procs ≤ length sizes
  pub entries : (p : ℕ) → p < length (table_plan ws).procs → get_or sizes p 0 ≡ min size_room (size_of (table_plan ws).procs p)

-- what the sizes are found from: a plan's table within rule 12, its layout, and what each of its procedures reaches
pub record SizesAsked (ws : List ℕ) (l : Layout) (masks : List ℕ) : Type 0 where
  pub plan : PlanTable ws
  pub ranks : Ranks (table_plan ws).procs
  pub laid : Laid ws l
  pub reach : ReachTable ws masks

-- the sizes of the procedures of a mask are found
pub record SizesFound (ws sizes : List ℕ) (found : ℕ) : Type 0 where
  pub room : length (table_plan ws).procs ≤ length sizes
  pub entries : (p : ℕ) → p < length (table_plan ws).procs → T (in_mask found p) → get_or sizes p 0 ≡ min size_room (size_of (table_plan ws).procs p)

-- What was found is kept, and procedure p is found where all of `mask`, those that it reaches, were.
pub record FoundAt (mask p before after : ℕ) : Type 0 where
  pub kept : (q : ℕ) → T (in_mask before q) → T (in_mask after q)
  pub here : ((q : ℕ) → T (in_mask mask q) → T (in_mask before q)) → T (in_mask after p)

-- the same of the first n procedures
pub record FoundRound (masks : List ℕ) (n before after : ℕ) : Type 0 where
  pub kept : (q : ℕ) → T (in_mask before q) → T (in_mask after q)
  pub here : (p : ℕ) → p < n → ((q : ℕ) → T (in_mask (get_or masks p 0) q) → T (in_mask before q)) → T (in_mask after p)

-- none of the sizes that a table has of n threads is above the cut
pub record ThreadsCut (runs : List ℕ) (n : ℕ) (sizes : List ℕ) : Type 0 where
  pub cut : (t : ℕ) → t < n → known_size sizes (get_or runs t 0) ≤ size_room

-- the sizes of n procedures, of which the table `runs` has the numbers, and their sum
pub record Summed (runs : List ℕ) (n : ℕ) (sizes : List ℕ) (s : Space) : Type 0 where
  pub full : max_threads ≡ length s.each
  pub threads : s.threads ≡ n
  pub each : (t : ℕ) → t < n → get_or s.each t 0 ≡ known_size sizes (get_or runs t 0)
  pub sum : s.sum ≡ total n (λ t. known_size sizes (get_or runs t 0))
