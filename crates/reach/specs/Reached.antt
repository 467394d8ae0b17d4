-- A table of what the procedures reach.
use Rattle.std.specs.Prelude.{ℕ, ◌<◌, ◌≤◌, List, ◌↔◌, T, length, get_or}
use Rattle.laws.specs.Mask.{in_mask}
use Rattle.semantics.specs.Calls.{Reaches}
use Rattle.plan.specs.Settled.{table_plan}

-- of each procedure of a table of forms the mask of those that it reaches: q is in p's exactly where p reaches q
pub record ReachTable (ws masks : List ℕ) : Type 0 where
  pub room : length (table_plan ws).procs ≤ length masks
  pub exact : (p : ℕ) → p < length (table_plan ws).procs → (q : ℕ) → T (in_mask (get_or masks p 0) q) ↔ Reaches (table_plan ws).procs p q
