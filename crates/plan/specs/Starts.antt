-- Where the procedures of a plan begin in its table of forms.
use Rattle.std.specs.Prelude.{ℕ, ◌<◌, ◌≤◌, List, ◌∷◌, ◌≡◌, length, drop, get_or}
use Rattle.text.specs.declared.Form.{Form}
use Rattle.text.specs.declared.Form.TheVariants.{Close}
use Rattle.semantics.specs.Plan.{Block, body_in}
use Rattle.plan.specs.Grammar.{block_forms}
use Rattle.plan.specs.Table.{table_forms}
use Rattle.plan.specs.Settled.{table_plan}
use Rattle.plan.specs.Rules.{proc_form_from}

-- a block stands at a place of a table, up to the form that closes it
pub record StandsAt (ws : List ℕ) (place : ℕ) (b : Block) : Type 0 where
  pub within : place ≤ length ws
  pub later : List Form
  pub written : table_forms (drop place ws) ≡ block_forms b (Close ∷ later)

-- the first place of each procedure's block. It is also the number of the procedure's `(proc` among the forms, from 1
pub record Starts (ws starts : List ℕ) : Type 0 where
  pub room : length (table_plan ws).procs ≤ length starts
  pub stands : (p : ℕ) → p < length (table_plan ws).procs → StandsAt ws (get_or starts p 0) (body_in (table_plan ws).procs p)
  pub numbers : (p : ℕ) → p < length (table_plan ws).procs → get_or starts p 0 ≡ proc_form_from 1 p (table_forms ws)
