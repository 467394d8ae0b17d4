-- The claim that a block makes first.
use Rattle.std.specs.Prelude.{ℕ, ◌<◌, List, ◌≡◌, length}
use Rattle.semantics.specs.Plan.{body_in}
use Rattle.semantics.specs.StuckRounds.{first_wanted}
use Rattle.plan.specs.Settled.{table_plan, PlanTable}
use Rattle.plan.specs.Starts.{StandsAt}

-- r is the claim, as a mask, that the procedure whose block stands at a place of a plan's table begins with
abbrev pub FirstWantedAt : List ℕ → ℕ → ℕ → Type 0
FirstWantedAt ws start r =
    PlanTable ws → (p : ℕ) → p < length (table_plan ws).procs → StandsAt ws start (body_in (table_plan ws).procs p) → r ≡ first_wanted (body_in (table_plan ws).procs p)
