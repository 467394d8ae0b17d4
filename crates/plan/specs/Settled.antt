-- What rules 4 to 8 settle of a plan's tree: exactly this (theorem `rules-plan`). Later crates rest on it. Rule 12 adds ranks (theorem `rules-ranks`).
use Rattle.std.specs.Prelude.{ℕ, ◌+◌, ◌<◌, ◌≤◌, max, false, List, [], ◌∷◌, ◌≡◌, length}
use Rattle.std.proofs.Math.Option.{none}
use Rattle.limits.specs.Limits.{max_procs, max_statements, max_threads, max_brackets}
use Rattle.semantics.specs.Plan.{Block, done, skip, call, hold, loop, either, end, LockPlan, thread_proc, body_in, Written, WellFormed}
use Rattle.plan.specs.Grammar.{forms, plan_in}
use Rattle.plan.specs.Table.{table_forms}
use Rattle.plan.specs.Rules.{recursive, too_large}

-- how many statements a block has, those within others too
unfoldable pub statements : Block → ℕ
statements done = 0
statements (skip r) = 1 + statements r
statements (call p r) = 1 + statements r
statements (hold l b r) = 1 + statements b + statements r
statements (loop b r) = 1 + statements b + statements r
statements (either a b r) = 1 + statements a + statements b + statements r
statements (end l r) = statements r

unfoldable pub all_statements : List Block → ℕ
all_statements [] = 0
all_statements (b ∷ bs) = statements b + all_statements bs

-- how many "brackets of hold, loop, either, one and two", and of share, are open together somewhere in a block
unfoldable pub nesting : Block → ℕ
nesting done = 0
nesting (skip r) = nesting r
nesting (call p r) = nesting r
nesting (hold l b r) = max (1 + nesting b) (nesting r)
nesting (loop b r) = max (1 + nesting b) (nesting r)
nesting (either a b r) = max (2 + nesting a) (max (2 + nesting b) (nesting r))
nesting (end l r) = nesting r

-- What rules 4 to 8 settle of a plan: among others that callees are there and locks below 32, so claims below 64 (`callees_present`).
pub record Settled (plan : LockPlan) : Type 0 where
  pub callees_present : (p : ℕ) → Written (λ q. q < length plan.procs) (body_in plan.procs p)
  pub filled : (p : ℕ) → p < length plan.procs → WellFormed false (body_in plan.procs p)
  pub threads-present : (t : ℕ) → t < length plan.threads → thread_proc plan t < length plan.procs
  pub some-proc : 0 < length plan.procs
  pub some-thread : 0 < length plan.threads
  pub few-procs : length plan.procs ≤ max_procs
  pub few-statements : all_statements plan.procs ≤ max_statements
  pub few-threads : length plan.threads ≤ max_threads
  pub few_open : (p : ℕ) → nesting (body_in plan.procs p) ≤ max_brackets

-- the plan of a table of forms
abbrev pub table_plan : List ℕ → LockPlan
table_plan ws = plan_in (table_forms ws)

-- a table that holds the forms of a plan within rules 4 to 8: what an accepted text leaves (theorem `formed-table`)
pub record PlanTable (ws : List ℕ) : Type 0 where
  pub written : table_forms ws ≡ forms (table_plan ws)
  pub settled : Settled (table_plan ws)

-- the table of a plan that keeps the rules 4 to 9 and 12, as that of an accepted text does (theorem `rules-kept`). Rule 13 is not asked: nothing rests on it
pub record RulesKept (ws : List ℕ) : Type 0 where
  pub plan : PlanTable ws
  pub acyclic : recursive (table_forms ws) ≡ none
  pub sizes : too_large (table_forms ws) ≡ none
