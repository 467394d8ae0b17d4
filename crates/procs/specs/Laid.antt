-- The layout of a plan's table of forms.
use Rattle.std.specs.Prelude.{ℕ, ◌≤◌, List, ◌≡◌, length, take}
use Rattle.limits.specs.Limits.{max_procs, max_threads}
use Rattle.plan.specs.Settled.{table_plan}
use Rattle.plan.specs.Starts.{Starts}
use Rattle.procs.specs.declared.Layout.{Layout}

-- how many procedures the plan has and where each begins; how many threads, and the procedure that each runs
pub record Laid (ws : List ℕ) (l : Layout) : Type 0 where
  pub procs-all : l.procs ≡ length (table_plan ws).procs
  pub starts_full : max_procs ≡ length l.starts
  pub starts_there : Starts ws l.starts
  pub threads-all : l.threads ≡ length (table_plan ws).threads
  pub runs-full : max_threads ≡ length l.runs
  pub threads-there : l.threads ≤ length l.runs
  pub runs_are : take l.threads l.runs ≡ (table_plan ws).threads
