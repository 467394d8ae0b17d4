-- The layout of a table says of each thread which procedure it runs, and that one is there.
use Prim.Native.Nat.{ℕ, ◌<◌}
use native.Mathlib.Omega.{arith}
use mathlib.Core.Path.{◌≡◌}
use mathlib.Core.List.{List}
use lib.ListN.{length, get_or}
use Rattle.laws.proofs.Places.{front_at}
use Rattle.plan.specs.Settled.{PlanTable, table_plan}
use Rattle.procs.specs.declared.Layout.{Layout}
use Rattle.procs.specs.Laid.{Laid}

module _ (ws : List ℕ) (l : Layout) (d : Laid ws l) (t : ℕ) (h : t < l.threads) where
  pub runs-at : get_or l.runs t 0 ≡ get_or (table_plan ws).threads t 0
  runs-at = front_at l.threads l.runs (table_plan ws).threads d.runs_are t 0 h

  pub runs-present : PlanTable ws → get_or l.runs t 0 < length (table_plan ws).procs
  runs-present plan = rw runs-at (plan.settled.threads-present t (omega (arith, d.threads-all)))
