-- After t turns the lines of the threads below t are written, each row within its room; a turn writes the next row behind them.
use Prim.Native.Nat.{◌+◌, ◌*◌, ◌≤◌}
use mathlib.Core.Path.{◌≡◌}
use lib.ListN.{length}
use Rattle.laws.specs.Wrote.{Wrote}
use Rattle.plan.specs.Rules.{plan_of}
use Rattle.crossings_text.specs.AllCrossings.{cross_rows, cross_number, cross_row_room}
use Rattle.crossings_text.proofs.put_rows.Given as goal

abbrev pub invariant-loop-t : goal.invariant-loop-t
invariant-loop-t l = (length l.out ≡ length l.initial.out) × (l.i ≤ l.at + l.t * cross_row_room) × Wrote l.initial.out l.out l.at l.i (cross_rows (cross_number (plan_of l.text)) l.n l.t)
