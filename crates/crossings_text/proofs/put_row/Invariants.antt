-- The lines with the threads below u are written, each within its room; a turn writes the next behind them.
use Prim.Native.Nat.{◌+◌, ◌*◌, ◌≤◌}
use mathlib.Core.Path.{◌≡◌}
use lib.ListN.{length}
use Rattle.laws.specs.Wrote.{Wrote}
use Rattle.plan.specs.Rules.{plan_of}
use Rattle.couple_lines.specs.CoupleLines.{cross_line_room}
use Rattle.crossings_text.specs.AllCrossings.{cross_row, cross_number}
use Rattle.crossings_text.proofs.put_row.Given as goal

abbrev pub invariant-loop-u : goal.invariant-loop-u
invariant-loop-u l = (length l.out ≡ length l.initial.out) × (l.i ≤ l.at + l.u * cross_line_room) × Wrote l.initial.out l.out l.at l.i (cross_row (cross_number (plan_of l.text)) l.t l.u)
