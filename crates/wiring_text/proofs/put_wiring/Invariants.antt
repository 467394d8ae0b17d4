-- After the heading and n turns the rows of the locks below n are written, each within its room; a turn writes the next row behind them.
use Prim.Native.Nat.{◌+◌, ◌*◌, ◌≤◌}
use lib.ListN.{length}
use Rattle.limits.specs.Limits.{lock_count}
use Rattle.laws.specs.Wrote.{Wrote}
use Rattle.wiring_text.specs.Wiring.{wiring_rows, row_room}
use Rattle.wiring_text.proofs.put_wiring.Given as goal

abbrev pub invariant-loop-lock : goal.invariant-loop-lock
invariant-loop-lock l =
    (l.initial.i + lock_count * row_room ≤ length l.initial.out) × (l.i ≤ l.initial.i + l.lock * row_room) × Wrote l.initial.out l.out l.initial.i l.i (wiring_rows l.lock)
