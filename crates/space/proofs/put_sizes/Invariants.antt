-- After t turns the lines of the threads below t are written, each within its room; a turn writes the next line behind them.
use Prim.Native.Nat.{◌*◌, ◌≤◌}
use mathlib.Core.Path.{◌≡◌}
use lib.ListN.{length, get_or}
use Rattle.laws.specs.Wrote.{Wrote}
use Rattle.space.specs.Slip.{size_lines, size_line_room}
use Rattle.space.proofs.put_sizes.Given as goal

abbrev pub invariant-loop-t : goal.invariant-loop-t
invariant-loop-t l = (length l.out ≡ length l.initial.out) × (l.i ≤ l.t * size_line_room) × Wrote l.initial.out l.out 0 l.i (size_lines (λ u. get_or l.sizes u 0) l.t)
