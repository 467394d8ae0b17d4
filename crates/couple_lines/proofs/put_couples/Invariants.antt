-- After k turns the lines of the couples with the first k pairs of the list are written, each within its room; a turn writes the next behind them.
use Prim.Native.Nat.{◌*◌, ◌≤◌}
use lib.ListN.{take}
use Rattle.laws.specs.Wrote.{Wrote}
use Rattle.couples.specs.Records.{pairs_from, pair_in}
use Rattle.couple_lines.specs.CoupleLines.{couples_part, couple_line_room}
use Rattle.couple_lines.proofs.put_couples.Given as goal

abbrev pub invariant-loop-k : goal.invariant-loop-k
invariant-loop-k l =
    (l.i ≤ l.k * couple_line_room) × Wrote l.initial.out l.out 0 l.i (couples_part (take l.k (pairs_from l.others)) (pair_in l.v))
