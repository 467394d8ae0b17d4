-- A turn prints the next part, which lies within the buffer; the buffer keeps its length.
use Prim.Native.Nat.{◌*◌, ◌≤◌}
use mathlib.Core.Path.{◌≡◌}
use lib.ListN.{length}
use Rattle.couples.specs.Records.{pairs_from}
use Rattle.couple_lines.specs.CoupleLines.{couples_parts, couples_part_room}
use Rattle.streams.proofs.Printing.{PrintedTo}
use Rattle.crossing_streams.proofs.print_couple_parts.Given as goal

abbrev pub invariant-loop-k : goal.invariant-loop-k
invariant-loop-k l =
    (length l.out ≡ length l.initial.out) × (l.bytes ≤ l.k * couples_part_room) × PrintedTo (couples_parts l.first l.second (pairs_from l.one) (pairs_from l.two)) l.k l.bytes
