-- A turn prints the next part, which lies within the buffer; the buffer keeps its length.
use Prim.Native.Nat.{◌*◌, ◌≤◌}
use mathlib.Core.Path.{◌≡◌}
use lib.ListN.{length}
use Rattle.report_text.specs.Tables.{part_room}
use Rattle.streams.proofs.Printing.{PrintedTo, reported}
use Rattle.streams.proofs.print_parts.Given as goal

abbrev pub invariant-loop-k : goal.invariant-loop-k
invariant-loop-k l = (length l.out ≡ length l.initial.out) × (l.bytes ≤ l.k * part_room) × PrintedTo (reported l.text l.findings l.entries) l.k l.bytes
