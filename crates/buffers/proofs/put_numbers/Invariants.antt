-- The first i numbers are written.
use Rattle.std.proofs.Common.{◌≡◌, ◌*◌, ◌≤◌, length, map, take}
use Rattle.laws.specs.Wrote.{Wrote}
use Rattle.buffers.specs.LittleEndian.{list_bytes}
use Rattle.buffers.proofs.put_numbers.Given as goal

abbrev pub invariant-loop-i : goal.invariant-loop-i
invariant-loop-i g l =
    (l.i ≤ length l.numbers) × (length l.out ≡ length l.initial.out) × Wrote l.initial.out l.out 0 (l.i * g.row.W) (list_bytes g.row.W (take l.i (map g.T.Number.value l.numbers)))
