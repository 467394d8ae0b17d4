-- The lines of the pairs that are not left are written, and there is a room for each that is left.
use Rattle.std.proofs.Common.{◌+◌, ◌*◌, ◌≤◌, length}
use Rattle.std.specs.Iterator.Adapters.{zip_first, zip_second}
use Rattle.std.specs.Slice.Iter.{iter_rest}
use Rattle.columns.specs.Columns.{pair_numbers}
use Rattle.report_lines.specs.Lines.{pair_line, pair_line_room}
use Rattle.report_lines.proofs.Listings.{Listing}
use Rattle.report_lines.proofs.put_pairs.Given as goal

abbrev pub invariant-loop-mask : goal.invariant-loop-mask
invariant-loop-mask l =
    let masks = iter_rest (zip_first l.mask-iterator) in
    let codes = iter_rest (zip_second l.mask-iterator) in
    (l.at + length l.masks * pair_line_room ≤ length l.initial.out) × (l.i + length masks * pair_line_room ≤ l.at + length l.masks * pair_line_room)
    × Listing pair_line l.initial.out l.out l.at l.i (pair_numbers l.masks l.codes) (pair_numbers masks codes)
