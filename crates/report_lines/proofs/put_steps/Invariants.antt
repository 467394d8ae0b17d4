-- The lines of the entries so far are written, each within its room.
use Rattle.std.proofs.Common.{◌+◌, ◌*◌, ◌≤◌, length, drop}
use Rattle.report_lines.specs.Lines.{step_line, step_line_room}
use Rattle.report_lines.proofs.Listings.{Listing}
use Rattle.report_lines.proofs.put_steps.Given as goal

abbrev pub invariant-loop-entry : goal.invariant-loop-entry
invariant-loop-entry l =
    (l.at + length l.entries * step_line_room ≤ length l.initial.out) × (l.i ≤ l.at + l.entry-index * step_line_room) × Listing step_line l.initial.out l.out l.at l.i l.entries (drop l.entry-index l.entries)
