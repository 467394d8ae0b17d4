-- The members that are not left are written.
use Rattle.std.proofs.Common.{◌≡◌, ◌+◌, ◌≤◌, length}
use Rattle.report_lines.specs.Lines.{members, lines_of, behind_blank}
use Rattle.report_lines.proofs.Listings.{Listing}
use Rattle.report_lines.proofs.put_members.Given as goal

abbrev pub invariant-loop-k : goal.invariant-loop-k
invariant-loop-k l =
    (l.at + length (lines_of behind_blank (members 64 l.mask)) ≤ length l.initial.out) × (length l.out ≡ length l.initial.out) × Listing behind_blank l.initial.out l.out l.at l.i (members 64 l.mask) (members 64 l.k-iterator.0)
