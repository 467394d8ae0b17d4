-- The locks that are not left are written; each of those left is a lock.
use Rattle.std.proofs.Common.{◌≡◌, ◌+◌, ◌<◌, ◌≤◌, length}
use Rattle.std.specs.List.{All}
use Rattle.limits.specs.Limits.{lock_count}
use Rattle.report_lines.specs.Lines.{members, lock_text, had_locks, had_text}
use Rattle.report_lines.proofs.Listings.{Listing}
use Rattle.report_lines.proofs.put_had.Given as goal

abbrev pub invariant-loop-k : goal.invariant-loop-k
invariant-loop-k l =
    (l.at + length (had_text l.mask) ≤ length l.initial.out) × (length l.out ≡ length l.initial.out) × All (λ k. k < lock_count) (members 64 l.k-iterator.0)
    × Listing (lock_text l.mask) l.initial.out l.out l.at l.i (members lock_count (had_locks l.mask)) (members 64 l.k-iterator.0)
