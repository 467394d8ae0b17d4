-- The scan from the places that are left is that from j on.
use Rattle.std.proofs.Common.{◌≡◌}
use Rattle.semantics.specs.Retreat.{scan_back}
use Rattle.retreat.specs.Paths.{masks_of}
use Rattle.retreat.proofs.Threads.scan_back.Given as goal

abbrev pub invariant-loop-a : goal.invariant-loop-a
invariant-loop-a l = scan_back (masks_of l.self.rows.now l.t) l.l l.a ≡ scan_back (masks_of l.self.rows.now l.t) l.l l.j
