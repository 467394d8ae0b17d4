-- The masks of the threads below t are there.
use Rattle.std.proofs.Common.{◌≡◌, length}
use Rattle.limits.specs.Limits.{max_threads}
use Rattle.retreat.specs.Paths.{Holding}
use Rattle.retreat.proofs.Threads.fill_masks.Given as goal

abbrev pub invariant-loop-t : goal.invariant-loop-t
invariant-loop-t l = (max_threads ≡ length l.masks) × Holding l.self.rows.now l.positions l.masks l.t
