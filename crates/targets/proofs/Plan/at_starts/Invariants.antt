-- The threads below t are at their start.
use Rattle.std.proofs.Common.{◌≡◌, length}
use Rattle.limits.specs.Limits.{max_threads}
use Rattle.targets.specs.Tables.{BeginMasks}
use Rattle.targets.proofs.Plan.at_starts.Given as goal

abbrev pub invariant-loop-t : goal.invariant-loop-t
invariant-loop-t l = (max_threads ≡ length l.begins) × BeginMasks l.self.table.now l.begins l.t
