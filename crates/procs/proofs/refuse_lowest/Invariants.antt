-- None of the procedures before p passes.
use Rattle.std.proofs.Common.{ℕ, ◌<◌, false}
use Rattle.procs.proofs.refuse_lowest.Given as goal

abbrev pub invariant-loop-p : goal.invariant-loop-p
invariant-loop-p g l = (q : ℕ) → q < l.p → goal.F-post g l.test q false
