-- The masks are those after k rounds.
use Rattle.std.proofs.Common.{◌≡◌, take}
use Rattle.semantics.specs.CallMasks.{reach_masks}
use Rattle.plan.specs.Settled.{table_plan}
use Rattle.reach.proofs.reach_masks.Given as goal

abbrev pub invariant-loop-k : goal.invariant-loop-k
invariant-loop-k l = take l.fn.layout.procs l.masks ≡ reach_masks l.k (table_plan l.table).procs
