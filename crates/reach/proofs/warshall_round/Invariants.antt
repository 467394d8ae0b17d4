-- The masks before the index are joined as the definition joins them, and the others are as they were.
use mathlib.Core.Path.{◌≡◌}
use mathlib.Core.List.{◌++◌, map}
use lib.ListN.{take, drop, get_or}
use Rattle.semantics.specs.CallMasks.{join_through}
use Rattle.reach.proofs.warshall_round.Given as goal

abbrev pub invariant-loop-mask : goal.invariant-loop-mask
invariant-loop-mask l = l.masks ≡ map (join_through l.k (get_or l.fn.masks l.k 0)) (take l.mask-index l.fn.masks) ++ drop l.mask-index l.fn.masks
