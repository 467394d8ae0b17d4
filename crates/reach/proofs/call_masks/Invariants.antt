-- The entries before p are what the first p procedures call.
use mathlib.Core.Path.{◌≡◌}
use mathlib.Core.List.{map}
use lib.ListN.{length, take}
use Rattle.limits.specs.Limits.{max_procs}
use Rattle.reach.specs.Passes.{calls_from}
use Rattle.reach.proofs.call_masks.Given as goal

abbrev pub invariant-loop-p : goal.invariant-loop-p
invariant-loop-p l = (max_procs ≡ length l.masks) × (take l.p l.masks ≡ map (calls_from l.table) (take l.p l.starts))
