-- The table holds the forms of the lines read so far (`Filling`); each line read, with what is passed over behind it, leaves less of the text.
use Prim.Native.Nat.{◌-◌, ◌≤◌}
use mathlib.Core.Path.{◌≡◌}
use lib.ListN.{length}
use Rattle.limits.specs.Limits.{max_bytes}
use Rattle.plan.specs.Table.{FormRoom}
use Rattle.plan.proofs.Filling.{Filling}
use Rattle.plan.proofs.fill.Given as goal

abbrev pub invariant-loop-here : goal.invariant-loop-here
invariant-loop-here l = (length l.text ≤ max_bytes) × FormRoom l.text l.initial.table × (length l.table ≡ length l.initial.table) × Filling l.text l.table l.here l.n

abbrev pub decreases-loop-here : goal.decreases-loop-here
decreases-loop-here l = length l.text - l.here.at
