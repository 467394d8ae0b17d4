-- The bytes of the lines still to be passed, from the place on, are what was left at the start.
use Prim.Native.Nat.{◌+◌}
use mathlib.Core.Path.{◌≡◌}
use lib.ListN.{drop}
use Rattle.parts.specs.Parts.{skip_lines}
use Rattle.parts.proofs.line_start.Given as goal

abbrev pub invariant-loop-i : goal.invariant-loop-i
invariant-loop-i l = l.i + skip_lines l.left (drop l.i l.text) ≡ skip_lines l.lines l.text
