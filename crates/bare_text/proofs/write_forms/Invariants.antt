-- Item after item, each written into what is left of the output, until none is left.
use Prim.Native.Nat.{◌-◌, ◌≤◌}
use mathlib.Core.Path.{◌≡◌}
use lib.ListN.{length}
use Rattle.text.specs.Lines.{text_of}
use Rattle.plan.specs.Table.{table_forms}
use Rattle.bare_text.specs.Writing.{SmallTable}
use Rattle.bare_text.proofs.Writing.{WroteAll}
use Rattle.bare_text.proofs.write_forms.Given as goal

abbrev pub invariant-loop-i : goal.invariant-loop-i
invariant-loop-i l =
    SmallTable l.table × (length (text_of (table_forms l.table)) ≤ length l.initial.out) × (length l.out ≡ length l.initial.out) × WroteAll l.straighten l.table l.initial.out l.out l.i l.used

abbrev pub decreases-loop-i : goal.decreases-loop-i
decreases-loop-i l = length l.table - l.i
