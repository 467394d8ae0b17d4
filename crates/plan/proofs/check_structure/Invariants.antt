-- What the machine says of the forms that are left, with its stack in the buffer, is what rule 4 says of the table. The stack has room: it holds no more brackets than
-- forms were read.
use Prim.Native.Nat.{◌≤◌}
use mathlib.Core.Path.{◌≡◌}
use Rattle.plan.specs.Table.{table_forms}
use Rattle.plan.specs.Structure.{stack_of, misplaced_form}
use Rattle.plan.proofs.Passes.{misplaced_from}
use Rattle.plan.proofs.check_structure.Given as goal

abbrev pub invariant-loop-i : goal.invariant-loop-i
invariant-loop-i l = (l.depth ≤ l.i) × (misplaced_from l.table l.mode (stack_of l.stack l.depth) l.i ≡ misplaced_form (table_forms l.table))
