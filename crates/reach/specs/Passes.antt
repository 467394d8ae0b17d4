-- The procedures that a procedure calls, as a pass over its forms.
use Rattle.std.specs.Prelude.{ℕ, ◌^◌, cond, List, [], ◌∷◌, ltb, drop}
use Rattle.std.specs.Int.Bits.{bit_or}
use Rattle.limits.specs.Limits.{max_procs}
use Rattle.text.specs.declared.Form.{Form}
use Rattle.text.specs.Forms.{number_in, is_call, begins_other}
use Rattle.plan.specs.Table.{table_forms}

-- the bit of a procedure in a mask, 0 for a number that no procedure can have
unfoldable pub proc_bit : ℕ → ℕ
proc_bit p = cond (ltb p max_procs) (2 ^ p) 0

-- the procedure that a form calls, as a mask
unfoldable pub called_by : Form → ℕ
called_by f = cond (is_call f) (proc_bit (number_in f)) 0

-- those that the forms call up to the first that does not stand within a procedure
unfoldable pub calls_in : List Form → ℕ
calls_in [] = 0
calls_in (f ∷ fs) = cond (begins_other f) 0 (bit_or (called_by f) (calls_in fs))

-- from a place of a table on
unfoldable pub calls_from : List ℕ → ℕ → ℕ
calls_from ws place = calls_in (table_forms (drop place ws))
