-- The part is empty where the plan is refused; else it is that of the procedure in the table.
use Rattle.procedure_text.proofs.ProcText.{part-empty, lines-refused, text-part}
use borrow.Author.Rules.{rules}
use Rattle.procedure_text.proofs.lines_of.Goals as goal

pub slice_bounds-table_text-end : goal.slice_bounds-table_text-end
slice_bounds-table_text-end c = let a = c.in-Ok.ensures in search rules

pub table_text-requires : goal.table_text-requires
table_text-requires c = let a = c.in-Ok.ensures in search rules

pub returns-in-Ok : goal.returns-in-Ok
returns-in-Ok c = search (text-part, c.in-Ok.ensures, rules)

pub returns-in-Err : goal.returns-in-Err
returns-in-Err c = search (part-empty, lines-refused, c.in-Err.ensures, rules)
