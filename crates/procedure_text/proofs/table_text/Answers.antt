-- The part is empty where the procedure is absent; else it begins at the line where the procedure does.
use Rattle.procedure_text.proofs.ProcText.{part-empty, table-absent, start_first, start-within, table-there}
use borrow.Author.Rules.{rules}
use Rattle.procedure_text.proofs.table_text.Goals as goal

pub returns-then-layout-proc : goal.returns-then-layout-proc
returns-then-layout-proc c = search (part-empty, table-absent, rules)

pub proc_part-requires : goal.proc_part-requires
proc_part-requires c = search (start_first, start-within, rules)

pub returns : goal.returns
returns c = search (table-there, rules)
