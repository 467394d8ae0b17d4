-- A plan that keeps the rules has few pairs, so their lines fit.
use Rattle.report_text.proofs.Parts.{within-masks, within_codes, procedure_codes, procedure_room, procedure_lines}
use borrow.Author.Rules.{rules}
use Rattle.report_text.proofs.put_pair_lines.Goals as goal

pub slice_bounds-put_proc_lines-end : goal.slice_bounds-put_proc_lines-end
slice_bounds-put_proc_lines-end c = search (within-masks, rules)

pub slice_bounds-put_proc_lines-end-2 : goal.slice_bounds-put_proc_lines-end-2
slice_bounds-put_proc_lines-end-2 c = search (within_codes, rules)

pub put_proc_lines-requires : goal.put_proc_lines-requires
put_proc_lines-requires c = search (procedure_codes, procedure_room, rules)

pub returns : goal.returns
returns c = search (procedure_lines, rules)
