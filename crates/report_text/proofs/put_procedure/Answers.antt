-- The table that is lent on is the part that holds the text's forms.
use Rattle.report_text.proofs.Parts.{table-rules, table-laid, table-lines}
use borrow.Author.Rules.{rules}
use Rattle.report_text.proofs.put_procedure.Goals as goal

pub put_pair_lines-requires : goal.put_pair_lines-requires
put_pair_lines-requires c = search (table-rules, table-laid, rules)

pub returns : goal.returns
returns c = search (table-lines, rules)
