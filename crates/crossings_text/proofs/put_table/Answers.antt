-- The opening, the lines of the threads, the closing line, each behind the one before.
use Rattle.crossings_text.proofs.Tables.{table-whole}
use borrow.Author.Rules.{rules}
use Rattle.crossings_text.proofs.put_table.Goals as goal

pub returns : goal.returns
returns c = search (table-whole, rules)
