-- The table where the rules are kept, and else the line of the refusal.
use Rattle.crossings_text.proofs.Tables.{threads-known, crossings-whole, crossings-refused}
use borrow.Author.Rules.{rules}
use Rattle.crossings_text.proofs.put_crossings.Goals as goal

pub put_table-requires : goal.put_table-requires
put_table-requires c = search (threads-known, c.in-Ok.ensures, rules)

pub returns-in-Ok : goal.returns-in-Ok
returns-in-Ok c = search (crossings-whole, c.in-Ok.ensures, rules)

pub returns-in-Err : goal.returns-in-Err
returns-in-Err c = search (crossings-refused, c.in-Err.ensures, rules)
