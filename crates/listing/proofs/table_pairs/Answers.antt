-- Rule 11 by the number of procedures; else the pairs collected.
use Rattle.listing.proofs.ListedPairs.{table-absent, table-listed}
use borrow.Author.Rules.{rules}
use Rattle.listing.proofs.table_pairs.Goals as goal

pub returns-then-layout-proc : goal.returns-then-layout-proc
returns-then-layout-proc c = search (table-absent, rules)

pub returns : goal.returns
returns c = search (table-listed, rules)
