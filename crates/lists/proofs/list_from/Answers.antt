-- The pairs are those of the parts that were lent, put back into the columns (`listed-from`).
use Rattle.lists.proofs.Pairs.{listed-from}
use borrow.Author.Rules.{rules}
use Rattle.lists.proofs.list_from.Goals as goal

pub returns : goal.returns
returns c = search (listed-from, rules)
