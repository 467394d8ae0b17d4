-- Where nothing is refused the answer counts the couples.
use Rattle.crossings_text.proofs.Tables.{number-counted}
use borrow.Author.Rules.{rules}
use Rattle.crossings_text.proofs.count_crossings.Goals as goal

pub returns : goal.returns
returns c = search (number-counted, rules)
