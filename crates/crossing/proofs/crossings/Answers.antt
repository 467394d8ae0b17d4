-- The couples are those at the start of the buffer, which is lent on; the other buffer is empty.
use Rattle.crossing.proofs.ThreadCouples.{words_crossed}
use borrow.Author.Rules.{rules}
use Rattle.crossing.proofs.crossings.Goals as goal

pub returns : goal.returns
returns c = search (words_crossed, rules)
