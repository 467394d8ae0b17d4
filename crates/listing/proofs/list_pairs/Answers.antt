-- The pairs found are those at the start of the buffer, which is lent on (`words_listed`).
use Rattle.listing.proofs.ListedPairs.{words_listed}
use borrow.Author.Rules.{rules}
use Rattle.listing.proofs.list_pairs.Goals as goal

pub returns : goal.returns
returns c = search (words_listed, rules)
