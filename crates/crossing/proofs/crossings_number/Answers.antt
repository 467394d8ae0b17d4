-- The couples are those at the start of the buffer of bytes, which is lent on, and the answer is small enough for its number (`answer_carried`).
use Rattle.crossing.proofs.ThreadCouples.{answer_carried, bytes-crossed}
use borrow.Author.Rules.{rules}
use Rattle.crossing.proofs.crossings_number.Goals as goal

pub counted_number-requires : goal.counted_number-requires
counted_number-requires c = search (answer_carried, rules)

pub returns : goal.returns
returns c = search (bytes-crossed, rules)
