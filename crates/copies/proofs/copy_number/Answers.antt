-- The number of bytes and a refusal's line are below 2 to the power 40.
use Rattle.copies.proofs.Copies.{copy_carried, copy-number}
use borrow.Author.Rules.{rules}
use Rattle.copies.proofs.copy_number.Goals as goal

pub counted_number-requires : goal.counted_number-requires
counted_number-requires c = search (copy_carried, rules)

pub returns : goal.returns
returns c = search (copy-number, rules)
