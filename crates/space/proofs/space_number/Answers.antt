-- The number of the answer; the sum and a refusal's line are small.
use Rattle.space.proofs.Needed.{needed_carried, needed-number}
use borrow.Author.Rules.{rules}
use Rattle.space.proofs.space_number.Goals as goal

pub counted_number-requires : goal.counted_number-requires
counted_number-requires c = search (needed_carried, rules)

pub returns : goal.returns
returns c = search (needed-number, rules)
