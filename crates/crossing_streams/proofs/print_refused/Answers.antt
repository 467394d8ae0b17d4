-- What was written into the buffer is what is printed of it.
use Rattle.streams.proofs.Printing.{start-printed}
use borrow.Author.Rules.{rules}
use Rattle.crossing_streams.proofs.print_refused.Goals as goal

pub returns : goal.returns
returns c = search (start-printed, rules)
