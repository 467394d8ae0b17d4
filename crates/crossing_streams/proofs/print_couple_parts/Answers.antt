-- A turn prints the next part, which lies within the buffer; the buffer keeps its length. The loop ends behind the last part.
use borrow.Author.Rules.{rules}
use Rattle.streams.proofs.Printing.{part-printed}
use Rattle.crossing_streams.proofs.Printing.{couples-printed}
use Rattle.crossing_streams.proofs.print_couple_parts.Goals as goal

pub loop-k-preserved : goal.loop-k-preserved
loop-k-preserved c = (search rules, search rules, search (part-printed, c.in_ok-bytes.ensures, rules))

pub returns : goal.returns
returns c = search (couples-printed, rules)
