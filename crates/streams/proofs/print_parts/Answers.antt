-- A turn prints the next part, which lies within the buffer; the buffer keeps its length.
use borrow.Author.Rules.{rules}
use Rattle.streams.proofs.Printing.{part-printed, report-printed, report-unwritten}
use Rattle.streams.proofs.print_parts.Goals as goal

pub returns-in_err-bytes : goal.returns-in_err-bytes
returns-in_err-bytes c = search (report-unwritten, rules)

pub loop-k-preserved : goal.loop-k-preserved
loop-k-preserved c = (search rules, search rules, search (part-printed, c.in_ok-bytes.ensures, rules))

pub returns : goal.returns
returns c = search (report-printed, rules)
