-- The wanted lock with the bytes before it, the locks had, then the end.
use borrow.Author.Rules.{rules}
use Rattle.report_lines.proofs.WholeLines.{pair-whole}
use Rattle.report_lines.proofs.put_pair_form.Goals as goal

pub returns : goal.returns
returns c = search (pair-whole, rules)
