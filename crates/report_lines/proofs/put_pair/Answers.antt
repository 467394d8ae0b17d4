-- The form, then the line end.
use borrow.Author.Rules.{rules}
use Rattle.laws.proofs.Wrote.{wrote-more}
use Rattle.report_lines.specs.Lines.{pair_line}
use Rattle.report_lines.proofs.put_pair.Goals as goal

pub returns : goal.returns
unfolding pair_line
returns c = search (wrote-more, rules)
