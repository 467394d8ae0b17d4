-- The pair with the number, then the line end.
use borrow.Author.Rules.{rules}
use Rattle.laws.proofs.Wrote.{wrote-more}
use Rattle.report_lines.specs.Lines.{proc_open}
use Rattle.report_lines.proofs.put_proc.Goals as goal

pub returns : goal.returns
unfolding proc_open
returns c = search (wrote-more, rules)
