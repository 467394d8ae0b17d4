-- The first line, the pairs' lines, then the end.
use borrow.Author.Rules.{rules}
use Rattle.laws.proofs.Wrote.{wrote-three}
use Rattle.report_lines.specs.Lines.{closing, proc_lines}
use Rattle.report_lines.proofs.put_proc_lines.Goals as goal

pub returns : goal.returns
unfolding proc_lines closing
returns c = search (wrote-three, rules)
