-- The first line, the stuck threads, the steps, then the end.
use borrow.Author.Rules.{rules}
use Rattle.report_lines.proofs.Writing.{wrote_four}
use Rattle.report_lines.specs.Lines.{deadlock_open, closing, deadlock_lines}
use Rattle.report_lines.proofs.put_deadlock.Goals as goal

pub returns : goal.returns
unfolding deadlock_lines deadlock_open closing
returns c = search (wrote_four, rules)
