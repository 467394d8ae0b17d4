-- The keyword is written first, and the digits at the place behind it.
use borrow.Author.Rules.{rules}
use Rattle.laws.proofs.Wrote.{wrote-more}
use Rattle.report_lines.proofs.put_numbered.Goals as goal

pub returns : goal.returns
returns c = search (wrote-more, rules)
