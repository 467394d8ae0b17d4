-- The two numbers with the pairs before them, then the end.
use borrow.Author.Rules.{rules}
use Rattle.laws.proofs.Wrote.{wrote-three}
use Rattle.report_lines.specs.Lines.{refused_line}
use Rattle.report_lines.proofs.put_refused.Goals as goal

pub returns : goal.returns
unfolding refused_line
returns c = let rule = rw c.from.ensures at c.put_numbered-i.ensures in search (wrote-three, rules)
