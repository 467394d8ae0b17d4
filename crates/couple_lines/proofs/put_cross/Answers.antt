-- The closing bracket stands behind the head.
use Rattle.laws.proofs.Wrote.{wrote-more}
use Rattle.report_lines.specs.Lines.{closing}
use Rattle.couple_lines.specs.CoupleLines.{cross_line}
use borrow.Author.Rules.{rules}
use Rattle.couple_lines.proofs.put_cross.Goals as goal

pub returns : goal.returns
unfolding cross_line closing
returns c = search (wrote-more, rules)
