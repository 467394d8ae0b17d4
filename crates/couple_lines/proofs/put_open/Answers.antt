-- The line end stands behind the head.
use Rattle.laws.proofs.Wrote.{wrote-more}
use Rattle.couple_lines.specs.CoupleLines.{cross_open}
use borrow.Author.Rules.{rules}
use Rattle.couple_lines.proofs.put_open.Goals as goal

pub returns : goal.returns
unfolding cross_open
returns c = search (wrote-more, rules)
