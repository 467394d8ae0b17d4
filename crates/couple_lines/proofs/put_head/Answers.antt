-- The three numbers, each with the bytes before it.
use Rattle.laws.proofs.Wrote.{wrote-three}
use Rattle.couple_lines.specs.CoupleLines.{cross_head}
use borrow.Author.Rules.{rules}
use Rattle.couple_lines.proofs.put_head.Goals as goal

pub returns-clause-wrote : goal.returns-clause-wrote
unfolding cross_head
returns-clause-wrote c = search (wrote-three, rules)
