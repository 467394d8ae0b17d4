-- The bytes are written first, and the pair at the place behind them.
use Rattle.laws.proofs.Wrote.{wrote-more}
use borrow.Author.Rules.{rules}
use Rattle.couple_lines.proofs.put_behind.Goals as goal

pub returns-clause-wrote : goal.returns-clause-wrote
returns-clause-wrote c = search (wrote-more, rules)
