-- The keyword with the number, and behind it the rest of the line.
use Rattle.laws.proofs.Wrote.{wrote-more}
use borrow.Author.Rules.{rules}
use Rattle.bare_text.proofs.put_number_line.Goals as goal

pub returns : goal.returns
returns c = let number = rw c.from.ensures at c.put_numbered-i.ensures in search (wrote-more, rules)
