-- The two pairs with the bytes before them, then the end.
use Rattle.couple_lines.proofs.Lines.{couple-whole}
use borrow.Author.Rules.{rules}
use Rattle.couple_lines.proofs.put_couple.Goals as goal

pub returns : goal.returns
returns c = search (couple-whole, rules)
