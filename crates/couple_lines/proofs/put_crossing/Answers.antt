-- The line where the test holds, and nothing where it does not.
use Rattle.couple_lines.proofs.Lines.{crossing-there, crossing-none}
use borrow.Author.Rules.{rules}
use Rattle.couple_lines.proofs.put_crossing.Goals as goal

pub returns-then-cross : goal.returns-then-cross
returns-then-cross c = search (crossing-there, rules)

pub returns : goal.returns
returns c = search (crossing-none, rules)
