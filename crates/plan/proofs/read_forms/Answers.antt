-- Rule 2, then rule 3 (`Filling`).
use Rattle.plan.proofs.Filling.{lines_long, lines-read}
use borrow.Author.Rules.{rules}
use Rattle.plan.proofs.read_forms.Goals as goal

pub returns-then-text-gt-MAX_BYTES : goal.returns-then-text-gt-MAX_BYTES
returns-then-text-gt-MAX_BYTES c = search (lines_long, rules)

pub returns : goal.returns
returns c = search (lines-read, rules)
