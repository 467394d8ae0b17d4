-- The two places are those of the lines that the definition names.
use borrow.Author.Rules.{rules}
use Rattle.parts.proofs.Turns.{part_returned}
use Rattle.parts.proofs.proc_part.Goals as goal

pub returns : goal.returns
returns c = search (part_returned, rules)
