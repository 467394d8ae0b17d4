-- The thread and the choice with the bytes before them, then the end.
use borrow.Author.Rules.{rules}
use Rattle.report_lines.proofs.WholeLines.{step-whole}
use Rattle.report_lines.proofs.put_step.Goals as goal

pub returns : goal.returns
returns c = rw (← c.from-word.ensures) (search (step-whole, rules))
