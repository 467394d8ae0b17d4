-- The arms are the closing form, the forms of loops and eithers, and the rest.
use Rattle.bare_text.proofs.Retained.{retained_closing, retained_left_out, retained_other}
use borrow.Author.Rules.{rules}
use Rattle.bare_text.proofs.is_retained.Goals as goal

pub returns-in-Close : goal.returns-in-Close
returns-in-Close c = search (retained_closing, retained_left_out, retained_other, rules)

pub returns-in-Loop : goal.returns-in-Loop
returns-in-Loop c = search (retained_closing, retained_left_out, retained_other, rules)

pub returns-in_default : goal.returns-in_default
returns-in_default c = search (retained_closing, retained_left_out, retained_other, rules)
