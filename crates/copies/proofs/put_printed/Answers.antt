-- The copy is printed where it was written; a refusal wrote nothing, and its line is printed.
use Rattle.copies.proofs.Copies.{printed_copy_lem, printed-refusal}
use borrow.Author.Rules.{rules}
use Rattle.copies.proofs.put_printed.Goals as goal

pub returns-in-Ok : goal.returns-in-Ok
returns-in-Ok c = search (printed_copy_lem, rules)

pub returns-in-Err : goal.returns-in-Err
returns-in-Err c = search (printed-refusal, rules)
