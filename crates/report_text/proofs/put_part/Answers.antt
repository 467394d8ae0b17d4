-- Each branch writes the part that stands at its place.
use Rattle.report_text.proofs.Preparing.{judged-schedule, refused-schedule}
use Rattle.report_text.proofs.Parts.{part_open, part_procedure, part_last, part_refused}
use borrow.Author.Rules.{rules}
use Rattle.report_text.proofs.put_part.Goals as goal

pub returns-then-k-eq0 : goal.returns-then-k-eq0
returns-then-k-eq0 c = search (part_open, rules)

pub returns-then-k-found : goal.returns-then-k-found
returns-then-k-found c = search (part_procedure, rules)

pub put_last-requires : goal.put_last-requires
put_last-requires c = search (judged-schedule, rules)

pub returns-else-k-found : goal.returns-else-k-found
returns-else-k-found c = search (part_last, rules)

pub put_last-requires-in-Err : goal.put_last-requires-in-Err
put_last-requires-in-Err c = search (refused-schedule, rules)

pub returns-in-Err : goal.returns-in-Err
returns-in-Err c = search (part_refused, rules)
