-- Each arm writes the part that stands at its place.
use Rattle.report_text.proofs.Parts.{last_closing}
use borrow.Author.Rules.{rules}
use Rattle.report_text.proofs.put_last.Goals as goal

pub returns-in-2 : goal.returns-in-2
returns-in-2 c = search (last_closing, rules)
