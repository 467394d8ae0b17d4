-- The number with the bytes before it, and `s` for a share.
use borrow.Author.Rules.{rules}
use Rattle.report_lines.proofs.WholeLines.{wanted-share, wanted-hold}
use Rattle.report_lines.proofs.put_wanted.Goals as goal

pub returns-then-word-eq0 : goal.returns-then-word-eq0
returns-then-word-eq0 c = search (wanted-share, rules)

pub returns : goal.returns
returns c = search (wanted-hold, rules)
