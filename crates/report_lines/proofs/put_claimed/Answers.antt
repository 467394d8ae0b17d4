-- Where the claim is there, its text is what is written, and else nothing.
use borrow.Author.Rules.{rules}
use Rattle.report_lines.proofs.WholeLines.{claimed_room, mark-room, claimed-written, claimed-not}
use Rattle.report_lines.proofs.put_claimed.Goals as goal

pub returns-then-not-has_claim : goal.returns-then-not-has_claim
returns-then-not-has_claim c = search (claimed-not, rules)

pub put_numbered-i-requires : goal.put_numbered-i-requires
put_numbered-i-requires c = search (claimed_room, rules)

pub put_text-requires : goal.put_text-requires
put_text-requires c = search (mark-room, rules)

pub returns : goal.returns
returns c = search (claimed-written, rules)
