-- The members that are not left are written.
use borrow.Author.Rules.{rules}
use Rattle.report_lines.specs.Lines.{behind_blank}
use Rattle.report_lines.proofs.Listings.{listing_room, listing_more, listing_done}
use Rattle.report_lines.proofs.put_members.Goals as goal

pub put_numbered-i-requires : goal.put_numbered-i-requires
put_numbered-i-requires c = let next = c.in-Some.ensures.steps in search (listing_room behind_blank, rules)

pub loop-k-preserved : goal.loop-k-preserved
loop-k-preserved c = let next = c.in-Some.ensures.steps in search (listing_more, rules)

pub returns : goal.returns
returns c = let none = c.in-None.ensures.steps in search (listing_done, rules)
