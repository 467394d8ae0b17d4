-- The lines of the pairs that are not left are written, and there is a room for each that is left.
use borrow.Author.Rules.{rules}
use native.Mathlib.Omega.{arith}
use mathlib.Core.Path.{ap}
use lib.ListN.{length}
use Rattle.std.proofs.lemmas.Slice.Zip.{Zip-more, either_empty_from_Zip}
use Rattle.report_lines.proofs.Widths.{pair-short}
use Rattle.report_lines.proofs.WholeLines.{pairs_next, pairs-end}
use Rattle.report_lines.proofs.Listings.{listing_more, listing_done}
use Rattle.report_lines.proofs.put_pairs.Goals as goal

pub loop-mask-preserved : goal.loop-mask-preserved
loop-mask-preserved c =
    let next = Zip-more c.loop-mask.mask-iterator c.next.new.self c.next.result (c.in-Some.mask, c.in-Some.code) c.in-Some.is c.next.ensures.steps in
    let pair = pairs_next _ _ _ _ _ _ next.0 next.1 in
    (search rules, omega (arith, ap length next.0, pair-short), listing_more _ _ _ _ _ _ _ _ _ pair c.loop-mask.invariant.2 _ _ c.put_pair-i.ensures)

pub returns-clause-wrote : goal.returns-clause-wrote
returns-clause-wrote c =
    let none = pairs-end _ _ (either_empty_from_Zip c.loop-mask.mask-iterator c.next.new.self c.next.result c.in-None.is c.next.ensures.steps) in
    search (listing_done, rules)
