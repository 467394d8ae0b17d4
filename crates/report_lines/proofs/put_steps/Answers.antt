-- The lines of the entries so far are written, each within its room.
use borrow.Author.Rules.{rules}
use native.Mathlib.Omega.{arith}
use lib.ListN.{drop_of_length-le}
use Rattle.report_lines.proofs.Widths.{step-short}
use Rattle.report_lines.proofs.Listings.{listing_step, listing_done}
use Rattle.report_lines.proofs.put_steps.Goals as goal

pub loop-entry-preserved : goal.loop-entry-preserved
loop-entry-preserved c =
    let short = step-short _ (c.type_inv.entries c.loop-entry.entry-index).fits in
    search (listing_step, rules)

pub returns-clause-wrote : goal.returns-clause-wrote
returns-clause-wrote c = listing_done _ _ _ _ _ _ _ (drop_of_length-le c.args.entries.now (omega arith)) c.loop-entry.invariant.2
