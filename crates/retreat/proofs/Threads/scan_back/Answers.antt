-- The scan from the places that are left is that from j on.
use Rattle.std.proofs.Common.{rules}
use Rattle.retreat.proofs.Landings.{scan-here, scan-more, scan-out}
use Rattle.retreat.proofs.Threads.scan_back.Goals as goal

pub returns-then-not-has_claim : goal.returns-then-not-has_claim
returns-then-not-has_claim c = search (scan-here, rules)

pub loop-a-preserved : goal.loop-a-preserved
loop-a-preserved c = search (scan-more, rules)

pub returns : goal.returns
returns c = search (scan-out, rules)
