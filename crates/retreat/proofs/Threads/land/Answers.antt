-- At its start the thread stays; else it goes before the hold of the lowest lock that it gave up and another holds.
use Rattle.std.proofs.Common.{rules}
use Rattle.retreat.proofs.Landings.{lowest-claim, land_still, land_back}
use Rattle.retreat.proofs.Threads.land.Goals as goal

pub returns-then-j-eq0 : goal.returns-then-j-eq0
returns-then-j-eq0 c = search (land_still, rules)

pub returns : goal.returns
returns c = search (land_back, lowest-claim, rules)
