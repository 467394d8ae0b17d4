-- At position 0 the mask is 0, and at another it is the mask of the step before.
use Rattle.std.proofs.Common.{rules}
use Rattle.retreat.proofs.HeldLocks.{mask_first, mask_next}
use Rattle.retreat.proofs.Threads.mask_at.Goals as goal

pub returns-then-j-eq0 : goal.returns-then-j-eq0
returns-then-j-eq0 c = search (mask_first, rules)

pub returns : goal.returns
returns c = search (mask_next, rules)
