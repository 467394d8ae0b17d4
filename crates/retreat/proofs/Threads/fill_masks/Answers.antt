-- Each turn writes the mask of one thread more.
use Rattle.std.proofs.Common.{rules}
use Rattle.retreat.proofs.HeldLocks.{within-at, holding-none, holding-more}
use Rattle.retreat.proofs.Threads.fill_masks.Goals as goal

pub loop-t-init : goal.loop-t-init
loop-t-init c = search (holding-none, rules)

pub mask_at-requires : goal.mask_at-requires
mask_at-requires c = search (within-at, rules)

pub loop-t-preserved : goal.loop-t-preserved
loop-t-preserved c = search (holding-more, rules)
