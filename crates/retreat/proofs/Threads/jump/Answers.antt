-- The threads below k have landed, the others stand where they stood.
use Rattle.std.proofs.Common.{rules}
use Rattle.retreat.proofs.Landings.{jump_some, jump_within, jump_keep, landed_none, landed-more}
use Rattle.retreat.proofs.Threads.jump.Goals as goal

pub loop-k-init : goal.loop-k-init
loop-k-init c = record { positions-full = search rules; wanted-full = search rules; same = search rules; landed = search (landed_none, rules) }

pub land-to-requires : goal.land-to-requires
land-to-requires c = search (jump_some, jump_within, rules)

pub loop-k-preserved : goal.loop-k-preserved
loop-k-preserved c = record {
  positions-full = search rules;
  wanted-full = search rules;
  same = search (jump_keep, rules);
  landed = search (landed-more, rules);
}
