-- The set after each round is that of the definition's rounds.
use Rattle.std.proofs.Common.{rules}
use Rattle.retreat.proofs.StuckRounds.{rounds-first, rounds-more}
use Rattle.retreat.proofs.Threads.stuck_set.Goals as goal

pub loop-round-init : goal.loop-round-init
loop-round-init c = search (rounds-first, rules)

pub loop-round-preserved : goal.loop-round-preserved
loop-round-preserved c = search (rounds-more, rules)
