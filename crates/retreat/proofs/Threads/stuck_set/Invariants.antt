-- The set after each round is that of the definition's rounds.
use Rattle.std.proofs.Common.{◌≡◌}
use Rattle.semantics.specs.StuckRounds.{stuck_rounds}
use Rattle.retreat.proofs.Threads.stuck_set.Given as goal

abbrev pub invariant-loop-round : goal.invariant-loop-round
invariant-loop-round l = l.m ≡ stuck_rounds l._round l.self.count l.state.wanted l.state.masks
