-- The threads below k have landed, the others stand where they stood.
use Rattle.std.proofs.Common.{◌≡◌, length, drop}
use Rattle.limits.specs.Limits.{max_threads}
use Rattle.retreat.specs.Moves.{Landed}
use Rattle.retreat.proofs.Threads.jump.Given as goal

abbrev pub invariant-loop-k : goal.invariant-loop-k
invariant-loop-k l = record {
  positions-full : max_threads ≡ length l.state.positions;
  wanted-full : max_threads ≡ length l.state.wanted;
  same : drop l.k l.state.positions ≡ drop l.k l.initial.state.positions;
  landed : Landed l.self.rows.now l.self.begins l.self.count l.initial.state.positions l.state.positions l.state.wanted l.k;
}
