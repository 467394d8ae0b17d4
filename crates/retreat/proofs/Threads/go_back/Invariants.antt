-- Each move keeps what the way back leads to, and the sum of the positions falls.
use Rattle.std.proofs.Common.{◌≡◌, ◌≤◌, length, drop}
use Rattle.limits.specs.Limits.{max_threads}
use Rattle.retreat.specs.Moves.{steps_left}
use Rattle.retreat.proofs.Moves.{Going}
use Rattle.retreat.proofs.Threads.go_back.Given as goal

abbrev pub invariant-loop-state : goal.invariant-loop-state
invariant-loop-state l = record {
  within : l.place ≤ length l.entries;
  sized : max_threads ≡ length l.state.positions;
  going : Going l.self.choices.now l.self.rows.now l.self.begins l.self.count l.initial.state l.state (drop l.place l.entries);
}

abbrev pub decreases-loop-state : goal.decreases-loop-state
decreases-loop-state l = steps_left l.state.positions l.self.count
