-- Steps of passing over, one after another, lead to a place that is read alike.
use Rattle.std.proofs.Common.{◌+◌, ◌-◌, ◌≤◌, length}
use Rattle.text.specs.Passing.{ReadAlike}
use Rattle.text.proofs.pass_over.Given as goal

abbrev pub invariant-loop-next : goal.invariant-loop-next
invariant-loop-next l = record { counted : l.here.line ≤ l.here.at + 1; alike : ReadAlike l.text l.initial.here l.here }

abbrev pub decreases-loop-next : goal.decreases-loop-next
decreases-loop-next l = length l.text - l.here.at
