-- The line of the form that is sought is the same at every turn.
use Rattle.std.proofs.Common.{◌≡◌, ◌+◌, ◌-◌, ◌≤◌, length}
use Rattle.text.specs.Lines.{line_of}
use Rattle.text.specs.Passing.{Stops}
use Rattle.text.proofs.Reading.{line_for_from}
use Rattle.text.proofs.line_of.Given as goal

abbrev pub invariant-loop-form : goal.invariant-loop-form
invariant-loop-form l = record {
  within : l.here.at ≤ length l.text;
  counted : l.here.line ≤ l.here.at + 1;
  stops : Stops l.text l.here.at;
  sought : line_for_from (l.k - l._form) l.text l.here ≡ line_of l.text l.k;
}
