-- The bytes written so far are the first i of the text; a turn writes the next behind them, and at the end they are all of it.
use Rattle.std.proofs.Common.{◌≡◌, ◌+◌, ◌≤◌, length, take}
use Rattle.laws.specs.Wrote.{Wrote}
use Rattle.report_lines.proofs.put_text.Given as goal

abbrev pub invariant-loop-i : goal.invariant-loop-i
invariant-loop-i l =
    (l.i ≤ length l.text) × (l.at + length l.text ≤ length l.initial.out) × (length l.out ≡ length l.initial.out) × Wrote l.initial.out l.out l.at (l.at + l.i) (take l.i l.text)
