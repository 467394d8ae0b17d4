-- The words of the first i pairs stand at the start.
use Rattle.std.proofs.Common.{◌≡◌, ◌*◌, length, take}
use Rattle.laws.specs.Wrote.{Wrote}
use Rattle.semantics.specs.Pairs.{words_of}
use Rattle.columns.specs.Columns.{pair_numbers}
use Rattle.columns.proofs.put_words.Given as goal

abbrev pub invariant-loop-i : goal.invariant-loop-i
invariant-loop-i l = (length l.out ≡ length l.initial.out) × Wrote l.initial.out l.out 0 (3 * l.i) (words_of (take l.i (pair_numbers l.masks l.codes)))
