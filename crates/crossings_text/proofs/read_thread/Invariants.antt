-- What is left of the argument decides whether it is a number and which: each digit is taken into the number so far.
use Prim.Native.Nat.{◌≤◌}
use mathlib.Core.List.{foldl}
use mathlib.Core.Path.{◌≡◌}
use lib.ListN.{drop}
use Rattle.crossings_text.specs.Request.{most_asked, all_digits, next_digit, asked_number}
use Rattle.crossings_text.proofs.read_thread.Given as goal

abbrev pub invariant-loop-b : goal.invariant-loop-b
invariant-loop-b l =
    (l.n ≤ most_asked) × (all_digits (drop l.b-index l.argument) ≡ all_digits l.argument) × (foldl next_digit l.n (drop l.b-index l.argument) ≡ asked_number l.argument)
