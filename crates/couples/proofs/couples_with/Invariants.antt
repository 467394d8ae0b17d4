-- What is counted and put, and the couples with the pairs that are left, are together all of them (`Onward`).
use Rattle.std.proofs.Common.{◌≡◌, ◌+◌, ◌≤◌, length, drop}
use Rattle.couples.specs.Couples.{couples_with}
use Rattle.couples.specs.Records.{pairs_from, pair_in}
use Rattle.couples.proofs.Loops.{Onward}
use Rattle.couples.proofs.couples_with.Given as goal

abbrev pub invariant-loop-pair : goal.invariant-loop-pair
invariant-loop-pair l =
    (l.pair-index ≤ length l.pairs) × (l.count ≤ l.n + l.pair-index) × (length l.words ≡ length l.initial.words) × (length l.bytes ≡ length l.initial.bytes)
    × Onward (couples_with (pair_in l.v) (pairs_from l.others)) l.n l.initial.words l.initial.bytes (couples_with (pair_in l.v) (drop l.pair-index (pairs_from l.others))) l.count l.words l.bytes
