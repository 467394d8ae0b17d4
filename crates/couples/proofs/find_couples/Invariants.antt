-- What is counted and put, and the couples of the pairs that are left, are together all of them (`Onward`).
use Rattle.std.proofs.Common.{◌≡◌, ◌*◌, ◌≤◌, length, drop}
use Rattle.limits.specs.Limits.{max_pairs}
use Rattle.couples.specs.Couples.{couples_of}
use Rattle.couples.specs.Records.{pairs_from}
use Rattle.couples.proofs.Loops.{Onward}
use Rattle.couples.proofs.find_couples.Given as goal

abbrev pub invariant-loop-pair : goal.invariant-loop-pair
invariant-loop-pair l =
    (l.pair-index ≤ length l.pairs) × (l.count ≤ max_pairs * l.pair-index) × (length l.words ≡ length l.initial.words) × (length l.bytes ≡ length l.initial.bytes)
    × Onward (couples_of (pairs_from l.one) (pairs_from l.two)) 0 l.initial.words l.initial.bytes (couples_of (drop l.pair-index (pairs_from l.one)) (pairs_from l.two)) l.count l.words l.bytes
