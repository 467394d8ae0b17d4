-- Of the first p procedures those are found of which all that they reach were found before.
use Rattle.sizes.specs.Sized.{SizesFound, FoundRound}
use Rattle.sizes.proofs.Sizes.find_round.Given as goal

abbrev pub invariant-loop-p : goal.invariant-loop-p
invariant-loop-p l =
    SizesFound l.fn.asked.table.now l.self.each l.self.found × FoundRound l.fn.asked.masks.now l.p l.initial.self.found l.self.found
