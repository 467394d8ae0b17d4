-- After so many rounds the sizes of the procedures of a rank below are found.
use Rattle.sizes.specs.Sized.{SizesFound}
use Rattle.sizes.proofs.Found.{RanksFound}
use Rattle.sizes.proofs.find_sizes.Given as goal

abbrev pub invariant-loop : goal.invariant-loop
invariant-loop l =
    SizesFound l.asked.table.now l.sizes.each l.sizes.found × RanksFound l.asked.table.now l.asked.layout.now l.asked.masks.now l.counter l.sizes.found
