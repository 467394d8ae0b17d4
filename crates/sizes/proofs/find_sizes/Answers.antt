-- After so many rounds the sizes of the procedures of a rank below are found.
use borrow.Author.Rules.{rules}
use Rattle.sizes.proofs.Found.{ranks-none, ranks-more, all_found, sizes-none}
use Rattle.sizes.proofs.find_sizes.Goals as goal

pub loop-init : goal.loop-init
loop-init c = search (sizes-none, ranks-none, rules)

pub loop-preserved : goal.loop-preserved
loop-preserved c = search (ranks-more, rules)

pub returns : goal.returns
returns c = search (all_found, rules)
