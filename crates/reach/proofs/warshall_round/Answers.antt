-- The masks before the index are joined as the definition joins them, and the others are as they were.
use borrow.Author.Rules.{rules}
use Rattle.std.proofs.lemmas.List.{take_all, drop_all}
use Rattle.semantics.specs.CallMasks.{warshall_round}
use Rattle.reach.proofs.Rounds.{joins-more}
use Rattle.reach.proofs.warshall_round.Goals as goal

pub loop-mask-preserved : goal.loop-mask-preserved
loop-mask-preserved c = search (joins-more, rules)

pub returns : goal.returns
unfolding warshall_round
returns c = search (take_all, drop_all, rules)
