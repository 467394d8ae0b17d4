-- After as many rounds as there are procedures the masks have what is reached.
use borrow.Author.Rules.{rules}
use Rattle.reach.proofs.Rounds.{rounds-done}
use Rattle.reach.proofs.reach_masks.Goals as goal

pub returns : goal.returns
returns c = search (rounds-done, rules)
