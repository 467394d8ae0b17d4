-- The entries before p are what the first p procedures call.
use borrow.Author.Rules.{rules}
use Rattle.laws.proofs.Writes.{map_made}
use Rattle.reach.proofs.Rounds.{calls-all}
use Rattle.reach.proofs.call_masks.Goals as goal

pub loop-p-preserved : goal.loop-p-preserved
loop-p-preserved c = search (map_made, rules)

pub returns : goal.returns
returns c = search (calls-all, rules)
