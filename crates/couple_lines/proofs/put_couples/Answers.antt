-- After k turns the lines of the couples with the first k pairs of the list are written, each within its room; a turn writes the next behind them.
use borrow.Author.Rules.{rules}
use Rattle.couple_lines.proofs.Parts.{part_none, part-more, part-done}
use Rattle.couple_lines.proofs.put_couples.Goals as goal

pub loop-k-init : goal.loop-k-init
loop-k-init c = search (part_none, rules)

pub loop-k-preserved : goal.loop-k-preserved
loop-k-preserved c = search (part-more, rules)

pub returns : goal.returns
returns c = search (part-done, rules)
