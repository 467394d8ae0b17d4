-- After t turns the lines of the threads below t are written, each within its room; a turn writes the next line behind them.
use Rattle.space.proofs.Lines.{lines_none, lines_more}
use borrow.Author.Rules.{rules}
use Rattle.space.proofs.put_sizes.Goals as goal

pub loop-t-init : goal.loop-t-init
loop-t-init c = search (lines_none, rules)

pub loop-t-preserved : goal.loop-t-preserved
loop-t-preserved c = search (lines_more, rules)
