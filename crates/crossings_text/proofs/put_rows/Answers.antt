-- After t turns the lines of the threads below t are written, each row within its room; a turn writes the next row behind them.
use borrow.Author.Rules.{rules}
use Rattle.crossings_text.proofs.Tables.{rows_none, rows_more}
use Rattle.crossings_text.proofs.put_rows.Goals as goal

pub loop-t-init : goal.loop-t-init
loop-t-init c = search (rows_none, rules)

pub loop-t-preserved : goal.loop-t-preserved
loop-t-preserved c = search (rows_more, rules)
