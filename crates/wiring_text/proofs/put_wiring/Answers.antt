-- After the heading and n turns the rows of the locks below n are written, each within its room; a turn writes the next row behind them.
use borrow.Author.Rules.{rules}
use Rattle.wiring_text.specs.Wiring.{wiring_head}
use Rattle.wiring_text.proofs.Rows.{rows_none, rows_more, table-whole}
use Rattle.wiring_text.proofs.put_wiring.Goals as goal

pub loop-lock-init : goal.loop-lock-init
loop-lock-init c = search (rows_none, rules)

pub loop-lock-preserved : goal.loop-lock-preserved
loop-lock-preserved c = search (rows_more, rules)

pub returns : goal.returns
unfolding wiring_head
returns c = search (table-whole, rules)
