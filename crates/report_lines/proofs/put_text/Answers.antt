-- The bytes written so far are the first i of the text; a turn writes the next behind them, and at the end they are all of it.
use borrow.Author.Rules.{rules}
use lib.ListN.{length-set}
use Rattle.laws.proofs.Wrote.{copy-none, copy_more, copy_done}
use Rattle.report_lines.proofs.put_text.Goals as goal

pub loop-i-init : goal.loop-i-init
loop-i-init c = search (copy-none, rules)

pub loop-i-preserved : goal.loop-i-preserved
loop-i-preserved c = search (copy_more, length-set, rules)

pub returns : goal.returns
returns c = search (copy_done, rules)
