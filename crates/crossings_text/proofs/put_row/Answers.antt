-- The lines with the threads below u are written, each within its room; a turn writes the next behind them.
use native.Mathlib.Omega.{arith}
use borrow.Author.Rules.{rules}
use Rattle.crossings_text.proofs.Tables.{entry-number, row-none, row_more}
use Rattle.crossings_text.proofs.put_row.Goals as goal

pub loop-u-init : goal.loop-u-init
loop-u-init c = search (row-none, rules)

pub loop-u-preserved : goal.loop-u-preserved
loop-u-preserved c =
    let number = entry-number c.args.text.now c.args.n c.args.t c.loop-u.u c.count_crossings-number.result c.requires.0 (omega arith) (omega arith) c.count_crossings-number.ensures in
    (search rules, search rules, row_more _ _ _ _ _ _ _ c.args.t c.loop-u.u _ (omega arith) number c.loop-u.invariant.2 c.put_cross-i.ensures.wrote)
