-- The table holds the forms of the lines read so far (`Filling`); each line read, with what is passed over behind it, leaves less of the text.
use borrow.Author.Rules.{rules}
use Rattle.std.proofs.lemmas.Result.{err_from_is_err_and}
use Rattle.plan.proofs.Filling.{filling_none, filling_more, filling_less, next-within, filling_refused, filling_done}
use Rattle.plan.proofs.fill.Goals as goal

pub loop-here-init : goal.loop-here-init
loop-here-init c = search (filling_none, rules)

pub returns-in_err-line : goal.returns-in_err-line
returns-in_err-line c =
    let p = err_from_is_err_and c.from_residual.result c.from_residual.ensures.1 in
    rw (p.1, p.2) (filling_refused _ _ _ _ c.loop-here.invariant.3 _ _ c.in_err-line.ensures.0 c.loop-here-test.true)

pub pass_over-here-requires-in-loop-here : goal.pass_over-here-requires-in-loop-here
pass_over-here-requires-in-loop-here c = next-within _ _ _ _ c.loop-here.invariant.3 _ c.in_ok-line.ensures.0

pub loop-here-smaller : goal.loop-here-smaller
loop-here-smaller c = filling_less _ _ _ _ c.loop-here.invariant.3 _ c.in_ok-line.ensures.0 _ c.pass_over-here-in-loop-here.ensures.0

pub loop-here-preserved : goal.loop-here-preserved
loop-here-preserved c =
    let i = c.loop-here.invariant in
    let a = c.pass_over-here-in-loop-here.ensures in
    (i.0, i.1, search rules, filling_more _ _ _ _ i.3 _ c.in_ok-line.ensures.0 _ a.0 _ _ c.in_ok-line.ensures.1 i.0 i.1 i.2 c.loop-here-test.true a.1)

pub returns : goal.returns
returns c = search (filling_done, rules)
