-- Each function puts the steps that `walk_with` puts at its statement and leaves the rest of the block; `walk` goes along the block (`Walking`). A call goes one deeper,
-- and every other call of a function goes forward in the table (`Measure`).
use Rattle.std.proofs.Common.{arith, rules}
use Rattle.paths.proofs.Measure.{measure, deeper-falls}
use Rattle.paths.proofs.Walking.{walks-at, statement-at, enter_walks, along_ended, along_closed, along-reached, along-less, along-more, passes_as, other-passes, skip-passes}
use Rattle.paths.proofs.Walking.{call-passes_none, call-passes-found, call_passes, hold-passes-here, hold-passes-found, hold-passes, loop-passes-found, loop-passes}
use Rattle.paths.proofs.Walking.{either-passes-found, either-passes-second, two-falls, either-passes}
use Rattle.paths.proofs.+walks.Goals as goal

pub enter-walk-requires : goal.enter-walk-requires
unfolding measure
enter-walk-requires t c = (omega arith, search rules)

pub enter-returns : goal.enter-returns
enter-returns t c = search (enter_walks, rules)

pub walk-returns-in-Close : goal.walk-returns-in-Close
walk-returns-in-Close t c = search (along_closed, c.in-Some.ensures.lookup, c.in-Close.ensures, rules)

pub walk-walk_statement-requires : goal.walk-walk_statement-requires
unfolding measure
walk-walk_statement-requires t c = let look = c.in-Some.ensures.lookup in (omega arith, search rules)

pub walk-returns-in_err-at : goal.walk-returns-in_err-at
walk-returns-in_err-at t c = search (walks-at, along-reached, c.in-Some.ensures.lookup, c.in_err-at.ensures, c.in_default-form.not-Close, rules)

pub walk-loop-code-smaller : goal.walk-loop-code-smaller
walk-loop-code-smaller t c = search (along-less, c.in-Some.ensures.lookup, c.in_ok-at.ensures, c.in_default-form.not-Close, rules)

pub walk-loop-code-preserved : goal.walk-loop-code-preserved
walk-loop-code-preserved t c = search (along-more, c.in-Some.ensures.lookup, c.in_ok-at.ensures, c.in_default-form.not-Close, rules)

pub walk-returns : goal.walk-returns
walk-returns t c = search (along_ended, c.in_default.ensures.lookup, rules)

pub walk_call-returns-in_default : goal.walk_call-returns-in_default
walk_call-returns-in_default t c = search (call-passes_none, c.in_default.ensures, rules)

pub walk_call-enter-requires : goal.walk_call-enter-requires
walk_call-enter-requires t c = search (deeper-falls, rules)

pub walk_call-returns-in_err-inside : goal.walk_call-returns-in_err-inside
walk_call-returns-in_err-inside t c = search (statement-at, call-passes-found, c.in-Some.ensures, c.start_of.ensures, c.in_err-inside.ensures, rules)

pub walk_call-returns : goal.walk_call-returns
walk_call-returns t c = search (call_passes, c.in-Some.ensures, c.start_of.ensures, c.in_ok-inside.ensures, rules)

pub walk_either-enter-requires : goal.walk_either-enter-requires
unfolding measure
walk_either-enter-requires t c = (omega arith, search rules)

pub walk_either-returns-in_err-one : goal.walk_either-returns-in_err-one
walk_either-returns-in_err-one t c = search (statement-at, either-passes-found, c.in_err-one.ensures, rules)

pub walk_either-enter-requires-2 : goal.walk_either-enter-requires-2
walk_either-enter-requires-2 t c = (search (two-falls, c.in_ok-one.ensures, rules), search rules)

pub walk_either-returns-in_err-two : goal.walk_either-returns-in_err-two
walk_either-returns-in_err-two t c = search (statement-at, either-passes-second, c.in_ok-one.ensures, c.in_err-two.ensures, rules)

pub walk_either-returns : goal.walk_either-returns
walk_either-returns t c = search (either-passes, c.in_ok-one.ensures, c.in_ok-two.ensures, rules)

pub walk_hold-returns-then-gives_pair : goal.walk_hold-returns-then-gives_pair
walk_hold-returns-then-gives_pair t c = search (hold-passes-here, rules)

pub walk_hold-enter-requires : goal.walk_hold-enter-requires
unfolding measure
walk_hold-enter-requires t c = (omega arith, search rules)

pub walk_hold-returns-in_err-inside : goal.walk_hold-returns-in_err-inside
walk_hold-returns-in_err-inside t c = search (statement-at, hold-passes-found, c.in_err-inside.ensures, rules)

pub walk_hold-returns : goal.walk_hold-returns
walk_hold-returns t c = search (hold-passes, c.in_ok-inside.ensures, rules)

pub walk_loop-enter-requires : goal.walk_loop-enter-requires
unfolding measure
walk_loop-enter-requires t c = (omega arith, search rules)

pub walk_loop-returns-in_err-inside : goal.walk_loop-returns-in_err-inside
walk_loop-returns-in_err-inside t c = search (statement-at, loop-passes-found, c.in_err-inside.ensures, rules)

pub walk_loop-returns : goal.walk_loop-returns
walk_loop-returns t c = search (loop-passes, c.in_ok-inside.ensures, rules)

pub walk_statement-walk_hold-requires : goal.walk_statement-walk_hold-requires
unfolding measure
walk_statement-walk_hold-requires t c = (omega arith, search rules)

pub walk_statement-walk_call-requires : goal.walk_statement-walk_call-requires
unfolding measure
walk_statement-walk_call-requires t c = (omega arith, search rules)

pub walk_statement-walk_loop-requires : goal.walk_statement-walk_loop-requires
unfolding measure
walk_statement-walk_loop-requires t c = (omega arith, search rules)

pub walk_statement-walk_either-requires : goal.walk_statement-walk_either-requires
unfolding measure
walk_statement-walk_either-requires t c = (omega arith, search rules)

pub walk_statement-returns-in-Skip : goal.walk_statement-returns-in-Skip
walk_statement-returns-in-Skip t c = search (passes_as, skip-passes, rules)

pub walk_statement-returns-in_default-form : goal.walk_statement-returns-in_default-form
walk_statement-returns-in_default-form t c = other-passes _ _ c.requires.room c.in_default-form.not-Skip c.in_default-form.not-Call c.in_default-form.not-Loop c.in_default-form.not-Either c.in_default.ensures
