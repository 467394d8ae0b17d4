-- An accepted text leaves the table of its plan, with the verdict on it; of a refused one the answer is the refusal.
use Rattle.report_text.proofs.Preparing.{entries-enough, plan-prepared, refused-prepared}
use Rattle.std.proofs.lemmas.Result.{err_from_is_err_and}
use borrow.Author.Rules.{rules}
use Rattle.report_text.proofs.judge_text.Goals as goal

pub returns-in_err-plan : goal.returns-in_err-plan
returns-in_err-plan c = let p = err_from_is_err_and c.from_residual.result c.from_residual.ensures.1 in rw (p.1, p.2) (search (refused-prepared, c.in_err-plan.ensures, rules))

pub slice_bounds-judge_table-end : goal.slice_bounds-judge_table-end
slice_bounds-judge_table-end c = let a = c.in_ok-plan.ensures in search rules

pub judge_table-verdict-requires : goal.judge_table-verdict-requires
judge_table-verdict-requires c = let a = c.in_ok-plan.ensures in search (entries-enough, rules)

pub returns : goal.returns
returns c = let a = c.in_ok-plan.ensures in search (plan-prepared, rules)
