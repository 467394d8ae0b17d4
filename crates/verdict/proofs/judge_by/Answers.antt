-- The rules of the plan, then rule 1 and the verdict over its table.
use Rattle.verdict.proofs.Judging.{judged-refused, table-sum, judged-found}
use Rattle.std.proofs.lemmas.Result.{err_from_is_err_and}
use borrow.Author.Rules.{rules}
use Rattle.verdict.proofs.judge_by.Goals as goal

pub returns-in_err-plan : goal.returns-in_err-plan
returns-in_err-plan g c = let p = err_from_is_err_and c.from_residual.result c.from_residual.ensures.1 in rw (p.1, p.2) (search (judged-refused, c.in_err-plan.ensures, rules))

pub judge_lent-requires : goal.judge_lent-requires
judge_lent-requires g c = let a = c.in_ok-plan.ensures in search (table-sum, rules)

pub returns : goal.returns
returns g c = let a = c.in_ok-plan.ensures in search (judged-found, rules)

pub shared_whole_as_front-judge_lent : goal.shared_whole_as_front-judge_lent
shared_whole_as_front-judge_lent g c = let a = c.in_ok-plan.ensures in search rules
