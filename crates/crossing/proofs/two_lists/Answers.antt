-- The rules of the plan, then the pairs in its table.
use Rattle.crossing.proofs.ThreadLists.{text-refused, text_lists}
use Rattle.std.proofs.lemmas.Result.{err_from_is_err_and}
use borrow.Author.Rules.{rules}
use Rattle.crossing.proofs.two_lists.Goals as goal

pub returns-in_err-plan : goal.returns-in_err-plan
returns-in_err-plan c = let p = err_from_is_err_and c.from_residual.result c.from_residual.ensures.1 in rw (p.1, p.2) (search (text-refused, c.in_err-plan.ensures, rules))

pub slice_bounds-table_lists-end : goal.slice_bounds-table_lists-end
slice_bounds-table_lists-end c = let a = c.in_ok-plan.ensures in search rules

pub table_lists-requires : goal.table_lists-requires
table_lists-requires c = let a = c.in_ok-plan.ensures in search rules

pub returns : goal.returns
returns c = let a = c.in_ok-plan.ensures in search (text_lists, rules)
