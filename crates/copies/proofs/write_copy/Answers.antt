-- Rule 1, then the rules of the plan, then the lines of the forms in its table.
use Rattle.copies.proofs.Copies.{copy-short, copy-refused, copy-small, copy-room, copy_written}
use Rattle.std.proofs.lemmas.Result.{err_from_is_err_and}
use borrow.Author.Rules.{rules}
use Rattle.copies.proofs.write_copy.Goals as goal

pub returns-then-out-lt-MAX_BYTES : goal.returns-then-out-lt-MAX_BYTES
returns-then-out-lt-MAX_BYTES c = search (copy-short, rules)

pub returns-in_err-plan : goal.returns-in_err-plan
returns-in_err-plan c = let p = err_from_is_err_and c.from_residual.result c.from_residual.ensures.1 in rw (p.1, p.2) (search (copy-refused, c.in_err-plan.ensures, rules))

pub slice_bounds-write_forms-end : goal.slice_bounds-write_forms-end
slice_bounds-write_forms-end c = let a = c.in_ok-plan.ensures in search rules

pub write_forms-requires : goal.write_forms-requires
write_forms-requires c = let a = c.in_ok-plan.ensures in search (copy-small, copy-room, rules)

pub returns : goal.returns
returns c = let a = c.in_ok-plan.ensures in search (copy_written, rules)
