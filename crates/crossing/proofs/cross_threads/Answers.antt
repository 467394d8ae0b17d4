-- The couples of the two lists are those of the threads.
use Rattle.crossing.proofs.ThreadCouples.{first_fits, second_fits, first-within, second-within, first-few, second-few, couples-counted, couples-refused}
use Rattle.std.proofs.lemmas.Result.{err_from_is_err_and}
use borrow.Author.Rules.{rules}
use Rattle.crossing.proofs.cross_threads.Goals as goal

pub returns-in_err-lists : goal.returns-in_err-lists
returns-in_err-lists c = let p = err_from_is_err_and c.from_residual.result c.from_residual.ensures.1 in rw (p.1, p.2) (search (couples-refused, c.in_err-lists.was, rules))

pub overflow_mul-one : goal.overflow_mul-one
overflow_mul-one c = search (first_fits, rules)

pub slice_bounds-one-end : goal.slice_bounds-one-end
slice_bounds-one-end c = search (first-within, rules)

pub slice_bounds-pairs-end : goal.slice_bounds-pairs-end
slice_bounds-pairs-end c = search (first-within, rules)

pub overflow_mul-two : goal.overflow_mul-two
overflow_mul-two c = search (second_fits, rules)

pub slice_bounds-two-end : goal.slice_bounds-two-end
slice_bounds-two-end c = search (second-within, rules)

pub slice_bounds-others-end : goal.slice_bounds-others-end
slice_bounds-others-end c = search (second-within, rules)

pub find_couples-requires : goal.find_couples-requires
find_couples-requires c = search (first-few, second-few, rules)

pub returns : goal.returns
returns c = search (couples-counted, c.in_ok-lists.was, rules)
