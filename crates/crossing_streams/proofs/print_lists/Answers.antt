-- The pairs of both threads lie within the lists that were lent, and are few.
use Rattle.crossing.proofs.ThreadCouples.{first_fits, second_fits, first-within, second-within, first-few, second-few}
use Rattle.crossing_streams.proofs.Printing.{lists_printed, refusal-printed}
use borrow.Author.Rules.{rules}
use Rattle.crossing_streams.proofs.print_lists.Goals as goal

pub overflow_mul-one : goal.overflow_mul-one
overflow_mul-one c = search (first_fits, rules)

pub slice_bounds-one-end : goal.slice_bounds-one-end
slice_bounds-one-end c = search (first-within, rules)

pub slice_bounds-one-end-in-Ok : goal.slice_bounds-one-end-in-Ok
slice_bounds-one-end-in-Ok c = search (first-within, rules)

pub overflow_mul-two : goal.overflow_mul-two
overflow_mul-two c = search (second_fits, rules)

pub slice_bounds-two-end : goal.slice_bounds-two-end
slice_bounds-two-end c = search (second-within, rules)

pub slice_bounds-two-end-in-Ok : goal.slice_bounds-two-end-in-Ok
slice_bounds-two-end-in-Ok c = search (second-within, rules)

pub print_couple_parts-requires : goal.print_couple_parts-requires
print_couple_parts-requires c = search (first-few, second-few, rules)

pub returns-in-Ok : goal.returns-in-Ok
returns-in-Ok c = search (lists_printed, rules)

pub returns-in-Err : goal.returns-in-Err
returns-in-Err c = search (refusal-printed, rules)
