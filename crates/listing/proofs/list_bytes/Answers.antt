-- The pairs found are put into the buffer as bytes, and the answer as a number is that of the rules and of the count.
use Rattle.listing.proofs.ListedPairs.{found-fits, found_within, found_carried, bytes-room, bytes-listed, bytes-refused}
use borrow.Author.Rules.{rules}
use Rattle.listing.proofs.list_bytes.Goals as goal

pub overflow_mul-n : goal.overflow_mul-n
overflow_mul-n c = search (found-fits, rules)

pub slice_bounds-put_pairs-end : goal.slice_bounds-put_pairs-end
slice_bounds-put_pairs-end c = search (found_within, rules)

pub slice_bounds-put_pairs-end-in-Ok : goal.slice_bounds-put_pairs-end-in-Ok
slice_bounds-put_pairs-end-in-Ok c = search (found_within, rules)

pub put_pairs-requires : goal.put_pairs-requires
put_pairs-requires c = search (bytes-room, rules)

pub counted_number-number-requires : goal.counted_number-number-requires
counted_number-number-requires c = search (found_carried, rules)

pub returns-in-Ok : goal.returns-in-Ok
returns-in-Ok c = search (bytes-listed, rules)

pub returns-in_default : goal.returns-in_default
returns-in_default c = search (bytes-refused, rules)
