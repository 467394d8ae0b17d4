-- The sizes of the first t threads are put down and summed.
use Rattle.sizes.proofs.Spaces.{summing_none, sum_fits, summing_more, summing_done}
use borrow.Author.Rules.{rules}
use Rattle.sizes.proofs.thread_space.Goals as goal

pub loop-t-init : goal.loop-t-init
loop-t-init c = search (summing_none, rules)

pub overflow_add-sum : goal.overflow_add-sum
overflow_add-sum c = search (sum_fits, rules)

pub loop-t-preserved : goal.loop-t-preserved
loop-t-preserved c = search (summing_more, rules)

pub returns : goal.returns
returns c = search (summing_done, rules)
