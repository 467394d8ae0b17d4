-- Each turn fills the list of one thread more.
use Rattle.lists.proofs.Filling.{filling_none, thread-there, proc-there, list-fits, masks-room, codes_room, count-there, columns_more, filling_done}
use borrow.Author.Rules.{rules}
use Rattle.lists.proofs.thread_lists.Goals as goal

pub loop-t-init : goal.loop-t-init
loop-t-init c = search (filling_none, rules)

pub bounds-layout-t : goal.bounds-layout-t
bounds-layout-t c = search (thread-there, rules)

pub overflow_mul-t : goal.overflow_mul-t
overflow_mul-t c = search (list-fits, rules)

pub list_from-requires : goal.list_from-requires
list_from-requires c = search (proc-there, masks-room, codes_room, rules)

pub bounds-counts-t : goal.bounds-counts-t
bounds-counts-t c = search (count-there, rules)

pub loop-t-preserved : goal.loop-t-preserved
loop-t-preserved c = search (columns_more, rules)

pub returns : goal.returns
returns c = search (filling_done, rules)
