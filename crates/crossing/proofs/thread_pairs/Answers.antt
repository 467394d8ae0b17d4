-- The pairs of the procedure that the layout names for the thread.
use Rattle.crossing.proofs.ThreadLists.{proc-there, pairs_of-thread}
use borrow.Author.Rules.{rules}
use Rattle.crossing.proofs.thread_pairs.Goals as goal

pub collect_words-requires : goal.collect_words-requires
collect_words-requires c = search (proc-there, rules)

pub returns : goal.returns
returns c = search (pairs_of-thread, rules)
