-- Rule 14 by the number of threads; else the pairs of the two.
use Rattle.crossing.proofs.ThreadLists.{first-there, second-there, lists_refused, lists_found}
use borrow.Author.Rules.{rules}
use Rattle.crossing.proofs.table_lists.Goals as goal

pub returns-then-are_no_two : goal.returns-then-are_no_two
returns-then-are_no_two c = search (lists_refused, rules)

pub thread_pairs-requires : goal.thread_pairs-requires
thread_pairs-requires c = search (first-there, rules)

pub thread_pairs-requires-2 : goal.thread_pairs-requires-2
thread_pairs-requires-2 c = search (second-there, rules)

pub returns : goal.returns
returns c = search (lists_found, rules)
