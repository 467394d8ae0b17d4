-- The path is found and written into its row, which is lent as a part of the table.
use Rattle.targets.proofs.Threads.{target-asked, row_room, row_written}
use borrow.Author.Rules.{rules}
use Rattle.targets.proofs.Plan.put_path.Goals as goal

pub path_to-requires : goal.path_to-requires
path_to-requires c = (search (target-asked, rules), search (row_room, rules))

pub returns : goal.returns
returns c = search (row_written, rules)
