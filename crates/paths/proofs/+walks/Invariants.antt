-- Each function puts the steps that `walk_with` puts at its statement and leaves the rest of the block; `walk` goes along the block (`Walking`). A call goes one deeper,
-- and every other call of a function goes forward in the table (`Measure`).
use Rattle.std.proofs.Common.{◌-◌, length}
use Rattle.columns.specs.Columns.{pair_number, steps}
use Rattle.paths.proofs.Measure.{measure}
use Rattle.paths.proofs.Walking.{Along}
use Rattle.paths.proofs.+walks.Given as goal

abbrev pub decreases-enter : goal.decreases-enter
decreases-enter l = measure l.way.depth (length l.task.now.table.now) l.from.next 1

abbrev pub decreases-walk : goal.decreases-walk
decreases-walk l = measure l.way.depth (length l.task.now.table.now) l.from.next 0

abbrev pub decreases-walk_call : goal.decreases-walk_call
decreases-walk_call l = measure l.way.depth (length l.task.now.table.now) l.from.next 2

abbrev pub decreases-walk_either : goal.decreases-walk_either
decreases-walk_either l = measure l.way.depth (length l.task.now.table.now) l.from.next 2

abbrev pub decreases-walk_hold : goal.decreases-walk_hold
decreases-walk_hold l = measure l.way.depth (length l.task.now.table.now) l.from.next 2

abbrev pub decreases-walk_loop : goal.decreases-walk_loop
decreases-walk_loop l = measure l.way.depth (length l.task.now.table.now) l.from.next 2

abbrev pub decreases-walk_statement : goal.decreases-walk_statement
decreases-walk_statement l = measure l.way.depth (length l.task.now.table.now) l.from.next 3

abbrev pub invariant-walk-loop-code : goal.invariant-walk-loop-code
invariant-walk-loop-code l =
    Along l.task.table.now (pair_number l.task.aim l.task.code) l.way l.fn.from.next (steps l.initial.choices l.initial.masks) l.fn.from.count l.at (steps l.choices l.masks)

abbrev pub decreases-walk-loop-code : goal.decreases-walk-loop-code
decreases-walk-loop-code l = length l.task.table.now - l.at.next
