-- What is counted and put, and the couples with the pairs that are left, are together all of them (`Onward`).
use Rattle.std.proofs.Common.{rules}
use Rattle.couples.proofs.Loops.{with_crossing, with_other, with_done}
use Rattle.couples.proofs.couples_with.Goals as goal
use Rattle.couples.proofs.couples_with.Goals.{then-cross, else-cross}

pub loop-pair-preserved : goal.loop-pair-preserved
loop-pair-preserved c =
    elim c.if-cross.branch [
      | then-cross w ↦ rw (w.words-is, w.bytes-is, w.count-is) (search (with_crossing, rules))
      | else-cross w ↦ rw (w.words-is, w.bytes-is, w.count-is) (search (with_other, rules))
    ]

pub returns-clause-couples_put : goal.returns-clause-couples_put
returns-clause-couples_put c = search (with_done, rules)
