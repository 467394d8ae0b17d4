-- What is counted and put, and the couples of the pairs that are left, are together all of them (`Onward`).
use Rattle.std.proofs.Common.{rules}
use Rattle.couples.proofs.Loops.{of_more, of_done}
use Rattle.couples.proofs.find_couples.Goals as goal

pub loop-pair-preserved : goal.loop-pair-preserved
loop-pair-preserved c = search (of_more, rules)

pub returns : goal.returns
returns c = search (of_done, rules)
