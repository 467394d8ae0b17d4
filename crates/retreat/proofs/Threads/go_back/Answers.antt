-- Each move keeps what the way back leads to, and the sum of the positions falls.
use Rattle.std.proofs.Common.{rules}
use Rattle.retreat.proofs.Moves.{going_less, going_on, going_room, going_first, going_done}
use Rattle.retreat.proofs.Threads.go_back.Goals as goal

pub loop-state-init : goal.loop-state-init
loop-state-init c = record { within = search rules; sized = search rules; going = search (going_first, rules) }

pub turn-place-requires : goal.turn-place-requires
turn-place-requires c = search (going_room, c.loop-state-test.ensures, rules)

pub loop-state-smaller : goal.loop-state-smaller
loop-state-smaller c = search (going_less, c.loop-state-test.ensures, rules)

pub loop-state-preserved : goal.loop-state-preserved
loop-state-preserved c = record { within = search rules; sized = search rules; going = search (going_on, c.loop-state-test.ensures, rules) }

pub returns : goal.returns
returns c = search (going_done, rules)
