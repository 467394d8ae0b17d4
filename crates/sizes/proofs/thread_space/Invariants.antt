-- The sizes of the first t threads are put down and summed.
use Rattle.sizes.proofs.Spaces.{Summing}
use Rattle.sizes.proofs.thread_space.Given as goal

abbrev pub invariant-loop-t : goal.invariant-loop-t
invariant-loop-t l = Summing l.runs l.sizes l.each l.t l.sum
