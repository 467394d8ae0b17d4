-- What is written and what is still to be found are together all places, and all threads.
use Rattle.procs.proofs.Finding.{Pass}
use Rattle.procs.proofs.layout_of.Given as goal

abbrev pub invariant-loop-i : goal.invariant-loop-i
invariant-loop-i l = Pass l.table l.i l.starts l.procs l.runs l.threads
