-- The first members of the cycle are done.
use Rattle.columns.specs.Columns.{steps}
use Rattle.targets.specs.Tables.{MembersDone}
use Rattle.targets.proofs.thread_paths.Given as goal

abbrev pub invariant-loop-c : goal.invariant-loop-c
invariant-loop-c l = MembersDone l.masks l.table l.chosen l.c-index l.fn.layout.threads (steps l.choices l.rows) l.targets
