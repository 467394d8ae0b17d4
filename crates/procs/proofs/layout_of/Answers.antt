-- What is written and what is still to be found are together all places, and all threads.
use borrow.Author.Rules.{rules}
use Rattle.procs.proofs.Finding.{pass_none, place-room, thread-room, pass_proc, pass-thread, pass-other, pass-laid}
use Rattle.procs.proofs.layout_of.Goals.{in-Proc, in-Thread, in_default}
use Rattle.procs.proofs.layout_of.Goals as goal

pub loop-i-init : goal.loop-i-init
loop-i-init c = search (pass_none, rules)

pub bounds-starts-procs : goal.bounds-starts-procs
bounds-starts-procs c = search (place-room, rules)

pub bounds-runs-threads : goal.bounds-runs-threads
bounds-runs-threads c = search (thread-room, rules)

pub loop-i-preserved : goal.loop-i-preserved
loop-i-preserved c = elim c.match-form_at.branch [
  | in-Proc w ↦ rw (w.starts-is, w.procs-is, w.runs-is, w.threads-is) (search (pass_proc, rules))
  | in-Thread w ↦ rw (w.starts-is, w.procs-is, w.runs-is, w.threads-is) (search (pass-thread, rules))
  | in_default w ↦ rw (w.starts-is, w.procs-is, w.runs-is, w.threads-is) (search (pass-other, w.in_default.not-Proc, w.in_default.not-Thread, rules))
]

pub returns : goal.returns
returns c = search (pass-laid, rules)
