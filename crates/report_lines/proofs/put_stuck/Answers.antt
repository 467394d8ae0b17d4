-- The pair, the threads, then the end.
use borrow.Author.Rules.{rules}
use Rattle.laws.proofs.Wrote.{wrote-three}
use Rattle.report_lines.specs.Lines.{stuck_line}
use Rattle.report_lines.proofs.put_stuck.Goals as goal

pub returns : goal.returns
unfolding stuck_line
returns c = let members = rw c.from.ensures at c.put_members-j.ensures in search (wrote-three, rules)
