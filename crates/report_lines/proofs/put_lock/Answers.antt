-- Plain, then with `s`.
use borrow.Author.Rules.{rules}
use Rattle.laws.proofs.Wrote.{wrote-more}
use Rattle.report_lines.specs.Lines.{held_text, shared_text}
use Rattle.report_lines.proofs.put_lock.Goals as goal

pub returns : goal.returns
unfolding held_text shared_text
returns c = search (wrote-more, rules)
