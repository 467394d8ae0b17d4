-- Rule 1, then the verdict over the table.
use Rattle.verdict.proofs.Judging.{lent-short, lent-enough}
use borrow.Author.Rules.{rules}
use Rattle.verdict.proofs.judge_lent.Goals as goal

pub returns-then-entries-sum : goal.returns-then-entries-sum
returns-then-entries-sum c = search (lent-short, rules)

pub returns : goal.returns
returns c = search (lent-enough, rules)
