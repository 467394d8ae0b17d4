-- A mask of 64 digits begins with its lowest member, and the others are the members of the mask without it.
use borrow.Author.Rules.{rules}
use mathlib.Core.Path.{ap}
use lib.ListN.{length}
use Rattle.report_lines.proofs.Listings.{none-first, lowest-first}
use Rattle.report_lines.proofs.MembersIterator.next.Goals as goal

pub returns-then-self-eq0-clause-steps : goal.returns-then-self-eq0-clause-steps
returns-then-self-eq0-clause-steps c = search (none-first, rules)

pub returns-clause-steps : goal.returns-clause-steps
returns-clause-steps c = search (lowest-first, rules)

pub returns-clause-goes : goal.returns-clause-goes
returns-clause-goes c = let fewer = ap length (lowest-first 64 c.args.self.now.0 c.if-self-eq0.false (search rules)) in search rules
