-- The claim is fresh, and the pair is the same.
use Rattle.std.proofs.Common.{rules}
use Rattle.paths.proofs.Locks.{gives-tested}
use Rattle.paths.proofs.gives_pair.Goals as goal

pub returns-then-fresh_in : goal.returns-then-fresh_in
returns-then-fresh_in c = search (gives-tested, rules)
