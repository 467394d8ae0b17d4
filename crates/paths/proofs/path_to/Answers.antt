-- The walk of the procedure from the first place of its block, with calls one less deep than there are procedures.
use Rattle.std.proofs.Common.{rules}
use Rattle.paths.proofs.PathWritten.{path-written, never-passed}
use Rattle.paths.proofs.path_to.Goals as goal

pub returns : goal.returns
returns c = search (path-written, c.in-Break.ensures, rules)

pub unreachable-requires : goal.unreachable-requires
unreachable-requires c = never-passed c.requires.0 c.requires.1 c.in-Continue.ensures
