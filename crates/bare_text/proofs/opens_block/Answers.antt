-- The arms are the kinds that do not open a bracket and the rest.
use mathlib.Core.Bool.{not}
use mathlib.Core.Path.{ap}
use Rattle.text.proofs.Matches.{kind-among, kind-rest}
use borrow.Author.Rules.{rules}
use Rattle.bare_text.proofs.opens_block.Goals.{in-Thread, in_default}
use Rattle.bare_text.proofs.opens_block.Goals as goal

pub returns : goal.returns
returns c =
    elim c.match-matches.branch [
      | in-Thread w ↦ let closed = ap not w.matches-is in search (kind-rest, rules)
      | in_default w ↦ let opened = ap not w.matches-is in search (kind-among, rules)
    ]
