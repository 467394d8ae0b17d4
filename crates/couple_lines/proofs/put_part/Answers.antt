-- Each branch writes the part that stands at its place.
use Rattle.couple_lines.proofs.Places.{place_open, place-pair, place-closing, place-past}
use borrow.Author.Rules.{rules}
use Rattle.couple_lines.proofs.put_part.Goals as goal

pub returns-then-k-eq0 : goal.returns-then-k-eq0
returns-then-k-eq0 c = search (place_open, rules)

pub returns-then-k-one : goal.returns-then-k-one
returns-then-k-one c = search (place-pair, rules)

pub returns-then-k-one-2 : goal.returns-then-k-one-2
returns-then-k-one-2 c = search (place-closing, rules)

pub returns : goal.returns
returns c = search (place-past, rules)
