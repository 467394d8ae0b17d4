-- The keyword, then the digits behind it: just eight, since the number has no more.
use borrow.Author.Rules.{rules}
use Rattle.wiring_text.proofs.Rows.{hex_room, hex_whole, hex_end}
use Rattle.wiring_text.proofs.put_hex.Goals as goal

pub put_text-requires : goal.put_text-requires
put_text-requires c = search (hex_room, rules)

pub returns : goal.returns
returns c = search (hex_whole, hex_end, rules)
