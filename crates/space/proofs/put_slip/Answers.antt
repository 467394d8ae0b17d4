-- The lines where the rules are kept, and else that of the refusal.
use Rattle.space.proofs.Lines.{space-few, space-full, slip-whole, slip-refused}
use borrow.Author.Rules.{rules}
use Rattle.space.proofs.put_slip.Goals as goal

pub put_space-requires : goal.put_space-requires
put_space-requires c = let a = c.in-Ok.ensures in search (space-few, space-full, rules)

pub returns-in-Ok : goal.returns-in-Ok
returns-in-Ok c = let a = c.in-Ok.ensures in search (slip-whole, rules)

pub returns-in-Err : goal.returns-in-Err
returns-in-Err c = search (slip-refused, c.in-Err.ensures, rules)
