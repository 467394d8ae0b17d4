-- The table's rule: each entry is 2 to the power of its place, by one test that is computed over the whole table (`each_entry is_power`).
use mathlib.Core.Path.{◌∙◌}
use borrow.Author.Rules.{rules}
use Rattle.locks.proofs.Powers.{power_at}
use Rattle.locks.proofs.lock_bit.Goals as goal

pub returns : goal.returns
returns c = c.from.ensures ∙ search (power_at, rules)
