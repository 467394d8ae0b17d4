-- The lock, its bit and the bit's hexadecimal digits, each with the bytes before it, then the end. A machine number has at most 20 digits.
use borrow.Author.Rules.{rules}
use Rattle.wiring_text.proofs.Rows.{row-whole}
use Rattle.wiring_text.proofs.put_row.Goals as goal

pub returns-clause-wrote : goal.returns-clause-wrote
returns-clause-wrote c = search (row-whole, rules)
