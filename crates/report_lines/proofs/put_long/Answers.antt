-- The digits are those that std prints.
use borrow.Author.Rules.{rules}
use Rattle.report_lines.proofs.Digits.{digits_decimal}
use Rattle.report_lines.proofs.put_long.Goals as goal

pub put_text-requires : goal.put_text-requires
put_text-requires c = let e = digits_decimal c.args.n (search rules) in search rules

pub returns : goal.returns
returns c = let e = digits_decimal c.args.n (search rules) in rw (e, ← c.format.ensures.text, ← c.as_bytes.ensures.value) c.put_text.ensures
