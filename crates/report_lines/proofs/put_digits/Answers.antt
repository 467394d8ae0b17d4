-- A number of one digit is that digit; one of two is the digit of its tenth part, and its last one behind it.
use borrow.Author.Rules.{rules}
use Rattle.report_lines.proofs.Digits.{first-room, second-room, put_two}
use Rattle.report_lines.proofs.put_digits.Goals as goal

pub put_digit-requires : goal.put_digit-requires
put_digit-requires c = (search rules, search (first-room, rules))

pub put_digit-i-requires : goal.put_digit-i-requires
put_digit-i-requires c = (search rules, search (first-room, rules))

pub put_digit-requires-then-n-lt100 : goal.put_digit-requires-then-n-lt100
put_digit-requires-then-n-lt100 c = (search rules, search (second-room, rules))

pub returns-then-n-lt100 : goal.returns-then-n-lt100
returns-then-n-lt100 c = search (put_two, rules)
