-- The sum with the bytes before it, then the end. A machine number has at most 20 digits.
use native.Mathlib.Omega.{arith}
use Rattle.laws.proofs.Wrote.{wrote-more}
use Rattle.report_lines.proofs.Digits.{number_short}
use Rattle.space.specs.Slip.{sum_line}
use borrow.Author.Rules.{rules}
use Rattle.space.proofs.put_sum.Goals as goal

pub put_numbered-i-requires : goal.put_numbered-i-requires
put_numbered-i-requires c = omega (arith, number_short)

pub put_text-requires : goal.put_text-requires
put_text-requires c = omega (arith, number_short)

pub returns : goal.returns
unfolding sum_line
returns c = search (wrote-more, rules)
