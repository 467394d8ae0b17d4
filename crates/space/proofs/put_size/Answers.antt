-- The thread and its size, each with the bytes before it, then the end. A machine number has at most 20 digits.
use native.Mathlib.Omega.{arith}
use Rattle.report_lines.proofs.Digits.{number_short}
use Rattle.space.proofs.Lines.{size-whole}
use borrow.Author.Rules.{rules}
use Rattle.space.proofs.put_size.Goals as goal

pub put_numbered-i-requires : goal.put_numbered-i-requires
put_numbered-i-requires c = omega (arith, number_short)

pub put_numbered-j-requires : goal.put_numbered-j-requires
put_numbered-j-requires c = omega (arith, number_short)

pub put_text-requires : goal.put_text-requires
put_text-requires c = omega (arith, number_short)

pub returns : goal.returns
returns c = record { wrote = search (size-whole, rules); upper_bound = omega (arith, number_short) }
