-- One digit is written.
use borrow.Author.Rules.{rules}
use Rattle.report_lines.proofs.Digits.{put_one}
use Rattle.report_lines.proofs.put_digit.Goals as goal

pub returns : goal.returns
returns c = search (put_one, rules)
