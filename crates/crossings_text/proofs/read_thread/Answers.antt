-- What is left of the argument decides whether it is a number and which: each digit is taken into the number so far.
use borrow.Author.Rules.{rules}
use Rattle.laws.proofs.Folds.{fold_again}
use Rattle.crossings_text.specs.Request.{asked_number}
use Rattle.crossings_text.proofs.Numbers.{digit-passed, no-digit, number-done, no_number}
use Rattle.crossings_text.proofs.read_thread.Goals as goal

pub returns-then-is_empty : goal.returns-then-is_empty
returns-then-is_empty c = search (no_number, rules)

pub loop-b-init : goal.loop-b-init
unfolding asked_number
loop-b-init c = search rules

pub returns-then-not-is_ascii_digit : goal.returns-then-not-is_ascii_digit
returns-then-not-is_ascii_digit c = search (no-digit, rules)

pub loop-b-preserved : goal.loop-b-preserved
loop-b-preserved c = search (digit-passed, fold_again, rules)

pub returns : goal.returns
returns c = search (number-done, rules)
