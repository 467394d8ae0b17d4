-- The procedure is found already, or not all that it reaches are, or its size follows from those of its callees.
use borrow.Author.Rules.{rules}
use Rattle.sizes.proofs.Found.{found_already, not_found, size-put, put-found}
use Rattle.sizes.proofs.Sizes.find_size.Goals as goal

pub returns-then-has_proc : goal.returns-then-has_proc
returns-then-has_proc c = search (found_already, rules)

pub returns-then-asked-p : goal.returns-then-asked-p
returns-then-asked-p c = search (not_found, rules)

pub returns : goal.returns
returns c = search (put-found, size-put, rules)
