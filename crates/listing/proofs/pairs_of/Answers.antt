-- Rule 1, then the rules of the plan, then the pairs in its table.
use Rattle.listing.proofs.ListedPairs.{text-short, text-refused, text-listed}
use borrow.Author.Rules.{rules}
use Rattle.listing.proofs.pairs_of.Goals as goal

pub returns-then-lent-lt-MAX_PAIR_WORDS : goal.returns-then-lent-lt-MAX_PAIR_WORDS
returns-then-lent-lt-MAX_PAIR_WORDS c = search (text-short, rules)

pub returns-in_err-plan : goal.returns-in_err-plan
returns-in_err-plan c = search (text-refused, c.in_err-plan.ensures, rules)

pub slice_bounds-table_pairs-end : goal.slice_bounds-table_pairs-end
slice_bounds-table_pairs-end c = let a = c.in_ok-plan.ensures in search rules

pub table_pairs-requires : goal.table_pairs-requires
table_pairs-requires c = let a = c.in_ok-plan.ensures in search rules

pub returns : goal.returns
returns c = let a = c.in_ok-plan.ensures in search (text-listed, rules)
