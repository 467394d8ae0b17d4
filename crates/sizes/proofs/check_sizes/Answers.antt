-- The test of a size says whether the procedure is too large; of a plan that rule 9 does not refuse no size was cut off.
use borrow.Author.Rules.{rules}
use Rattle.plan.specs.Rules.{too_large}
use Rattle.procs.proofs.Answered.{ruled_err}
use Rattle.sizes.proofs.LargeProcs.{large, large_tested}
use Rattle.sizes.proofs.Spaces.{threads-few, threads-cut, space-found}
use Rattle.sizes.proofs.check_sizes.Goals as goal

pub thread_space-requires : goal.thread_space-requires
thread_space-requires c = search (threads-few, threads-cut, rules)

pub returns-in_err-refuse_lowest : goal.returns-in_err-refuse_lowest
unfolding too_large
returns-in_err-refuse_lowest c =
    ruled_err _ _ _ c.in_err-refuse_lowest.field-0.0 (search rules) (c.in_err-refuse_lowest.ensures (large c.args.table.now) (λ p r h a. search (large_tested, rules)))

pub returns : goal.returns
unfolding too_large
returns c =
    let kept = (c.in_ok-refuse_lowest.ensures (large c.args.table.now) (λ p r h a. search (large_tested, rules))).0 in
    (kept, search (space-found, rules))
