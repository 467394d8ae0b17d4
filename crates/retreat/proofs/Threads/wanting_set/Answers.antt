-- The set of the threads that want a claim.
use Rattle.std.proofs.Common.{rules, tests, ltb, ◌^◌, get_or}
use Rattle.semantics.specs.StuckRounds.{wanting}
use Rattle.retreat.proofs.Joins.{joined, gathered}
use Rattle.retreat.proofs.Threads.wanting_set.Goals as goal

pub returns : goal.returns
unfolding wanting
returns c =
    gathered _ _ c.fold.result
    (joined _ _ (λ t. ltb 0 (get_or c.args.state.now.wanted t 0)) (λ t. 2 ^ t) c.args.self.now.count c.fold.result _ (search rules) c.filter.ensures.closure
    (λ x b q k. search (rules, tests)) c.fold.ensures.ran (λ a x b q k. search rules))
