-- The set of the members that wait.
use Rattle.std.proofs.Common.{rules, tests, ◌&&◌, ◌^◌}
use Rattle.laws.specs.Mask.{in_mask}
use Rattle.semantics.specs.StuckRounds.{waits_in, stuck_round}
use Rattle.retreat.proofs.Joins.{joined, gathered}
use Rattle.retreat.proofs.Threads.stuck_round.Goals as goal

pub returns : goal.returns
unfolding stuck_round
returns c =
    let n = c.args.self.now.count in
    let s = c.args.state.now in
    gathered _ _ c.fold.result
    (joined _ _ (λ t. in_mask c.args.m t && waits_in n s.wanted s.masks c.args.m t) (λ t. 2 ^ t) n c.fold.result _ (search rules) c.filter.ensures.closure
    (λ x b q k. search (rules, tests)) c.fold.ensures.ran (λ a x b q k. search rules))
