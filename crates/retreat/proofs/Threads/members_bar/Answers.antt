-- The join over the members other than t.
use Rattle.std.proofs.Common.{rules, tests, not, ◌&&◌, eqb, get_or}
use Rattle.laws.specs.Mask.{in_mask}
use Rattle.semantics.specs.Conflict.{bars}
use Rattle.semantics.specs.StuckRounds.{barred_by_members}
use Rattle.retreat.proofs.Joins.{joined}
use Rattle.retreat.proofs.Threads.members_bar.Goals as goal

pub returns : goal.returns
unfolding barred_by_members
returns c =
    joined _ _ (λ u. in_mask c.args.m u && not (eqb u c.args.t)) (λ u. bars (get_or c.args.state.now.masks u 0)) c.args.self.now.count c.fold.result _ (search rules)
    c.filter.ensures.closure (λ x b q k. search (rules, tests)) c.fold.ensures.ran (λ a x b q k. search rules)
