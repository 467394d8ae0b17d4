-- The join over the threads other than k.
use Rattle.std.proofs.Common.{rules, tests, get_or}
use Rattle.semantics.specs.Conflict.{bars}
use Rattle.semantics.specs.Joins.{other_than}
use Rattle.retreat.specs.Paths.{barred_by_others}
use Rattle.retreat.proofs.Joins.{joined}
use Rattle.retreat.proofs.Threads.others_bar.Goals as goal

pub returns : goal.returns
unfolding barred_by_others
returns c =
    joined _ _ (other_than c.args.k) (λ i. bars (get_or c.args.masks.now i 0)) c.args.self.now.count c.fold.result _ (search rules) c.filter.ensures.closure
    (λ x b q k. search (rules, tests)) c.fold.ensures.ran (λ a x b q k. search rules)
