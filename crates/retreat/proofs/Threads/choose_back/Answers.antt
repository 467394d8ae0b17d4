-- The first thread that the search finds.
use Rattle.std.proofs.Common.{rules, ◌≡◌, true, false}
use Rattle.std.proofs.lemmas.Iterator.{first_from_Range}
use Rattle.retreat.specs.Paths.{may_go_back}
use Rattle.retreat.proofs.StepBack.{first-below}
use Rattle.retreat.proofs.Threads.choose_back.Goals as goal

pub returns : goal.returns
returns c =
    let n = c.args.self.now.count in
    let may = may_go_back c.args.self.now.rows.now c.args.positions.now n in
    first-below may n c.find.result
    (first_from_Range (record { start = 0; end = n }) _ _ c.find.result (λ k. may k ≡ true) (λ k. may k ≡ false) c.find.ensures.ran (λ k q e. search rules) (λ k q e. search rules))
