-- The forms before the first that begins another thing, or all from the place on.
use Rattle.std.proofs.Common.{ℕ, ap, ◌∙◌, rules, tests}
use Rattle.std.proofs.lemmas.Iterator.{YieldsList-from_slice}
use Rattle.std.proofs.lemmas.Iterator.Search.{position_from_yields_List}
use Rattle.std.specs.List.{before_first}
use Rattle.text.specs.Forms.{begins_other}
use Rattle.plan.specs.Table.{form_at}
use Rattle.procs.proofs.Fronts.{from_place, front_found}
use Rattle.procs.proofs.rest_of_proc.Goals as goal

pub returns : goal.returns
returns c =
    let test = λ (w : ℕ). begins_other (form_at w) in
    let found = position_from_yields_List test _ _ c.position-n.result c.position-n.ensures.ran (YieldsList-from_slice _ cc) (λ x b q k. search (rules, tests)) in
    front_found test c.position-n.result _ _ found c.unwrap_or.ensures ∙ ap (before_first test) (from_place c.args.place c.min.result c.args.table.now c.min.ensures)
