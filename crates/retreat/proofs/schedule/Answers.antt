-- What the way back ends with is a schedule, and what was copied are its entries.
use Rattle.std.proofs.Common.{rules, ◌-◌, drop}
use Rattle.limits.specs.Limits.{max_entries}
use Rattle.retreat.proofs.Schedules.{scheduled, rest-wrote}
use Rattle.retreat.proofs.schedule.Goals as goal

pub returns : goal.returns
returns c =
    let table = c.go_back-place.new.entries in
    let place = c.go_back-place.result in
    scheduled _ _ c.args.targets c.fill_masks.new.masks c.go_back-place.new.state (drop place table) c.args.entries.now _ _ (search rules) (search rules) (search rules)
    (rest-wrote table c.args.entries.now c.copy_from_slice.new.self place (max_entries - place) (search rules) (search rules) (search rules)) (search rules)
