-- Each turn fills the list of one thread more.
use Rattle.std.proofs.Common.{◌≡◌, length}
use Rattle.columns.specs.Columns.{pair_numbers}
use Rattle.lists.proofs.Filling.{Filling}
use Rattle.lists.proofs.thread_lists.Given as goal

abbrev pub invariant-loop-t : goal.invariant-loop-t
invariant-loop-t l = (length l.masks ≡ length l.initial.masks) × (length l.codes ≡ length l.initial.codes) × Filling l.table l.layout (pair_numbers l.initial.masks l.initial.codes) l.initial.counts (pair_numbers l.masks l.codes) l.counts l.t
