-- The first i numbers are written.
use Rattle.std.proofs.Common.{rules, ◌∙◌}
use Rattle.buffers.proofs.LittleEndian.{numbers_none, numbers_more}
use Rattle.buffers.proofs.put_numbers.Goals as goal

pub loop-i-init : goal.loop-i-init
loop-i-init g c = search (numbers_none, rules)

pub loop-i-preserved : goal.loop-i-preserved
loop-i-preserved g c =
    (search rules, search rules, numbers_more _ _ _ _ _ _ _ _ c.requires c.loop-i-test.true c.index-numbers-i.is (c.copy_from_slice.ensures.after ∙ c.bytes.ensures) c.loop-i.invariant.2)
