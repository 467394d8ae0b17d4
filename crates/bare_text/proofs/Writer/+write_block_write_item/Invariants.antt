-- An item is its line and the block within, a block its items, each written into what is left of the output. The measure is twice the number of lines that are left, of a
-- block one more: a block within begins one line later.
use Prim.Native.Nat.{◌+◌, ◌-◌, ◌*◌}
use mathlib.Core.Bool.{false}
use mathlib.Core.Path.{◌≡◌}
use lib.ListN.{length}
use Rattle.bare_text.specs.Writing.{RoomFor, WroteItems}
use Rattle.bare_text.proofs.Writer.+write_block_write_item.Given as goal

abbrev pub decreases-write_block : goal.decreases-write_block
decreases-write_block l = 2 * (length l.self.now.table.now - l.at) + 1

abbrev pub decreases-write_item : goal.decreases-write_item
decreases-write_item l = 2 * (length l.self.now.table.now - l.at)

abbrev pub invariant-write_block-loop-i : goal.invariant-write_block-loop-i
invariant-write_block-loop-i l =
    RoomFor l.self.table.now l.at l.initial.out × (length l.out ≡ length l.initial.out) × WroteItems l.self.straighten l.enclosed l.self.table.now l.at l.initial.out l.out l.i l.used false

abbrev pub decreases-write_block-loop-i : goal.decreases-write_block-loop-i
decreases-write_block-loop-i l = length l.self.table.now - l.i
