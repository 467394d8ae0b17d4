-- An item is its line and the block within, a block its items, each written into what is left of the output. The measure is twice the number of lines that are left, of a
-- block one more: a block within begins one line later.
use borrow.Author.Rules.{rules}
use Rattle.bare_text.proofs.Writing.{items_none, items_more, items-closed, items_end}
use Rattle.bare_text.proofs.Writing.{item_small, item_room, item-line, item-left, item-block, item-later, item_falls}
use Rattle.bare_text.proofs.Writer.+write_block_write_item.Goals as goal

pub write_block-loop-i-init : goal.write_block-loop-i-init
write_block-loop-i-init t c = search (items_none, rules)

pub write_block-returns-then-item : goal.write_block-returns-then-item
write_block-returns-then-item t c = search (items-closed, rules)

pub write_block-loop-i-preserved : goal.write_block-loop-i-preserved
write_block-loop-i-preserved t c = search (items_more, rules)

pub write_item-put_retained-n-requires : goal.write_item-put_retained-n-requires
write_item-put_retained-n-requires t c = search (item_small, item_room, rules)

pub write_item-write_block-inner-requires : goal.write_item-write_block-inner-requires
write_item-write_block-inner-requires t c = (search (item_falls, rules), (search rules, search (item-left, rules)))

pub write_item-returns-then-opens_block : goal.write_item-returns-then-opens_block
write_item-returns-then-opens_block t c = (search (item-block, rules), search (item-later, rules))

pub write_item-returns : goal.write_item-returns
write_item-returns t c = (search (item-line, rules), search rules)

pub write_block-returns-after-loop-i : goal.write_block-returns-after-loop-i
write_block-returns-after-loop-i t c = search (items_end, rules)
