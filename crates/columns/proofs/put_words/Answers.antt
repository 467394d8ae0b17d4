-- The words of the first i pairs stand at the start.
use Rattle.std.proofs.Common.{rules}
use Rattle.columns.proofs.Buffers.{words_none, words_more}
use Rattle.columns.proofs.put_words.Goals as goal

pub loop-i-init : goal.loop-i-init
loop-i-init c = search (words_none, rules)

pub loop-i-preserved : goal.loop-i-preserved
loop-i-preserved c = search (words_more, rules)
