-- Item after item, each written into what is left of the output, until none is left.
use borrow.Author.Rules.{rules}
use Rattle.bare_text.proofs.Writing.{all_none, all_more, all-written}
use Rattle.bare_text.proofs.write_forms.Goals as goal

pub loop-i-init : goal.loop-i-init
loop-i-init c = search (all_none, rules)

pub loop-i-preserved : goal.loop-i-preserved
loop-i-preserved c = search (all_more, rules)

pub returns : goal.returns
returns c = search (all-written, rules)
