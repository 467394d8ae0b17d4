-- The first members of the cycle are done.
use borrow.Author.Rules.{rules}
use Rattle.targets.proofs.Members.{asked-next, done_none, done-next, prepared}
use Rattle.targets.proofs.thread_paths.Goals as goal

pub loop-c-init : goal.loop-c-init
loop-c-init c = search (done_none, rules)

pub put_member-requires : goal.put_member-requires
put_member-requires c = search (asked-next, rules)

pub loop-c-preserved : goal.loop-c-preserved
loop-c-preserved c = search (done-next, rules)

pub returns : goal.returns
returns c = prepared _ _ c.args.layout _ _ c.requires.0 _ _ _ _ c.loop-c.auto.c-index-end c.loop-c-test.false (search rules) (search rules) c.loop-c.invariant
