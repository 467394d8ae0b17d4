-- The path of the member, then its length and its wanted claim.
use Rattle.targets.proofs.Threads.{member-target, member-put}
use borrow.Author.Rules.{rules}
use Rattle.targets.proofs.Plan.put_member.Goals as goal

pub put_path-count-requires : goal.put_path-count-requires
put_path-count-requires c = search (member-target, rules)

pub returns : goal.returns
returns c = search (member-put, rules)
