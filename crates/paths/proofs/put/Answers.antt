-- What is stored at n in both columns is the next step behind the first n.
use Rattle.std.proofs.Common.{rules}
use Rattle.paths.proofs.Buffers.{put_both, put_full}
use Rattle.paths.proofs.put.Goals as goal

pub returns-then-n-masks : goal.returns-then-n-masks
returns-then-n-masks c = search (put_both, rules)

pub returns : goal.returns
returns c = put_full _ _ _ _ _ c.else-n-choices.either c.requires.0
