-- The sum stands behind the lines of the threads.
use Rattle.space.proofs.Lines.{space-whole}
use native.Mathlib.Omega.{arith}
use Rattle.space.proofs.put_space.Goals as goal

pub returns : goal.returns
returns c = space-whole c.args.out.now c.put_sizes-i.new.out c.put_sum.new.out c.put_sizes-i.result c.put_sum.result c.args.space.threads c.args.space.sum c.args.space.each (omega arith) c.put_sizes-i.ensures.wrote c.put_sum.ensures
