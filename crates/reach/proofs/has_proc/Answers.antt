-- The meet with the bit of a procedure is 0 just where the mask has not the procedure.
use native.Mathlib.Omega.{arith}
use Rattle.laws.proofs.Masks.{test_bit}
use Rattle.reach.proofs.has_proc.Goals as goal

pub returns : goal.returns
returns c = test_bit 64 c.args.mask c.args.p (omega arith)
