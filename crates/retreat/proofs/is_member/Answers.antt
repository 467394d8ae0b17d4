-- The machine's test of a bit is that of the digit.
use native.Mathlib.Omega.{arith}
use Rattle.laws.proofs.Masks.{test_bit}
use Rattle.retreat.proofs.is_member.Goals as goal

pub returns : goal.returns
returns c = test_bit 8 c.args.m c.args.t (omega arith)
