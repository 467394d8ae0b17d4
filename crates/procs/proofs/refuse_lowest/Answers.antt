-- None of the procedures before p passes, so the first that does is the lowest.
use Rattle.std.proofs.Common.{rules}
use Rattle.procs.proofs.LowestProc.{below_more, lowest-found, lowest-none}
use Rattle.procs.proofs.refuse_lowest.Goals as goal

pub returns-then-test : goal.returns-then-test
returns-then-test g c = λ passes says. lowest-found (goal.F-post g c.args.test) _ c.loop-p.invariant _ _ c.requires.laid _ passes says _ (search rules) c.test.ensures (search rules)

pub loop-p-preserved : goal.loop-p-preserved
loop-p-preserved g c = below_more (goal.F-post g c.args.test) _ c.loop-p.invariant _ c.test.ensures (search rules)

pub returns : goal.returns
returns g c = λ passes says. (lowest-none (goal.F-post g c.args.test) _ c.loop-p.invariant _ _ c.requires.laid _ passes says (search rules) (search rules), tt)
