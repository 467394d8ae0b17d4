-- What the machine says of the forms that are left, with its stack in the buffer, is what rule 4 says of the table. The stack has room: it holds no more brackets than
-- forms were read.
use borrow.Author.Rules.{rules}
use native.Mathlib.Omega.{arith}
use Rattle.plan.specs.Rules.{reading_of}
use Rattle.plan.proofs.Passes.{top_last, stack_push, stack_pop, misplaced_start, misplaced_step, complete_accepts, open_refuses}
use Rattle.plan.proofs.check_structure.Goals as goal
use Rattle.plan.proofs.check_structure.Goals.{in-Stay, in-Push, in-Pop}

pub loop-i-init : goal.loop-i-init
loop-i-init c = (omega arith, misplaced_start _ _)

pub loop-i-preserved : goal.loop-i-preserved
loop-i-preserved c =
    let h = misplaced_step _ _ _ _ _ _ _ _ _ c.loop-i.invariant.1 c.loop-i-test.true c.form_at.ensures (search (top_last, rules)) c.advance_of.ensures in
    let e = c.in_ok-step.ensures.ok_part in
    elim c.match-step.branch [
      | in-Stay w ↦ rw (w.stack-is, w.mode-is, w.depth-is) (omega arith, rw (e, w.in-Stay.is) at h)
      | in-Push w ↦ rw (w.stack-is, w.mode-is, w.depth-is, stack_push c.loop-i.stack c.loop-i.depth w.in-Push.bracket (omega arith)) (omega arith, rw (e, w.in-Push.is) at h)
      | in-Pop w ↦ rw (w.stack-is, w.mode-is, w.depth-is, w.saturating_sub-depth.ensures, stack_pop) (omega arith, rw (e, w.in-Pop.is) at h)
    ]

pub returns-in_err-step : goal.returns-in_err-step
unfolding reading_of
returns-in_err-step c =
    let h = misplaced_step _ _ _ _ _ _ _ _ _ c.loop-i.invariant.1 c.loop-i-test.true c.form_at.ensures (search (top_last, rules)) c.advance_of.ensures in
    grind arith

pub returns-then-eq : goal.returns-then-eq
returns-then-eq c = search (complete_accepts, rules)

pub returns : goal.returns
returns c = search (open_refuses, rules)
