-- Straightened plans. 02, change 8: "Reviewers read a shorter plan: every either replaced by its two blocks one after the other, every loop by its block." What is left
-- is straight-line code: skips, calls, holds and shares (change 9), which are one case of a block.
use Rattle.std.specs.Prelude.{map}
use Rattle.semantics.specs.Plan.{Block, done, skip, call, hold, loop, either, end, ◌⨾◌, LockPlan}

-- "every either replaced by its two blocks one after the other, every loop by its block", within other blocks too
unfoldable pub straight : Block → Block
straight done = done
straight (skip r) = skip (straight r)
straight (call p r) = call p (straight r)
straight (hold l b r) = hold l (straight b) (straight r)
straight (loop b r) = straight b ⨾ straight r
straight (either a b r) = straight a ⨾ straight b ⨾ straight r
straight (end l r) = end l (straight r)

-- a plan with each procedure straightened; the thread lines stay as they are
unfoldable pub straight_plan : LockPlan → LockPlan
straight_plan plan = record { procs = map straight plan.procs; threads = plan.threads }

-- straight-line: a block without either and loop, in itself and in the blocks within it
unfoldable pub StraightLine : Block → Type 0
StraightLine done = Unit {0}
StraightLine (skip r) = StraightLine r
StraightLine (call p r) = StraightLine r
StraightLine (hold l b r) = StraightLine b × StraightLine r
StraightLine (loop b r) = ⊥
StraightLine (either a b r) = ⊥
StraightLine (end l r) = StraightLine r
