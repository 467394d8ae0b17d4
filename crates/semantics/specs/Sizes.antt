-- Sizes. 01, "The plan text": "The size of a statement is 1 for skip, 1 plus the callee's size for call, 2 plus the block for hold and loop, 1 plus both blocks for
-- either. A block's size is the sum of its statements, a procedure's that of its block." 02, change 9: a share is "of size 2 plus its block".
use Rattle.std.specs.Prelude.{ℕ, ◌+◌, List, length}
use Rattle.laws.specs.Sums.{total}
use Rattle.semantics.specs.Plan.{Block, done, skip, call, hold, loop, either, end, body_in, LockPlan, thread_proc}

-- the size of a block, where s p is that of procedure p. `end`, in a remainder, is the second half of a hold
unfoldable pub size_with : (ℕ → ℕ) → Block → ℕ
size_with s done = 0
size_with s (skip r) = 1 + size_with s r
size_with s (call p r) = 1 + s p + size_with s r
size_with s (hold l b r) = 2 + size_with s b + size_with s r
size_with s (loop b r) = 2 + size_with s b + size_with s r
size_with s (either a b r) = 1 + size_with s a + size_with s b + size_with s r
size_with s (end l r) = 1 + size_with s r

-- the size of procedure p, where calls go less than d deep
unfoldable pub size_at : ℕ → List Block → ℕ → ℕ
size_at ℕ.zero ps p = 0
size_at (ℕ.suc d) ps p = size_with (size_at d ps) (body_in ps p)

-- the size of procedure p. 02, change 2: "Sizes and pairs follow the calls and not the text order." Where no procedure reaches itself (rule 12) calls go less deep than there are
-- procedures, so that a call counts 1 plus its callee's (theorem `size_of-body`)
unfoldable pub size_of : List Block → ℕ → ℕ
size_of ps p = size_at (length ps) ps p

-- the size of thread t of a plan: that of its procedure
unfoldable pub thread_size : LockPlan → ℕ → ℕ
thread_size plan t = size_of plan.procs (thread_proc plan t)

-- "the sum of its threads' sizes", over all threads of the plan
unfoldable pub thread_sizes : LockPlan → ℕ
thread_sizes plan = total (length plan.threads) (thread_size plan)
