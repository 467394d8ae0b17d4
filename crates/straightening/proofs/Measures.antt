-- No measure grows: of two blocks one after the other each measure is the sum or the greater one, and an either or a loop counts no less than its blocks. So what rules 4 to 8
-- settle of a plan they settle of the straightened one (`straight-settled`), and no procedure's size grows (`straight-size`).
use Prim.Native.Nat.{ℕ, zero, suc, ◌+◌, ◌<◌, ◌≤◌, max}
use native.Mathlib.Omega.{arith}
use mathlib.Core.List.{List, [], ◌∷◌, map}
use mathlib.Core.Path.{◌≡◌}
use lib.ListN.{length}
use Rattle.laws.proofs.Sums.{total-le}
use Rattle.semantics.specs.Plan.{Block, done, skip, call, hold, loop, either, end, ◌⨾◌, LockPlan, thread_proc, body_in}
use Rattle.semantics.specs.Sizes.{size_with, size_at, size_of, thread_size, thread_sizes}
use Rattle.plan.specs.Settled.{statements, all_statements, nesting, Settled}
use Rattle.straightening.specs.Straight.{straight, straight_plan}
use Rattle.straightening.proofs.Blocks.{straight-length, straight-body, straight-bodies-written, straight-bodies-formed}

-- ---- statements

statements_⨾ : (a b : Block) → statements (a ⨾ b) ≡ statements a + statements b
unfolding statements ◌⨾◌
statements_⨾ done b = omega arith
statements_⨾ (skip r) b = omega (arith, statements_⨾ r b)
statements_⨾ (call p r) b = omega (arith, statements_⨾ r b)
statements_⨾ (hold l x r) b = omega (arith, statements_⨾ r b)
statements_⨾ (loop x r) b = omega (arith, statements_⨾ r b)
statements_⨾ (either x y r) b = omega (arith, statements_⨾ r b)
statements_⨾ (end l r) b = statements_⨾ r b

straight-statements : (b : Block) → statements (straight b) ≤ statements b
unfolding statements straight
straight-statements done = omega arith
straight-statements (skip r) = omega (arith, straight-statements r)
straight-statements (call p r) = omega (arith, straight-statements r)
straight-statements (hold l b r) = omega (arith, straight-statements b, straight-statements r)
straight-statements (loop b r) = omega (arith, statements_⨾ (straight b) (straight r), straight-statements b, straight-statements r)
straight-statements (either a b r) =
    omega (arith, statements_⨾ (straight a) (straight b ⨾ straight r), statements_⨾ (straight b) (straight r), straight-statements a, straight-statements b, straight-statements r)
straight-statements (end l r) = straight-statements r

all-statements : (ps : List Block) → all_statements (map straight ps) ≤ all_statements ps
unfolding all_statements
all-statements [] = omega arith
all-statements (b ∷ ps) = omega (arith, straight-statements b, all-statements ps)

-- ---- open brackets

nesting_⨾ : (a b : Block) → nesting (a ⨾ b) ≡ max (nesting a) (nesting b)
unfolding nesting ◌⨾◌
nesting_⨾ done b = omega arith
nesting_⨾ (skip r) b = nesting_⨾ r b
nesting_⨾ (call p r) b = nesting_⨾ r b
nesting_⨾ (hold l x r) b = omega (arith, nesting_⨾ r b)
nesting_⨾ (loop x r) b = omega (arith, nesting_⨾ r b)
nesting_⨾ (either x y r) b = omega (arith, nesting_⨾ r b)
nesting_⨾ (end l r) b = nesting_⨾ r b

straight-nesting : (b : Block) → nesting (straight b) ≤ nesting b
unfolding nesting straight
straight-nesting done = omega arith
straight-nesting (skip r) = straight-nesting r
straight-nesting (call p r) = straight-nesting r
straight-nesting (hold l b r) = omega (arith, straight-nesting b, straight-nesting r)
straight-nesting (loop b r) = omega (arith, nesting_⨾ (straight b) (straight r), straight-nesting b, straight-nesting r)
straight-nesting (either a b r) =
    omega (arith, nesting_⨾ (straight a) (straight b ⨾ straight r), nesting_⨾ (straight b) (straight r), straight-nesting a, straight-nesting b, straight-nesting r)
straight-nesting (end l r) = straight-nesting r

-- ---- what rules 4 to 8 settle

pub straight-settled : (plan : LockPlan) → Settled plan → Settled (straight_plan plan)
unfolding straight_plan
straight-settled plan s =
    let ps = plan.procs in
    let n = straight-length ps in
    record {
      callees_present = λ p. rw n (straight-bodies-written (λ q. q < length ps) ps p (s.callees_present p));
      filled = straight-bodies-formed ps s.filled;
      threads-present = λ t h. omega (arith, n, s.threads-present t h);
      some-proc = omega (arith, n, s.some-proc);
      some-thread = s.some-thread;
      few-procs = omega (arith, n, s.few-procs);
      few-statements = omega (arith, all-statements ps, s.few-statements);
      few-threads = s.few-threads;
      few_open = λ p. rw (straight-body ps p) (omega (arith, straight-nesting (body_in ps p), s.few_open p));
    }

-- ---- sizes

size_⨾ : (s : ℕ → ℕ) (a b : Block) → size_with s (a ⨾ b) ≡ size_with s a + size_with s b
unfolding size_with ◌⨾◌
size_⨾ s done b = omega arith
size_⨾ s (skip r) b = omega (arith, size_⨾ s r b)
size_⨾ s (call p r) b = omega (arith, size_⨾ s r b)
size_⨾ s (hold l x r) b = omega (arith, size_⨾ s r b)
size_⨾ s (loop x r) b = omega (arith, size_⨾ s r b)
size_⨾ s (either x y r) b = omega (arith, size_⨾ s r b)
size_⨾ s (end l r) b = omega (arith, size_⨾ s r b)

-- where the procedures that are called have grown no larger
module _ (s t : ℕ → ℕ) (less : (p : ℕ) → s p ≤ t p) where
  size_with_lem : (b : Block) → size_with s (straight b) ≤ size_with t b
  unfolding size_with straight
  size_with_lem done = omega arith
  size_with_lem (skip r) = omega (arith, size_with_lem r)
  size_with_lem (call p r) = omega (arith, less p, size_with_lem r)
  size_with_lem (hold l b r) = omega (arith, size_with_lem b, size_with_lem r)
  size_with_lem (loop b r) = omega (arith, size_⨾ s (straight b) (straight r), size_with_lem b, size_with_lem r)
  size_with_lem (either a b r) =
      omega (arith, size_⨾ s (straight a) (straight b ⨾ straight r), size_⨾ s (straight b) (straight r), size_with_lem a, size_with_lem b, size_with_lem r)
  size_with_lem (end l r) = omega (arith, size_with_lem r)

size-at : (d : ℕ) (ps : List Block) (p : ℕ) → size_at d (map straight ps) p ≤ size_at d ps p
unfolding size_at
size-at zero ps p = omega arith
size-at (suc d) ps p = rw (straight-body ps p) (size_with_lem (size_at d (map straight ps)) (size_at d ps) (size-at d ps) (body_in ps p))

pub straight-size : (ps : List Block) (p : ℕ) → size_of (map straight ps) p ≤ size_of ps p
unfolding size_of
straight-size ps p = rw (straight-length ps) (size-at (length ps) ps p)

-- so no more entries are to be lent for a schedule of the straightened plan
pub straight-sum : (plan : LockPlan) → thread_sizes (straight_plan plan) ≤ thread_sizes plan
unfolding thread_sizes thread_size straight_plan
straight-sum plan = total-le (length plan.threads) _ _ (λ t h. straight-size plan.procs (thread_proc plan t))
