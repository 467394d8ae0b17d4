-- Threads that are stuck on each other, the largest such set, and gateways that never have one. 01, "How a gateway steps".
use Rattle.std.specs.Prelude.{ℕ, ◌<◌, ◌≤◌, List, Bool, ◌≡◌, T, length}
use Rattle.std.proofs.Math.Option.{none, some}
use Rattle.semantics.specs.Plan.{Block, LockPlan}
use Rattle.semantics.specs.Sizes.{thread_sizes}
use Rattle.semantics.specs.Run.{ThreadState, move, thread_at, step_in, run, start}

-- "A set of at least two threads is stuck when every member could step by itself and, the others outside the set forgotten, none may. The empty set .. is never
-- stuck."
pub record Stuck (ps : List Block) (ts : List ThreadState) (S : ℕ → Bool) : Type 0 where
  pub two : (t : ℕ) × (u : ℕ) × (t < u) × T (S t) × T (S u)
  pub able : (t : ℕ) → T (S t) → (c : ℕ) × (x : ThreadState) × (y : ThreadState) × (thread_at ts t ≡ some x) × (move ps c x.rest x.count ≡ some y)
  pub barred : (t c : ℕ) → T (S t) → step_in S ps ts t c ≡ none

-- "the threads stuck there are its largest stuck set, which contains every other"
pub record Largest (ps : List Block) (ts : List ThreadState) (S : ℕ → Bool) : Type 0 where
  pub stuck : Stuck ps ts S
  pub contains : (S' : ℕ → Bool) → Stuck ps ts S' → (t : ℕ) → T (S' t) → T (S t)

-- No run of the gateway reaches a moment with two or more threads stuck on each other (demand 3).
abbrev pub DeadlockFree : List Block → List ℕ → Type 0
DeadlockFree ps ns = (es : List ℕ) (ts : List ThreadState) (S : ℕ → Bool) → run ps (start ps ns) es ≡ some ts → Stuck ps ts S → ⊥

-- The schedule of a deadlock, the one part of an answer that 01 leaves open: "it is a run, no longer than the sum of its threads' sizes, and the set is the largest
-- stuck one at its end, of two or more threads."
pub record Schedule (plan : LockPlan) (es : List ℕ) (S : ℕ → Bool) : Type 0 where
  pub there : List ThreadState
  pub reached : run plan.procs (start plan.procs plan.threads) es ≡ some there
  pub largest : Largest plan.procs there S
  pub short : length es ≤ thread_sizes plan
