-- The sizes of a plan's threads. Over lists first: what is summed so far (`Summing`). Then of the plan: where rule 9 refuses nothing no size was cut off, so that those of the
-- table are the sizes of the threads' procedures (`space-found`).
use Prim.Native.Nat.{ℕ, ◌+◌, ◌*◌, ◌^◌, ◌<◌, ◌≤◌, min}
use native.Mathlib.Omega.{arith}
use native.Mathlib.Nat.{eq-or-lt_of_le}
use mathlib.Core.Path.{◌≡◌, refl, ap, ◌∙◌}
use mathlib.Core.List.{List}
use mathlib.Core.Logic.{⊎_elim}
use mathlib.Core.Option.{none}
use lib.ListN.{length, take, get_or, set, length-set}
use lib.Seq.{get_or-set_same, get_or-set_other}
use Rattle.limits.specs.Limits.{max_threads, size_room}
use Rattle.laws.specs.Sums.{total}
use Rattle.laws.proofs.Sums.{total-same, total-last}
use Rattle.semantics.specs.Plan.{LockPlan}
use Rattle.semantics.specs.Sizes.{thread_size, thread_sizes}
use Rattle.plan.specs.Table.{table_forms}
use Rattle.plan.specs.Settled.{PlanTable, table_plan}
use Rattle.plan.specs.Rules.{too_large}
use Rattle.plan.proofs.WithinSize.{thread-within}
use Rattle.procs.specs.declared.Layout.{Layout}
use Rattle.procs.specs.Laid.{Laid}
use Rattle.sizes.specs.declared.Space.{Space}
use Rattle.sizes.specs.Passes.{known_size}
use Rattle.sizes.specs.Sized.{Sized, ThreadsCut, Summed}
use Rattle.sizes.specs.Space.{SpaceOf}

-- ---- over lists

-- the sizes of the first t threads are put down and summed
pub record Summing (runs sizes each : List ℕ) (t sum : ℕ) : Type 0 where
  pub room : max_threads ≡ length each
  pub put : (u : ℕ) → u < t → get_or each u 0 ≡ known_size sizes (get_or runs u 0)
  pub summed : sum ≡ total t (λ u. known_size sizes (get_or runs u 0))
  pub small : sum ≤ size_room * t

module _ (runs sizes each : List ℕ) where
  pub summing_none : max_threads ≡ length each → Summing runs sizes each 0 0
  unfolding total
  summing_none h = record { room = h; put = λ u b. absurd (omega arith); summed = omega arith; small = omega arith }

  pub sum_fits : (t n sum size : ℕ) → t < n → n ≤ max_threads → ThreadsCut runs n sizes → size ≡ known_size sizes (get_or runs t 0) → Summing runs sizes each t sum
      → sum + size < 2 ^ 64
  sum_fits t n sum size h k c e s = omega (arith, s.small, c.cut t h)

  pub summing_more : (t n sum size : ℕ) → t < n → n ≤ max_threads → ThreadsCut runs n sizes → size ≡ known_size sizes (get_or runs t 0) → Summing runs sizes each t sum
      → Summing runs sizes (set each t size) (t + 1) (sum + size)
  summing_more t n sum size h k c e s = record {
    room = omega (arith, s.room, length-set each t size);
    put = λ u b. ⊎_elim
        (λ (z : u ≡ t). rw z (get_or-set_same each t size 0 (omega (arith, s.room)) ∙ e))
        (λ (z : u < t). get_or-set_other each t u size 0 (λ k. omega arith) ∙ s.put u z)
        (eq-or-lt_of_le (omega arith));
    summed = omega (arith, s.summed, total-last t (λ u. known_size sizes (get_or runs u 0)));
    small = omega (arith, s.small, c.cut t h);
  }

  pub summing_done : (t n sum : ℕ) → t ≤ n → n ≤ t → Summing runs sizes each t sum → Summed runs n sizes (record { threads = n; each = each; sum = sum })
  summing_done t n sum h k s =
      let z : t ≡ n = omega arith in
      record { full = s.room; threads = refl; each = rw z at s.put; sum = rw z at s.summed }

-- ---- of a plan

module _ (ws sizes : List ℕ) (l : Layout) (plan : PlanTable ws) (d : Laid ws l) (s : Sized ws sizes) where
  abbrev p : LockPlan
  p = table_plan ws

  size-at : (t : ℕ) → t < length p.threads → known_size sizes (get_or p.threads t 0) ≡ min size_room (thread_size p t)
  unfolding thread_size
  size-at t h = s.entries (get_or p.threads t 0) (plan.settled.threads-present t h)

  pub threads-few : length (take l.threads l.runs) ≤ max_threads
  threads-few = omega (arith, ap length d.runs_are, plan.settled.few-threads)

  pub threads-cut : ThreadsCut (take l.threads l.runs) (length (take l.threads l.runs)) sizes
  threads-cut = rw d.runs_are (record { cut = λ t h. omega (arith, size-at t h) })

  module _ (kept : too_large (table_forms ws) ≡ none) where
    size_exact : (t : ℕ) → t < length p.threads → known_size sizes (get_or p.threads t 0) ≡ thread_size p t
    size_exact t h = omega (arith, size-at t h, thread-within (table_forms ws) plan.settled kept t h)

    pub space-found : (x : Space) → Summed (take l.threads l.runs) (length (take l.threads l.runs)) sizes x → SpaceOf (table_plan ws) x
    unfolding thread_sizes
    space-found x m =
        let n : Summed p.threads (length p.threads) sizes x = rw d.runs_are at m in
        record {
          full = n.full;
          threads = n.threads;
          each = λ t h. n.each t h ∙ size_exact t h;
          sum = n.sum ∙ total-same (length p.threads) (λ t. known_size sizes (get_or p.threads t 0)) (thread_size p) size_exact;
        }
