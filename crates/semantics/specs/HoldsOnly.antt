-- Gateways and pairs as 01 has them, before shares, to say what 02, change 9, asks: "Plans without share keep their answers, written as records." (theorem `answers-kept`). The trees
-- are those of `Plan`; here the number of a hold is its lock, and a thread has one count for each lock. The definitions are those that stood before change 9, each with 01 behind
-- its name. `step`, `initial`, `fresh`, `pair_of` and `pairs` are written out where they were used.
use Rattle.std.specs.Prelude.{ℕ, ◌+◌, ◌-◌, ◌*◌, ◌/◌, ◌%◌, ◌<◌, ◌≤◌, List, [], ◌∷◌, ◌++◌, map, Bool, true, not, ◌&&◌, ◌||◌, cond, ◌↔◌, ◌≡◌, length, get_or, set, replicate, T, eqb, ltb}
use Rattle.std.proofs.Math.Option.{Option, none, some, bind}
use Rattle.std.specs.Int.Bits.{bit_and}
use Rattle.limits.specs.Limits.{lock_count, claim_count}
use Rattle.laws.specs.Ascending.{ascending}
use Rattle.laws.specs.Mask.{bit}
use Rattle.semantics.specs.Plan.{Block, done, skip, call, hold, loop, either, end, body_in, LockPlan}
use Rattle.semantics.specs.Sizes.{size_of, thread_sizes}
use Rattle.semantics.specs.Run.{ThreadState, thread, up, down, move, others, everyone, thread_at}
use Rattle.semantics.specs.Stuck.{DeadlockFree, Schedule}
use Rattle.semantics.specs.Pairs.{had, pair_from, pair_list}

-- ---- 01, "How a gateway steps". A step of a thread by itself is `move`, with the counts of locks

-- no lock has a positive count in both
unfoldable pub compatible01 : List ℕ → List ℕ → Bool
compatible01 [] ds = true
compatible01 (c ∷ cs) [] = true
compatible01 (c ∷ cs) (d ∷ ds) = not (ltb 0 c && ltb 0 d) && compatible01 cs ds

-- each thread in S is compatible with the counts cs
unfoldable pub with_all01 : (ℕ → Bool) → List ℕ → List ThreadState → Bool
with_all01 S cs [] = true
with_all01 S cs (t ∷ ts) = (not (S 0) || compatible01 cs t.count) && with_all01 (others S) cs ts

-- "no lock has a positive count in two threads", of those in S
unfoldable pub apart01 : (ℕ → Bool) → List ThreadState → Bool
apart01 S [] = true
apart01 S (t ∷ ts) = (not (S 0) || with_all01 (others S) t.count ts) && apart01 (others S) ts

-- the step of thread t under choice c, the threads outside S forgotten. "The step is permitted when afterwards no lock has a positive count in two threads."
unfoldable pub step_in01 : (ℕ → Bool) → List Block → List ThreadState → ℕ → ℕ → Option (List ThreadState)
step_in01 S ps ts t c =
    bind (thread_at ts t) (λ x.
    bind (move ps c x.rest x.count) (λ y.
    cond (apart01 S (set ts t y)) (some (set ts t y)) none))

-- "A run is any finite list of steps"
unfoldable pub run01 : List Block → List ThreadState → List ℕ → Option (List ThreadState)
run01 ps ts [] = some ts
run01 ps ts (e ∷ es) = bind (step_in01 everyone ps ts (e % 8) (e / 8)) (λ ts'. run01 ps ts' es)

-- "a count for each lock, at first 0"
abbrev pub unlocked01 : List ℕ
unlocked01 = replicate lock_count 0

-- the start of a gateway whose threads run the procedures ns
unfoldable pub start01 : List Block → List ℕ → List ThreadState
start01 ps ns = map (λ p. thread (body_in ps p) unlocked01) ns

-- "A set of at least two threads is stuck when every member could step by itself and, the others outside the set forgotten, none may."
pub record Stuck01 (ps : List Block) (ts : List ThreadState) (S : ℕ → Bool) : Type 0 where
  pub two : (t : ℕ) × (u : ℕ) × (t < u) × T (S t) × T (S u)
  pub able : (t : ℕ) → T (S t) → (c : ℕ) × (x : ThreadState) × (y : ThreadState) × (thread_at ts t ≡ some x) × (move ps c x.rest x.count ≡ some y)
  pub barred : (t c : ℕ) → T (S t) → step_in01 S ps ts t c ≡ none

-- "the threads stuck there are its largest stuck set, which contains every other"
pub record Largest01 (ps : List Block) (ts : List ThreadState) (S : ℕ → Bool) : Type 0 where
  pub stuck : Stuck01 ps ts S
  pub contains : (S' : ℕ → Bool) → Stuck01 ps ts S' → (t : ℕ) → T (S' t) → T (S t)

-- no run of the gateway reaches a moment with two or more threads stuck on each other
abbrev pub DeadlockFree01 : List Block → List ℕ → Type 0
DeadlockFree01 ps ns = (es : List ℕ) (ts : List ThreadState) (S : ℕ → Bool) → run01 ps (start01 ps ns) es ≡ some ts → Stuck01 ps ts S → ⊥

-- "it is a run, no longer than the sum of its threads' sizes, and the set is the largest stuck one at its end"
pub record Schedule01 (plan : LockPlan) (es : List ℕ) (S : ℕ → Bool) : Type 0 where
  pub there : List ThreadState
  pub reached : run01 plan.procs (start01 plan.procs plan.threads) es ≡ some there
  pub largest : Largest01 plan.procs there S
  pub short : length es ≤ thread_sizes plan

-- ---- 01, "Pairs, verdict, schedule"

-- "ℓ not in X", and "that sum × 32, plus ℓ"
abbrev pub pair_at01 : List ℕ → ℕ → List ℕ
pair_at01 cs l = cond (eqb (get_or cs l 0) 0) ((had cs * 32 + l) ∷ []) []

-- the pairs of the holds of a block that is entered with counts cs
unfoldable pub pairs_with01 : (ℕ → List ℕ → List ℕ) → List ℕ → Block → List ℕ
pairs_with01 f cs done = []
pairs_with01 f cs (skip r) = pairs_with01 f cs r
pairs_with01 f cs (call p r) = f p cs ++ pairs_with01 f cs r
pairs_with01 f cs (hold l b r) = pair_at01 cs l ++ (pairs_with01 f (up l cs) b ++ pairs_with01 f cs r)
pairs_with01 f cs (loop b r) = pairs_with01 f cs b ++ pairs_with01 f cs r
pairs_with01 f cs (either a b r) = pairs_with01 f cs a ++ (pairs_with01 f cs b ++ pairs_with01 f cs r)
pairs_with01 f cs (end l r) = pairs_with01 f (down l cs) r

-- those of procedure p, where calls go less than d deep
unfoldable pub pairs_at01 : ℕ → List Block → ℕ → List ℕ → List ℕ
pairs_at01 ℕ.zero ps p cs = []
pairs_at01 (ℕ.suc d) ps p cs = pairs_with01 (pairs_at01 d ps) cs (body_in ps p)

-- "The list is ascending without repeats"
unfoldable pub pair_list01 : List Block → ℕ → List ℕ
pair_list01 ps p = ascending (pairs_at01 (length ps) ps p unlocked01)

-- ---- plans without share

-- each hold is of a lock below 32, by hold
unfoldable pub WithoutShare : Block → Type 0
WithoutShare done = Unit {0}
WithoutShare (skip r) = WithoutShare r
WithoutShare (call p r) = WithoutShare r
WithoutShare (hold a b r) = (lock_count ≤ a) × (a < claim_count) × WithoutShare b × WithoutShare r
WithoutShare (loop b r) = WithoutShare b × WithoutShare r
WithoutShare (either a b r) = WithoutShare a × WithoutShare b × WithoutShare r
WithoutShare (end a r) = ⊥

-- the block as 01 has it: the lock of each hold in the place of its claim
unfoldable pub locked : Block → Block
locked done = done
locked (skip r) = skip (locked r)
locked (call p r) = call p (locked r)
locked (hold a b r) = hold (a - lock_count) (locked b) (locked r)
locked (loop b r) = loop (locked b) (locked r)
locked (either a b r) = either (locked a) (locked b) (locked r)
locked (end a r) = end (a - lock_count) (locked r)

-- the plan as 01 has it
abbrev pub locked_plan : LockPlan → LockPlan
locked_plan plan = record { procs = map locked plan.procs; threads = plan.threads }

-- (X, ℓ) "written as records": X held, nothing shared, ℓ wanted by hold
abbrev pub as_record : ℕ → ℕ
as_record w = pair_from (w / 32) 0 (w % 32 * 2 + 1)

-- 02, change 7, of two words: "no held lock in common and each wanting a lock that the other holds"
abbrev pub Crosses01 : ℕ → ℕ → Type 0
Crosses01 v w = (bit_and (v / 32) (w / 32) ≡ 0) × (bit (w / 32) (v % 32) ≡ 1) × (bit (v / 32) (w % 32) ≡ 1)

-- the answers of a plan under the widened rule are those that it had under 01's: its sizes and pairs, whether it is free, and which schedules lead to
-- which stuck sets
pub record AnswersKept (plan : LockPlan) : Type 0 where
  pub sizes : (p : ℕ) → size_of plan.procs p ≡ size_of (locked_plan plan).procs p
  pub pairs : (p : ℕ) → pair_list plan.procs p ≡ map as_record (pair_list01 (locked_plan plan).procs p)
  pub free : DeadlockFree plan.procs plan.threads ↔ DeadlockFree01 (locked_plan plan).procs plan.threads
  pub schedule : (es : List ℕ) (S : ℕ → Bool) → Schedule plan es S ↔ Schedule01 (locked_plan plan) es S
