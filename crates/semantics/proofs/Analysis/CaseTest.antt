-- A test, for closed computation, of what a table of cases says of a plan. Where a case passes, what it says holds of the runs and of the critical pairs themselves
-- (`passes-facts`): freedom by the characterisation, a schedule by running it, its stuck set by the rounds.
use Prim.Native.Nat.{ℕ, zero, suc, ◌+◌, ◌≤◌, ◌<◌}
use mathlib.Core.List.Memᴰ
use mathlib.Core.List.{List, [], ◌∷◌, map, Memᴰ}
use mathlib.Core.Bool.{Bool, true, false, not, ◌&&◌}
use mathlib.Core.Logic.{⊎_elim}
use mathlib.Core.Option.{Option, none, some}
use mathlib.Core.Path.{◌≡◌, refl, sym, ◌∙◌, subst, fun_ext}
use native.Mathlib.Nat.{add-zero, zero-add, eq-or-lt_of_le}
use native.Mathlib.Omega.{arith}
use lib.ListN.{length, get_or}
use lib.Dec.{T, leb, ltb, eqb, leb→le, ltb→lt, eqb→eq, T_not}
use Rattle.limits.specs.Limits.{claim_count}
use Rattle.laws.specs.Bytes.{equal}
use Rattle.laws.proofs.Tests.{same_test, T_and, T-or, T_true, lt_or_le}
use Rattle.laws.proofs.Bytes.{equal_is}
use Rattle.semantics.specs.Plan.{Block, done, skip, call, hold, loop, either, end, body_in, Written, WellFormed, Ranks, LockPlan}
use Rattle.semantics.specs.CallMasks.{reaches}
use Rattle.semantics.specs.Sizes.{thread_sizes}
use Rattle.semantics.specs.Run.{ThreadState, run, start}
use Rattle.semantics.specs.Stuck.{Largest, Schedule}
use Rattle.semantics.specs.Pairs.{pair_list}
use Rattle.semantics.specs.Cases.{Expected, free, deadlock, set_of, Holds, CaseFacts}
use Rattle.semantics.specs.Conflict.{any, conflicting}
use Rattle.semantics.proofs.Thread.Remainders.{plain_body}
use Rattle.semantics.proofs.Calls.Closure.{reacher_present, reaches-is}
use Rattle.semantics.proofs.Calls.Ranks.{acyclic-ranks}
use Rattle.semantics.proofs.Gateway.Invariant.{run_invariant, run_length, start-length, start_invariant}
use Rattle.semantics.proofs.Critical.PairList.{pair_list-critical}
use Rattle.semantics.proofs.Stuck.LargestStuck.{rounds, rounds-largest, rounds_in}
use Rattle.semantics.proofs.Ground.Members.{any-is}
use Rattle.semantics.proofs.Conflicts.Characterisation.{Ranked, plan-characterisation}

-- ---- the test

-- whether a block is Written, with calls below n, and WellFormed
unfoldable pub written : ℕ → Bool → Block → Bool
written n empty done = empty
written n empty (skip r) = written n true r
written n empty (call q r) = ltb q n && written n true r
written n empty (hold l b r) = ltb l claim_count && (written n false b && written n true r)
written n empty (loop b r) = written n false b && written n true r
written n empty (either a b r) = written n false a && (written n false b && written n true r)
written n empty (end l r) = false

-- whether each block is, with calls below n
unfoldable pub all_written : ℕ → List Block → Bool
all_written n [] = true
all_written n (b ∷ bs) = written n false b && all_written n bs

unfoldable pub all : (ℕ → Bool) → List ℕ → Bool
all f [] = true
all f (n ∷ ns) = f n && all f ns

unfoldable pub pairs_from : List Block → ℕ → List (List ℕ) → Bool
pairs_from ps p [] = true
pairs_from ps p (ws ∷ wss) = ltb p (length ps) && (equal (pair_list ps p) ws && pairs_from ps (suc p) wss)

abbrev pub agree : Bool → Bool → Bool
agree true b = b
agree false b = not b

unfoldable pub same_below : ℕ → (ℕ → Bool) → (ℕ → Bool) → Bool
same_below zero S R = true
same_below (suc n) S R = agree (S n) (R n) && same_below n S R

-- the stuck threads after a run
unfoldable pub stuck_are : ℕ → List Block → List ℕ → Option (List ThreadState) → Bool
stuck_are n ps us none = false
stuck_are n ps us (some ts) = same_below n (rounds n ps ts) (set_of us) && any (rounds n ps ts) us

unfoldable pub answers : LockPlan → Expected → Bool
answers plan free = not (conflicting (map (pair_list plan.procs) plan.threads))
answers plan (deadlock es us) =
    leb (length es) (thread_sizes plan)
    && (all (λ t. ltb t (length plan.threads)) us
    && stuck_are (length plan.threads) plan.procs us (run plan.procs (start plan.procs plan.threads) es))

unfoldable pub passes : LockPlan → List (List ℕ) → Expected → Bool
passes plan pairs a =
    let ps = plan.procs in
    let ns = plan.threads in
    all_written (length ps) ps
    && (same_below (length ps) (λ p. reaches ps p p) (λ p. false)
    && (all (λ n. ltb n (length ps)) ns && (leb (length ns) 8 && (pairs_from ps 0 pairs && answers plan a))))

-- ---- what it implies

written_of : (n : ℕ) (e : Bool) (b : Block) → T (written n e b) → Written (λ q. q < n) b × WellFormed e b
unfolding written Written WellFormed
written_of n e done t = (tt, t)
written_of n e (skip r) t = written_of n true r t
written_of n e (call q r) t =
    let (x, y) = T_and (ltb q n) (written n true r) t in
    let (w, f) = written_of n true r y in
    ((ltb→lt q n x, w), f)
written_of n e (hold l b r) t =
    let (x, y) = T_and (ltb l claim_count) (written n false b && written n true r) t in
    let (y₁, y₂) = T_and (written n false b) (written n true r) y in
    let (w₁, f₁) = written_of n false b y₁ in
    let (w₂, f₂) = written_of n true r y₂ in
    ((ltb→lt l claim_count x, w₁, w₂), (f₁, f₂))
written_of n e (loop b r) t =
    let (y₁, y₂) = T_and (written n false b) (written n true r) t in
    let (w₁, f₁) = written_of n false b y₁ in
    let (w₂, f₂) = written_of n true r y₂ in
    ((w₁, w₂), (f₁, f₂))
written_of n e (either a b r) t =
    let (x, y) = T_and (written n false a) (written n false b && written n true r) t in
    let (y₁, y₂) = T_and (written n false b) (written n true r) y in
    let (w₀, f₀) = written_of n false a x in
    let (w₁, f₁) = written_of n false b y₁ in
    let (w₂, f₂) = written_of n true r y₂ in
    ((w₀, w₁, w₂), (f₀, f₁, f₂))
written_of n e (end l r) t = absurd t

all-written : (n : ℕ) (bs : List Block) → T (all_written n bs) → (p : ℕ)
    → Written (λ q. q < n) (body_in bs p) × (p < length bs → WellFormed false (body_in bs p))
unfolding all_written body_in Written
all-written n [] t p = (tt, λ h. absurd (omega arith))
all-written n (b ∷ bs) t zero =
    let (w, f) = written_of n false b (T_and (written n false b) (all_written n bs) t).0 in
    (w, λ _. f)
all-written n (b ∷ bs) t (suc p) =
    let (w, f) = all-written n bs (T_and (written n false b) (all_written n bs) t).1 p in
    (w, λ h. f (omega arith))

all-at : (f : ℕ → Bool) (ns : List ℕ) → T (all f ns) → (t : ℕ) → t < length ns → T (f (get_or ns t 0))
unfolding all
all-at f [] h t b = absurd (omega arith)
all-at f (n ∷ ns) h zero b = (T_and (f n) (all f ns) h).0
all-at f (n ∷ ns) h (suc t) b = all-at f ns (T_and (f n) (all f ns) h).1 t (omega arith)

all_mem : (f : ℕ → Bool) (ns : List ℕ) → T (all f ns) → (n : ℕ) → Memᴰ n ns → T (f n)
unfolding all
all_mem f [] h n m = absurd (Memᴰ.not-nil m)
all_mem f (x ∷ ns) h n m =
    let (a, b) = T_and (f x) (all f ns) h in
    ⊎_elim (λ (e : n ≡ x). subst (λ y. T (f y)) (sym e) a) (λ k. all_mem f ns b n k) (Memᴰ.cases_cons m)

set_of_lem : (us : List ℕ) (t : ℕ) → T (set_of us t) → Memᴰ t us
unfolding set_of
set_of_lem (u ∷ us) t h =
    ⊎_elim (λ a. Memᴰ.head (eqb→eq t u a)) (λ b. Memᴰ.tail (set_of_lem us t b)) (T-or (eqb t u) (set_of us t) h)
set_of_lem [] t h = elim h [ ]

pairs-from : (ps : List Block) (k : ℕ) (wss : List (List ℕ)) → T (pairs_from ps k wss) → (p : ℕ) → p < length wss
    → (k + p < length ps) × (pair_list ps (k + p) ≡ get_or wss p [])
unfolding pairs_from
pairs-from ps k [] t p b = absurd (omega arith)
pairs-from ps k (ws ∷ wss) t zero b =
    let (x, y) = T_and (ltb k (length ps)) (equal (pair_list ps k) ws && pairs_from ps (suc k) wss) t in
    let (y₁, _) = T_and (equal (pair_list ps k) ws) (pairs_from ps (suc k) wss) y in
    (omega (arith, ltb→lt k (length ps) x), rw add-zero (equal_is (pair_list ps k) ws (T_true (equal (pair_list ps k) ws) y₁)))
pairs-from ps k (ws ∷ wss) t (suc p) b =
    let (_, y) = T_and (ltb k (length ps)) (equal (pair_list ps k) ws && pairs_from ps (suc k) wss) t in
    let (_, y₂) = T_and (equal (pair_list ps k) ws) (pairs_from ps (suc k) wss) y in
    let e : suc k + p ≡ k + suc p = omega arith in
    let (l, is) = pairs-from ps (suc k) wss y₂ p (omega arith) in
    (omega arith, subst (λ n. pair_list ps n ≡ get_or wss p []) e is)

agree-is : (a b : Bool) → T (agree a b) → a ≡ b
agree-is true true t = refl
agree-is false false t = refl
agree-is false true t = elim t [ ]
agree-is true false t = elim t [ ]

same-below : (n : ℕ) (S R : ℕ → Bool) → T (same_below n S R) → (t : ℕ) → t < n → S t ≡ R t
unfolding same_below
same-below zero S R h t b = absurd (omega arith)
same-below (suc n) S R h t b =
    let (x, y) = T_and (agree (S n) (R n)) (same_below n S R) h in
    ⊎_elim (λ (e : t ≡ n). rw e (agree-is (S n) (R n) x)) (λ (l : t < n). same-below n S R y t l) (eq-or-lt_of_le (omega arith))

-- no procedure reaches itself
plan-ranks : (ps : List Block) → T (all_written (length ps) ps) → T (same_below (length ps) (λ p. reaches ps p p) (λ p. false)) → Ranks ps
plan-ranks ps w h =
    acyclic-ranks ps
    (λ p x. subst T (same-below (length ps) (λ p. reaches ps p p) (λ p. false) h p (reacher_present ps x)) ((reaches-is ps p p).1 x))
    (λ p. (all-written (length ps) ps w p).0) (λ p. (all-written (length ps) ps w p).1)

module _ (plan : LockPlan) (ranked : Ranked plan) where
  abbrev ps : List Block
  ps = plan.procs

  abbrev n : ℕ
  n = length plan.threads

  -- the stuck threads of a run that leads to ts are those of the list
  stuck_are_lem : (es us : List ℕ) → T (all (λ t. ltb t n) us) → T (stuck_are n ps us (run ps (start ps plan.threads) es))
      → length es ≤ thread_sizes plan → Schedule plan es (set_of us)
  unfolding stuck_are
  stuck_are_lem es us small h short = go (run ps (start ps plan.threads) es) refl h
    where
      go : (o : Option (List ThreadState)) → run ps (start ps plan.threads) es ≡ o → T (stuck_are n ps us o) → Schedule plan es (set_of us)
      go (some ts) e h =
          let bodies = plain_body ranked.ranks.sound in
          let (same, one) = T_and (same_below n (rounds n ps ts) (set_of us)) (any (rounds n ps ts) us) h in
          let m = run_invariant ps bodies (start ps plan.threads) ts es e (start_invariant ps bodies plan.threads) in
          let len : length ts ≡ n = run_length ps (start ps plan.threads) ts es e ∙ start-length ps plan.threads in
          let is : rounds n ps ts ≡ set_of us = fun_ext (λ t. ⊎_elim
          (λ (b : t < n). same-below n (rounds n ps ts) (set_of us) same t b)
          (λ (b : n ≤ t). same_test (rounds n ps ts t) (set_of us t)
          (λ r. absurd (omega (arith, rounds_in ps bodies ts m n t r)))
          (λ a. absurd (omega (arith, ltb→lt t n (all_mem (λ t. ltb t n) us small t (set_of_lem us t a))))))
          (lt_or_le t n)) in
          let (u, _, r) = any-is (rounds n ps ts) us one in
          record { there = ts; reached = e; largest = subst (Largest ps ts) is (rounds-largest ps bodies ts m n (omega arith) u r); short = short }
      go none e h = elim h [ ]

  expected-holds : (a : Expected) → T (answers plan a) → Holds plan a
  unfolding answers
  expected-holds free h = (plan-characterisation plan ranked).free.0 (T_not (conflicting (map (pair_list ps) plan.threads)) h)
  expected-holds (deadlock es us) h =
      let test = stuck_are n ps us (run ps (start ps plan.threads) es) in
      let (short, y) = T_and (leb (length es) (thread_sizes plan)) (all (λ t. ltb t n) us && test) h in
      let (small, ends) = T_and (all (λ t. ltb t n) us) test y in
      stuck_are_lem es us small ends (leb→le (length es) (thread_sizes plan) short)

-- a case that passes
pub passes-facts : (plan : LockPlan) (pairs : List (List ℕ)) (a : Expected) → T (passes plan pairs a) → CaseFacts plan pairs a
unfolding passes
passes-facts plan pairs a h =
    let ps = plan.procs in
    let ns = plan.threads in
    let t₄ = answers plan a in
    let t₃ = pairs_from ps 0 pairs && t₄ in
    let t₂ = leb (length ns) 8 && t₃ in
    let t₁ = all (λ n. ltb n (length ps)) ns && t₂ in
    let none = same_below (length ps) (λ p. reaches ps p p) (λ p. false) in
    let (w, k) = T_and (all_written (length ps) ps) (none && t₁) h in
    let (h₀, k₁) = T_and none t₁ k in
    let (h₁, k₂) = T_and (all (λ n. ltb n (length ps)) ns) t₂ k₁ in
    let (h₂, k₃) = T_and (leb (length ns) 8) t₃ k₂ in
    let (h₃, h₄) = T_and (pairs_from ps 0 pairs) t₄ k₃ in
    let ranks = plan-ranks ps w h₀ in
    let ranked : Ranked plan = record {
      ranks = ranks;
      there = λ t b. ltb→lt (get_or ns t 0) (length ps) (all-at (λ n. ltb n (length ps)) ns h₁ t b);
      few = leb→le (length ns) 8 h₂;
    } in
    let same : (p : ℕ) → p < length pairs → (p < length ps) × (pair_list ps p ≡ get_or pairs p []) =
    λ p b. rw zero-add at (pairs-from ps 0 pairs h₃ p b) in
    record {
      listed = λ p b. sym (same p b).1;
      critical = λ p b w. rw (← (same p b).1) (pair_list-critical ps ranks.rank ranks.sound p (ranks.below p (same p b).0) w);
      expected = expected-holds plan ranked a h₄;
    }
