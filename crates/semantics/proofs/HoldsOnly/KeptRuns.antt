-- The gateway of a plan without share under the widened rule runs as it did under 01's: a state is the same with its locks claimed by hold and no share counted (`widened`), and
-- each step, run, stuck set and schedule is one of the other.
use Prim.Native.Nat.{ℕ, zero, suc, ◌+◌, ◌-◌, ◌/◌, ◌%◌, ◌≤◌, ◌<◌}
use mathlib.Core.List.{List, [], ◌∷◌, ◌++◌, map}
use mathlib.Core.Bool.{Bool, true, false, not, ◌&&◌, cond}
use mathlib.Core.Logic.{◌⊎◌, inl, inr, ⊎_elim, ◌↔◌}
use mathlib.Core.Option
use mathlib.Core.Option.{Option, none, some, bind, map-eq-none_iff, map-eq-some_iff, some-injective, none-ne-some}
use mathlib.Core.Path.{◌≡◌, refl, sym, ap, ap₂, ◌∙◌, subst, fun_ext}
use native.Mathlib.Nat.{not-suc-le-zero, add-zero, add-suc}
use native.Mathlib.Omega.{arith}
use lib.ListN.{length, get_or, set, replicate, length-map, get_or-eq_default}
use lib.Dec.{T, eqb, ltb, ltb→lt, lt→ltb, T_not, not_T}
use Rattle.limits.specs.Limits.{lock_count}
use Rattle.laws.specs.Sums.{total}
use Rattle.laws.proofs.Tests.{T_and, and_T, T-dec, same_test, bind_inv, lt_or_le}
use Rattle.semantics.specs.Plan.{Block, done, skip, call, hold, loop, either, end, ◌⨾◌, body_in, LockPlan, thread_proc}
use Rattle.semantics.specs.Sizes.{size_with, size_at, size_of, thread_size, thread_sizes}
use Rattle.semantics.specs.Run.{ThreadState, thread, up, down, move, compatible, with_all, apart, others, everyone, thread_at, step_in, step, run, start}
use Rattle.semantics.specs.Stuck.{Stuck, Largest, DeadlockFree, Schedule}
use Rattle.semantics.specs.HoldsOnly.{compatible01, with_all01, apart01, step_in01, run01, unlocked01, start01, Stuck01, Largest01, DeadlockFree01, Schedule01}
use Rattle.semantics.specs.Claims.{by_hold}
use Rattle.semantics.proofs.Ground.Claims.{share-is, hold-is, Against, share-hold, hold-hold, hold-share}
use Rattle.semantics.proofs.Thread.Remainders.{length_up, length-down}
use Rattle.semantics.proofs.Thread.Transitions.{Transition, skips, calls, begins, ends, enters, leaves, takes_one, takes_two, move_transition}
use Rattle.semantics.proofs.Gateway.Compatible.{HasClaim, Excludes, compatible_or_contended, compatible_not_contended}

-- ---- a plan of 01 with its holds as claims

-- the claim by hold on a lock below 32
abbrev pub wider_lock : ℕ → ℕ
wider_lock l = l + lock_count

-- each hold of lock l as the claim on l by hold
unfoldable pub claimed : Block → Block
claimed done = done
claimed (skip r) = skip (claimed r)
claimed (call p r) = call p (claimed r)
claimed (hold l b r) = hold (wider_lock l) (claimed b) (claimed r)
claimed (loop b r) = loop (claimed b) (claimed r)
claimed (either a b r) = either (claimed a) (claimed b) (claimed r)
claimed (end l r) = end (wider_lock l) (claimed r)

abbrev pub claimed_plan : LockPlan → LockPlan
claimed_plan plan = record { procs = map claimed plan.procs; threads = plan.threads }

-- ---- counts with none of the shares

-- the counts of locks as counts of claims by hold, where the n claims before them have none
unfoldable pub after : ℕ → List ℕ → List ℕ
after n cs = replicate n 0 ++ cs

abbrev pub widen : List ℕ → List ℕ
widen cs = after lock_count cs

pub after-at : (n : ℕ) (cs : List ℕ) (l : ℕ) → get_or (after n cs) (l + n) 0 ≡ get_or cs l 0
unfolding after
after-at zero cs l = ap (λ k. get_or cs k 0) (add-zero l)
after-at (suc n) cs l = rw (add-suc l n) (after-at n cs l)

pub after-below : (n : ℕ) (cs : List ℕ) (l : ℕ) → l < n → get_or (after n cs) l 0 ≡ 0
unfolding after
after-below zero cs l b = absurd (not-suc-le-zero b)
after-below (suc n) cs zero b = refl
after-below (suc n) cs (suc l) b = after-below n cs l (omega arith)

after-set : (n : ℕ) (cs : List ℕ) (l x : ℕ) → set (after n cs) (l + n) x ≡ after n (set cs l x)
unfolding after
after-set zero cs l x = ap (λ k. set cs k x) (add-zero l)
after-set (suc n) cs l x = rw (add-suc l n) (ap (λ ds. 0 ∷ ds) (after-set n cs l x))

pub widen-up : (l : ℕ) (cs : List ℕ) → up (wider_lock l) (widen cs) ≡ widen (up l cs)
unfolding up
widen-up l cs = rw (after-at lock_count cs l) (after-set lock_count cs l (get_or cs l 0 + 1))

pub widen-down : (l : ℕ) (cs : List ℕ) → down (wider_lock l) (widen cs) ≡ widen (down l cs)
unfolding down
widen-down l cs = rw (after-at lock_count cs l) (after-set lock_count cs l (get_or cs l 0 - 1))

pub widen-unlocked : widen unlocked01 ≡ replicate 64 0
unfolding after
widen-unlocked = refl

-- ---- which counts are compatible

contended01 : (cs ds : List ℕ) → T (compatible01 cs ds) ⊎ ((l : ℕ) × HasClaim cs l × HasClaim ds l)
unfolding compatible01
contended01 [] ds = inl tt
contended01 (c ∷ cs) [] = inl tt
contended01 (c ∷ cs) (d ∷ ds) =
    ⊎_elim
    (λ (h : T (ltb 0 c && ltb 0 d)). let (x, y) = T_and (ltb 0 c) (ltb 0 d) h in inr (0, ltb→lt 0 c x, ltb→lt 0 d y))
    (λ (n : T (ltb 0 c && ltb 0 d) → ⊥).
    ⊎_elim (λ t. inl (and_T (not (ltb 0 c && ltb 0 d)) (compatible01 cs ds) (not_T (ltb 0 c && ltb 0 d) n) t))
    (λ (r : (l : ℕ) × HasClaim cs l × HasClaim ds l). inr (suc r.0, r.1, r.2)) (contended01 cs ds))
    (T-dec (ltb 0 c && ltb 0 d))

not-contended01 : (cs ds : List ℕ) → T (compatible01 cs ds) → (l : ℕ) → HasClaim cs l → HasClaim ds l → ⊥
unfolding compatible01
not-contended01 [] ds t l g h = not-suc-le-zero g
not-contended01 (c ∷ cs) [] t l g h = not-suc-le-zero h
not-contended01 (c ∷ cs) (d ∷ ds) t zero g h =
    let (x, _) = T_and (not (ltb 0 c && ltb 0 d)) (compatible01 cs ds) t in
    T_not (ltb 0 c && ltb 0 d) x (and_T (ltb 0 c) (ltb 0 d) (lt→ltb 0 c g) (lt→ltb 0 d h))
not-contended01 (c ∷ cs) (d ∷ ds) t (suc l) g h =
    not-contended01 cs ds (T_and (not (ltb 0 c && ltb 0 d)) (compatible01 cs ds) t).1 l g h

-- a lock that is had is one of those that are counted
had_in : (cs : List ℕ) (l : ℕ) → HasClaim cs l → l < length cs
had_in cs l h = ⊎_elim (λ b. b) (λ (b : length cs ≤ l). absurd (omega (arith, h, get_or-eq_default cs 0 b))) (lt_or_le l (length cs))

compatible-widen : (cs ds : List ℕ) → length ds ≤ lock_count → compatible (widen cs) (widen ds) ≡ compatible01 cs ds
unfolding Excludes
compatible-widen cs ds short = same_test (compatible (widen cs) (widen ds)) (compatible01 cs ds)
    (λ t. ⊎_elim (λ s. s)
    (λ (q : (l : ℕ) × HasClaim cs l × HasClaim ds l).
    let l = q.0 in
    let h : HasClaim (widen cs) (wider_lock l) = rw (after-at lock_count cs l) q.1 in
    let g : HasClaim (widen ds) (wider_lock l) = rw (after-at lock_count ds l) q.2 in
    let b : l < lock_count = omega (arith, had_in ds l q.2) in
    let is : wider_lock l ≡ by_hold l = sym (hold-is l b) in
    absurd (compatible_not_contended (widen cs) (widen ds) t (wider_lock l) h (hold-hold l b is (subst (HasClaim (widen ds)) is g))))
    (contended01 cs ds))
    (λ t. ⊎_elim (λ s. s) (λ (q : (a : ℕ) × HasClaim (widen cs) a × Excludes (widen ds) a). absurd (against t q.0 q.1 q.2))
    (compatible_or_contended (widen cs) (widen ds)))
  where
    against : T (compatible01 cs ds) → (a : ℕ) → HasClaim (widen cs) a → Against (HasClaim (widen ds)) a → ⊥
    against t a h (share-hold l b e p) = omega (arith, subst (HasClaim (widen cs)) (e ∙ share-is l b) h, after-below lock_count cs l b)
    against t a h (hold-hold l b e p) =
        let g : HasClaim (widen cs) (wider_lock l) = subst (HasClaim (widen cs)) (e ∙ hold-is l b) h in
        let q : HasClaim (widen ds) (wider_lock l) = subst (HasClaim (widen ds)) (hold-is l b) p in
        not-contended01 cs ds t l (rw (after-at lock_count cs l) at g) (rw (after-at lock_count ds l) at q)
    against t a h (hold-share l b e p) = omega (arith, subst (HasClaim (widen ds)) (share-is l b) p, after-below lock_count ds l b)

-- ---- states

-- the same state, its locks claimed by hold
abbrev pub widened : ThreadState → ThreadState
widened x = thread (claimed x.rest) (widen x.count)

abbrev pub widened_all : List ThreadState → List ThreadState
widened_all ts = map widened ts

-- each thread has no more counts than there are locks
unfoldable pub Short : List ThreadState → Type 0
Short [] = Unit {0}
Short (t ∷ ts) = (length t.count ≤ lock_count) × Short ts

with_widened : (S : ℕ → Bool) (cs : List ℕ) (ts : List ThreadState) → Short ts → with_all S (widen cs) (widened_all ts) ≡ with_all01 S cs ts
unfolding with_all with_all01 Short
with_widened S cs [] h = refl
with_widened S cs (t ∷ ts) h = rw (compatible-widen cs t.count h.0, with_widened (others S) cs ts h.1)

apart-widened : (S : ℕ → Bool) (ts : List ThreadState) → Short ts → apart S (widened_all ts) ≡ apart01 S ts
unfolding apart apart01 Short
apart-widened S [] h = refl
apart-widened S (t ∷ ts) h = rw (with_widened (others S) t.count ts h.1, apart-widened (others S) ts h.1)

pub claimed_⨾ : (a b : Block) → claimed (a ⨾ b) ≡ claimed a ⨾ claimed b
unfolding claimed ◌⨾◌
claimed_⨾ done b = refl
claimed_⨾ (skip r) b = ap skip (claimed_⨾ r b)
claimed_⨾ (call p r) b = ap (call p) (claimed_⨾ r b)
claimed_⨾ (hold l x r) b = ap (hold (wider_lock l) (claimed x)) (claimed_⨾ r b)
claimed_⨾ (loop x r) b = ap (loop (claimed x)) (claimed_⨾ r b)
claimed_⨾ (either x y r) b = ap (either (claimed x) (claimed y)) (claimed_⨾ r b)
claimed_⨾ (end l r) b = ap (end (wider_lock l)) (claimed_⨾ r b)

pub claimed-body : (ps : List Block) (p : ℕ) → body_in (map claimed ps) p ≡ claimed (body_in ps p)
unfolding body_in claimed
claimed-body [] p = refl
claimed-body (b ∷ ps) zero = refl
claimed-body (b ∷ ps) (suc p) = claimed-body ps p

-- a choice between two outcomes
map-cond : {A B : Type 0} (f : A → B) (t : Bool) (x y : Option A) → Option.map f (cond t x y) ≡ cond t (Option.map f x) (Option.map f y)
map-cond f true x y = refl
map-cond f false x y = refl

module _ (ps : List Block) where
  abbrev qs : List Block
  qs = map claimed ps

  -- a step of a thread by itself
  move-widened : (c : ℕ) (b : Block) (cs : List ℕ) → move qs c (claimed b) (widen cs) ≡ Option.map widened (move ps c b cs)
  unfolding move claimed
  move-widened c done cs = refl
  move-widened c (skip r) cs = sym (map-cond widened (eqb c 0) (some (thread r cs)) none)
  move-widened c (call p r) cs = rw (claimed-body ps p, ← claimed_⨾ (body_in ps p) r) (sym (map-cond widened (eqb c 0) (some (thread (body_in ps p ⨾ r) cs)) none))
  move-widened c (hold l b r) cs =
      let e : claimed b ⨾ end (wider_lock l) (claimed r) ≡ claimed (b ⨾ end l r) = sym (claimed_⨾ b (end l r)) in
      rw (e, widen-up l cs) (sym (map-cond widened (eqb c 0) (some (thread (b ⨾ end l r) (up l cs))) none))
  move-widened c (end l r) cs = rw (widen-down l cs) (sym (map-cond widened (eqb c 0) (some (thread r (down l cs))) none))
  move-widened c (loop b r) cs =
      let e : claimed b ⨾ loop (claimed b) (claimed r) ≡ claimed (b ⨾ loop b r) = sym (claimed_⨾ b (loop b r)) in
      rw e (sym (map-cond widened (eqb c 1) (some (thread (b ⨾ loop b r) cs)) (cond (eqb c 2) (some (thread r cs)) none)
      ∙ ap (cond (eqb c 1) (some (widened (thread (b ⨾ loop b r) cs)))) (map-cond widened (eqb c 2) (some (thread r cs)) none)))
  move-widened c (either a b r) cs =
      let e : claimed a ⨾ claimed r ≡ claimed (a ⨾ r) = sym (claimed_⨾ a r) in
      let f : claimed b ⨾ claimed r ≡ claimed (b ⨾ r) = sym (claimed_⨾ b r) in
      rw (e, f) (sym (map-cond widened (eqb c 1) (some (thread (a ⨾ r) cs)) (cond (eqb c 2) (some (thread (b ⨾ r) cs)) none)
      ∙ ap (cond (eqb c 1) (some (widened (thread (a ⨾ r) cs)))) (map-cond widened (eqb c 2) (some (thread (b ⨾ r) cs)) none)))

  length-move : (c : ℕ) (b : Block) (cs : List ℕ) (y : ThreadState) → move ps c b cs ≡ some y → length y.count ≡ length cs
  length-move c b cs y m = go (move_transition ps c b cs y m)
    where
      go : {c : ℕ} {b b' : Block} {cs cs' : List ℕ} → Transition ps c b cs b' cs' → length cs' ≡ length cs
      go skips = refl
      go calls = refl
      go (begins {l} {cs = cs}) = length_up l cs
      go (ends {l} {cs = cs}) = length-down l cs
      go enters = refl
      go leaves = refl
      go takes_one = refl
      go takes_two = refl

  thread-widened : (ts : List ThreadState) (t : ℕ) → thread_at (widened_all ts) t ≡ Option.map widened (thread_at ts t)
  unfolding thread_at
  thread-widened [] t = refl
  thread-widened (x ∷ ts) zero = refl
  thread-widened (x ∷ ts) (suc t) = thread-widened ts t

  set_widened : (ts : List ThreadState) (t : ℕ) (y : ThreadState) → set (widened_all ts) t (widened y) ≡ widened_all (set ts t y)
  set_widened [] t y = refl
  set_widened (x ∷ ts) zero y = refl
  set_widened (x ∷ ts) (suc t) y = ap (λ us. widened x ∷ us) (set_widened ts t y)

  short-at : (ts : List ThreadState) (t : ℕ) (x : ThreadState) → Short ts → thread_at ts t ≡ some x → length x.count ≤ lock_count
  unfolding Short thread_at
  short-at [] t x h e = absurd (none-ne-some x e)
  short-at (y ∷ ts) zero x h e = subst (λ z. length z.count ≤ lock_count) (some-injective y x e) h.0
  short-at (y ∷ ts) (suc t) x h e = short-at ts t x h.1 e

  short-set : (ts : List ThreadState) (t : ℕ) (y : ThreadState) → Short ts → length y.count ≤ lock_count → Short (set ts t y)
  unfolding Short
  short-set [] t y h b = h
  short-set (x ∷ ts) zero y h b = (b, h.1)
  short-set (x ∷ ts) (suc t) y h b = (h.0, short-set ts t y h.1 b)

  -- a step of a thread among others
  step-widened : (S : ℕ → Bool) (ts : List ThreadState) (t c : ℕ) → Short ts → step_in S qs (widened_all ts) t c ≡ Option.map widened_all (step_in01 S ps ts t c)
  unfolding step_in step_in01 bind
  step-widened S ts t c h = rw (thread-widened ts t) (at-thread (thread_at ts t) refl)
    where
      at-move : (x : ThreadState) → thread_at ts t ≡ some x → (o : Option ThreadState) → move ps c x.rest x.count ≡ o
          → bind (Option.map widened o) (λ y. cond (apart S (set (widened_all ts) t y)) (some (set (widened_all ts) t y)) none)
          ≡ Option.map widened_all (bind o (λ y. cond (apart01 S (set ts t y)) (some (set ts t y)) none))
      at-move x e none m = refl
      at-move x e (some y) m =
          let s : Short (set ts t y) = short-set ts t y h (omega (arith, length-move c x.rest x.count y m, short-at ts t x h e)) in
          rw (set_widened ts t y, apart-widened S (set ts t y) s) (sym (map-cond widened_all (apart01 S (set ts t y)) (some (set ts t y)) none))

      at-thread : (o : Option ThreadState) → thread_at ts t ≡ o
          → bind (Option.map widened o) (λ x. bind (move qs c x.rest x.count) (λ y. cond (apart S (set (widened_all ts) t y)) (some (set (widened_all ts) t y)) none))
          ≡ Option.map widened_all (bind o (λ x. bind (move ps c x.rest x.count) (λ y. cond (apart01 S (set ts t y)) (some (set ts t y)) none)))
      at-thread none e = refl
      at-thread (some x) e = rw (move-widened c x.rest x.count) (at-move x e (move ps c x.rest x.count) refl)

  short-step : (S : ℕ → Bool) (ts ts' : List ThreadState) (t c : ℕ) → Short ts → step_in01 S ps ts t c ≡ some ts' → Short ts'
  unfolding step_in01
  short-step S ts ts' t c h e =
      let (x, a, f) = bind_inv (thread_at ts t) (λ x. bind (move ps c x.rest x.count) (λ y. cond (apart01 S (set ts t y)) (some (set ts t y)) none)) ts' e in
      let (y, m, g) = bind_inv (move ps c x.rest x.count) (λ y. cond (apart01 S (set ts t y)) (some (set ts t y)) none) ts' f in
      taken (apart01 S (set ts t y)) (set ts t y) g (short-set ts t y h (omega (arith, length-move c x.rest x.count y m, short-at ts t x h a)))
    where
      taken : (b : Bool) (us : List ThreadState) → cond b (some us) none ≡ some ts' → Short us → Short ts'
      taken true us e s = subst Short (some-injective us ts' e) s
      taken false us e s = absurd (none-ne-some ts' e)

  -- a run
  run-widened : (ts : List ThreadState) (es : List ℕ) → Short ts → run qs (widened_all ts) es ≡ Option.map widened_all (run01 ps ts es)
  unfolding run run01 step bind
  run-widened ts [] h = refl
  run-widened ts (e ∷ es) h = rw (step-widened everyone ts (e % 8) (e / 8) h) (go (λ us s. run-widened us es s) (step_in01 everyone ps ts (e % 8) (e / 8)) refl)
    where
      go : ((us : List ThreadState) → Short us → run qs (widened_all us) es ≡ Option.map widened_all (run01 ps us es))
          → (o : Option (List ThreadState)) → step_in01 everyone ps ts (e % 8) (e / 8) ≡ o
          → bind (Option.map widened_all o) (λ us. run qs us es) ≡ Option.map widened_all (bind o (λ us. run01 ps us es))
      go later none f = refl
      go later (some us) f = later us (short-step everyone ts us (e % 8) (e / 8) h f)

  short-run : (ts ts' : List ThreadState) (es : List ℕ) → Short ts → run01 ps ts es ≡ some ts' → Short ts'
  unfolding run01
  short-run ts ts' [] h e = subst Short (some-injective ts ts' e) h
  short-run ts ts' (x ∷ es) h e =
      let (us, a, f) = bind_inv (step_in01 everyone ps ts (x % 8) (x / 8)) (λ us. run01 ps us es) ts' e in
      short-run us ts' es (short-step everyone ts us (x % 8) (x / 8) h a) f

  -- the start
  start-widened : (ns : List ℕ) → start qs ns ≡ widened_all (start01 ps ns)
  unfolding start start01 after
  start-widened [] = refl
  start-widened (n ∷ ns) = ap₂ {C = List ThreadState} (λ x xs. x ∷ xs) (ap (λ b. thread b (replicate 64 0)) (claimed-body ps n)) (start-widened ns)

  start-short : (ns : List ℕ) → Short (start01 ps ns)
  unfolding start01 Short
  start-short [] = tt
  start-short (n ∷ ns) = (omega arith, start-short ns)

  -- ---- what is stuck

  stuck-widened : (ts : List ThreadState) (S : ℕ → Bool) → Short ts → Stuck01 ps ts S → Stuck qs (widened_all ts) S
  stuck-widened ts S h st = record {
    two = st.two;
    able = λ t s. let (c, x, y, a, m) = st.able t s in (
      c,
      widened x,
      widened y,
      thread-widened ts t ∙ ap (Option.map widened) a,
      move-widened c x.rest x.count ∙ ap (Option.map widened) m,
    );
    barred = λ t c s. step-widened S ts t c h ∙ ap (Option.map widened_all) (st.barred t c s);
  }

  widened-stuck : (ts : List ThreadState) (S : ℕ → Bool) → Short ts → Stuck qs (widened_all ts) S → Stuck01 ps ts S
  widened-stuck ts S h st = record {
    two = st.two;
    able = λ t s.
        let (c, x, y, a, m) = st.able t s in
        let (x₁, a₁, e) = (map-eq-some_iff widened (thread_at ts t)).0 (sym (thread-widened ts t) ∙ a) in
        let m₁ : move qs c (claimed x₁.rest) (widen x₁.count) ≡ some y = subst (λ z. move qs c z.rest z.count ≡ some y) (sym e) m in
        let (y₁, m₂, _) = (map-eq-some_iff widened (move ps c x₁.rest x₁.count)).0 (sym (move-widened c x₁.rest x₁.count) ∙ m₁) in
        (c, x₁, y₁, a₁, m₂);
    barred = λ t c s. (map-eq-none_iff widened_all (step_in01 S ps ts t c)).0 (sym (step-widened S ts t c h) ∙ st.barred t c s);
  }

  pub largest-kept : (ts : List ThreadState) (S : ℕ → Bool) → Short ts → Largest01 ps ts S ↔ Largest qs (widened_all ts) S
  largest-kept ts S h = (
    λ l. record { stuck = stuck-widened ts S h l.stuck; contains = λ S' st. l.contains S' (widened-stuck ts S' h st) },
    λ l. record { stuck = widened-stuck ts S h l.stuck; contains = λ S' st. l.contains S' (stuck-widened ts S' h st) },
  )

  -- ---- a run from the start, and back

  pub run-kept : (ns es : List ℕ) (ts : List ThreadState) → run01 ps (start01 ps ns) es ≡ some ts → (run qs (start qs ns) es ≡ some (widened_all ts)) × Short ts
  run-kept ns es ts e = (
    ap (λ us. run qs us es) (start-widened ns) ∙ run-widened (start01 ps ns) es (start-short ns) ∙ ap (Option.map widened_all) e,
    short-run (start01 ps ns) ts es (start-short ns) e,
  )

  pub kept_run : (ns es : List ℕ) (us : List ThreadState) → run qs (start qs ns) es ≡ some us
      → (ts : List ThreadState) × (run01 ps (start01 ps ns) es ≡ some ts) × (widened_all ts ≡ us)
  kept_run ns es us e =
      (map-eq-some_iff widened_all (run01 ps (start01 ps ns) es)).0
      (sym (run-widened (start01 ps ns) es (start-short ns)) ∙ ap (λ ts. run qs ts es) (sym (start-widened ns)) ∙ e)

  pub free-kept : (ns : List ℕ) → DeadlockFree01 ps ns ↔ DeadlockFree qs ns
  free-kept ns = (
    λ free es us S e st.
        let (ts, a, f) = kept_run ns es us e in
        free es ts S a (widened-stuck ts S (run-kept ns es ts a).1 (subst (λ xs. Stuck qs xs S) (sym f) st)),
    λ free es ts S e st. let (a, h) = run-kept ns es ts e in free es (widened_all ts) S a (stuck-widened ts S h st),
  )

-- ---- sizes, and schedules

size-claimed : (s r : ℕ → ℕ) → ((p : ℕ) → s p ≡ r p) → (b : Block) → size_with s (claimed b) ≡ size_with r b
unfolding size_with claimed
size-claimed s r e done = refl
size-claimed s r e (skip x) = ap (λ n. 1 + n) (size-claimed s r e x)
size-claimed s r e (call p x) = rw (e p, size-claimed s r e x)
size-claimed s r e (hold l b x) = rw (size-claimed s r e b, size-claimed s r e x)
size-claimed s r e (loop b x) = rw (size-claimed s r e b, size-claimed s r e x)
size-claimed s r e (either a b x) = rw (size-claimed s r e a, size-claimed s r e b, size-claimed s r e x)
size-claimed s r e (end l x) = ap (λ n. 1 + n) (size-claimed s r e x)

pub size_at-claimed : (d : ℕ) (ps : List Block) (p : ℕ) → size_at d (map claimed ps) p ≡ size_at d ps p
unfolding size_at
size_at-claimed zero ps p = refl
size_at-claimed (suc d) ps p = rw (claimed-body ps p) (size-claimed (size_at d (map claimed ps)) (size_at d ps) (size_at-claimed d ps) (body_in ps p))

sizes-claimed : (plan : LockPlan) → thread_sizes (claimed_plan plan) ≡ thread_sizes plan
unfolding thread_sizes thread_size size_of
sizes-claimed plan =
    ap (total (length plan.threads)) (fun_ext (λ t. rw (length-map plan.procs claimed) (size_at-claimed (length plan.procs) plan.procs (thread_proc plan t))))

pub schedule-kept : (plan : LockPlan) (es : List ℕ) (S : ℕ → Bool) → Schedule01 plan es S ↔ Schedule (claimed_plan plan) es S
schedule-kept plan es S = (
  λ s. let (a, h) = run-kept plan.procs plan.threads es s.there s.reached in
      record {
        there = widened_all s.there;
        reached = a;
        largest = (largest-kept plan.procs s.there S h).0 s.largest;
        short = rw (sizes-claimed plan) s.short;
      },
  λ s. let (ts, a, f) = kept_run plan.procs plan.threads es s.there s.reached in
      record {
        there = ts;
        reached = a;
        largest = (largest-kept plan.procs ts S (run-kept plan.procs plan.threads es ts a).1).1
            (subst (λ xs. Largest (map claimed plan.procs) xs S) (sym f) s.largest);
        short = rw (sizes-claimed plan) at s.short;
      },
)
