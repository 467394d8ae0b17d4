-- The pairs of a plan without share are those that it had, written as records; with `KeptRuns`, it keeps its answers (`answers-kept`).
use Prim.Native.Nat.{ℕ, zero, suc, ◌+◌, ◌-◌, ◌*◌, ◌/◌, ◌%◌, ◌^◌, ◌<◌, ◌≤◌}
use mathlib.Core.List.Memᴰ
use mathlib.Core.List.{List, [], ◌∷◌, ◌++◌, map, map-append, Memᴰ}
use mathlib.Core.Bool.{Bool, true, false, not, cond}
use mathlib.Core.Logic.{◌↔◌, ⊎_elim}
use mathlib.Core.Path.{◌≡◌, refl, sym, ap, ap₂, ◌∙◌, subst}
use native.Mathlib.Omega.{arith}
use native.Mathlib.Nat.{add-zero, zero-add, zero-mul}
use lib.Bits.{bit_and, and_block, and_zero_r, or_zero_r}
use lib.ListN.{length, get_or, length-map}
use lib.Dec.{eqb, ltb}
use borrow.Author.Tests.{lt-ltb, ne_eqb}
use Rattle.limits.specs.Limits.{lock_count, claim_count}
use Rattle.laws.specs.Mask.{bit}
use Rattle.laws.proofs.Bits.{bit-above}
use Rattle.laws.proofs.Tests.{only}
use Rattle.laws.proofs.Ascending.{ascending-map, mem_ascending}
use Rattle.semantics.specs.Claims.{word_claim, fresh_to}
use Rattle.semantics.specs.Sizes.{size_of}
use Rattle.semantics.specs.Conflict.{bars, CompatibleIn, ExcludesIn}
use Rattle.semantics.specs.Plan.{Block, done, skip, call, hold, loop, either, end, body_in, LockPlan}
use Rattle.semantics.specs.Run.{up}
use Rattle.semantics.specs.Stuck.{DeadlockFree, Schedule}
use Rattle.semantics.specs.Pairs.{had_from, had, had_of, wanted_of, pair_of, fresh, pair_at, pairs_with, pairs_at, pair_list}
use Rattle.semantics.specs.HoldsOnly.{unlocked01, DeadlockFree01, Schedule01, pair_at01, pairs_with01, pairs_at01, pair_list01}
use Rattle.semantics.specs.HoldsOnly.{WithoutShare, locked, locked_plan, as_record, Crosses01, AnswersKept}
use Rattle.semantics.proofs.Ground.Claims.{hold-is, hold-way, hold-lock}
use Rattle.semantics.proofs.Ground.LockSets.{shift, held_lt}
use Rattle.semantics.proofs.Thread.Remainders.{length_up}
use Rattle.semantics.proofs.HoldsOnly.KeptRuns.{wider_lock, after, widen, after-at, widen-up, widen-unlocked, claimed, claimed_plan, claimed-body, free-kept, size_at-claimed, schedule-kept}

-- ---- one pair

held_after : (n k : ℕ) (cs : List ℕ) → had_from k (after n cs) ≡ had_from (k + n) cs
unfolding had_from after
held_after zero k cs = ap (λ i. had_from i cs) (sym (add-zero k))
held_after (suc n) k cs = zero-add (had_from (k + 1) (after n cs)) ∙ held_after n (k + 1) cs ∙ ap (λ i. had_from i cs) (omega arith)

held-widen : (cs : List ℕ) → had (widen cs) ≡ had cs * 2 ^ lock_count
held-widen cs = held_after lock_count 0 cs ∙ shift lock_count cs

no_count : (n : ℕ) → not (ltb 0 n) ≡ eqb n 0
no_count zero = refl
no_count (suc n) = rw (lt-ltb 0 (suc n) (omega arith), ne_eqb (suc n) 0 (λ e. omega arith))

fresh-widen : (cs : List ℕ) (l : ℕ) → l < lock_count → fresh (widen cs) (wider_lock l) ≡ eqb (get_or cs l 0) 0
unfolding fresh_to
fresh-widen cs l b = rw (← hold-is l b, hold-way l, hold-lock l, hold-is l b, after-at lock_count cs l) (no_count (get_or cs l 0))

-- a pair's word as a record
as_record_lem : (m l : ℕ) → l < lock_count → pair_of (m * 2 ^ lock_count) (wider_lock l) ≡ as_record (m * 32 + l)
as_record_lem m l b =
    let claim : wider_lock l % lock_count ≡ l = omega arith in
    let way : wider_lock l / lock_count ≡ 1 = omega arith in
    let set : (m * 32 + l) / 32 ≡ m = omega arith in
    let last : (m * 32 + l) % 32 ≡ l = omega arith in
    rw (claim, way, set, last, add-zero)

pair_at-kept : (cs : List ℕ) (l : ℕ) → l < lock_count → pair_at (widen cs) (wider_lock l) ≡ map as_record (pair_at01 cs l)
pair_at-kept cs l b = rw (fresh-widen cs l b, held-widen cs) (go (eqb (get_or cs l 0) 0))
  where
    go : (t : Bool) → cond t (pair_of (had cs * 2 ^ lock_count) (wider_lock l) ∷ []) [] ≡ map as_record (cond t ((had cs * 32 + l) ∷ []) [])
    go true = ap (λ w. w ∷ []) (as_record_lem (had cs) l b)
    go false = refl

-- ---- those of a block, and of a procedure

-- each lock is below 32 (rule 6), and no hold has begun
unfoldable LocksIn : Block → Type 0
LocksIn done = Unit {0}
LocksIn (skip r) = LocksIn r
LocksIn (call p r) = LocksIn r
LocksIn (hold l b r) = (l < lock_count) × LocksIn b × LocksIn r
LocksIn (loop b r) = LocksIn b × LocksIn r
LocksIn (either a b r) = LocksIn a × LocksIn b × LocksIn r
LocksIn (end l r) = ⊥

append_kept : (xs ys : List ℕ) (us vs : List ℕ) → xs ≡ map as_record us → ys ≡ map as_record vs → xs ++ ys ≡ map as_record (us ++ vs)
append_kept xs ys us vs e f = ap₂ (λ a b. a ++ b) e f ∙ sym (map-append as_record us vs)

module _ (g f : ℕ → List ℕ → List ℕ) (called : (p : ℕ) (cs : List ℕ) → g p (widen cs) ≡ map as_record (f p cs)) where
  pairs_with-kept : (cs : List ℕ) (b : Block) → LocksIn b → pairs_with g (widen cs) (claimed b) ≡ map as_record (pairs_with01 f cs b)
  unfolding pairs_with pairs_with01 claimed LocksIn
  pairs_with-kept cs done w = refl
  pairs_with-kept cs (skip r) w = pairs_with-kept cs r w
  pairs_with-kept cs (call p r) w = append_kept _ _ (f p cs) (pairs_with01 f cs r) (called p cs) (pairs_with-kept cs r w)
  pairs_with-kept cs (hold l b r) w =
      append_kept _ _ (pair_at01 cs l) (pairs_with01 f (up l cs) b ++ pairs_with01 f cs r) (pair_at-kept cs l w.0)
      (append_kept _ _ (pairs_with01 f (up l cs) b) (pairs_with01 f cs r)
      (ap (λ ds. pairs_with g ds (claimed b)) (widen-up l cs) ∙ pairs_with-kept (up l cs) b w.1) (pairs_with-kept cs r w.2))
  pairs_with-kept cs (loop b r) w = append_kept _ _ (pairs_with01 f cs b) (pairs_with01 f cs r) (pairs_with-kept cs b w.0) (pairs_with-kept cs r w.1)
  pairs_with-kept cs (either a b r) w =
      append_kept _ _ (pairs_with01 f cs a) (pairs_with01 f cs b ++ pairs_with01 f cs r) (pairs_with-kept cs a w.0)
      (append_kept _ _ (pairs_with01 f cs b) (pairs_with01 f cs r) (pairs_with-kept cs b w.1) (pairs_with-kept cs r w.2))
  pairs_with-kept cs (end l r) w = absurd w

module _ (ps : List Block) (locks : (p : ℕ) → LocksIn (body_in ps p)) where
  pairs_at-kept : (d p : ℕ) (cs : List ℕ) → pairs_at d (map claimed ps) p (widen cs) ≡ map as_record (pairs_at01 d ps p cs)
  unfolding pairs_at pairs_at01
  pairs_at-kept zero p cs = refl
  pairs_at-kept (suc d) p cs =
      rw (claimed-body ps p) (pairs_with-kept (pairs_at d (map claimed ps)) (pairs_at01 d ps) (pairs_at-kept d) cs (body_in ps p) (locks p))

  pairs-kept : (p : ℕ) → pair_list (map claimed ps) p ≡ map as_record (pair_list01 ps p)
  unfolding pair_list pair_list01
  pairs-kept p =
      rw (length-map ps claimed, ← widen-unlocked, pairs_at-kept (length ps) p unlocked01)
      (ascending-map as_record (λ a b h. omega arith) (pairs_at01 (length ps) ps p unlocked01))

-- ---- where two pairs cross

record_held : (w : ℕ) → had_of (as_record w) ≡ w / 32 * 2 ^ lock_count
record_held w = omega arith

record_wanted : (w : ℕ) → wanted_of (as_record w) ≡ lock_count + w % 32
record_wanted w =
    let last : as_record w % claim_count ≡ w % 32 * 2 + 1 = omega arith in
    ap word_claim last ∙ omega arith

bars_record : (h : ℕ) → h < 2 ^ lock_count → bars (h * 2 ^ lock_count) ≡ h * 2 ^ lock_count + h
unfolding bars
bars_record h b =
    let a : h * 2 ^ lock_count / 2 ^ lock_count % 2 ^ lock_count ≡ h = omega arith in
    let c : h * 2 ^ lock_count % 2 ^ lock_count ≡ 0 = omega arith in
    rw (a, c, or_zero_r)

module _ (v w : ℕ) (a : v / 32 < 2 ^ lock_count) (b : w / 32 < 2 ^ lock_count) where
  meet_record : bit_and (bars (had_of (as_record v))) (had_of (as_record w)) ≡ bit_and (v / 32) (w / 32) * 2 ^ lock_count
  meet_record =
      rw (record_held v, record_held w, bars_record (v / 32) a)
      (ap (λ x. bit_and (v / 32 * 2 ^ lock_count + v / 32) x) (sym (add-zero (w / 32 * 2 ^ lock_count)))
      ∙ and_block lock_count (v / 32) (w / 32) (v / 32) 0 a (omega arith) ∙ rw (and_zero_r, add-zero))

  wish_record : bit (bars (had_of (as_record v))) (wanted_of (as_record w)) ≡ bit (v / 32) (w % 32)
  wish_record = rw (record_held v, record_wanted w, bars_record (v / 32) a) (bit-above lock_count (v / 32) (v / 32) (w % 32) a)

-- two pairs cross as records just if they did as words
pub crossing-kept : (v w : ℕ) → v / 32 < 2 ^ lock_count → w / 32 < 2 ^ lock_count
    → (CompatibleIn (had_of (as_record v)) (had_of (as_record w)) × ExcludesIn (had_of (as_record w)) (wanted_of (as_record v)) × ExcludesIn (had_of (as_record v)) (wanted_of (as_record w)))
    ↔ Crosses01 v w
crossing-kept v w a b = (
  λ c. (
    let z : bit_and (v / 32) (w / 32) * 2 ^ lock_count ≡ 0 = sym (meet_record v w a b) ∙ c.0 in omega arith,
    sym (wish_record w v b a) ∙ c.1,
    sym (wish_record v w a b) ∙ c.2,
  ),
  λ c. (
    meet_record v w a b ∙ ap (λ x. x * 2 ^ lock_count) c.0 ∙ zero-mul (2 ^ lock_count),
    wish_record w v b a ∙ c.1,
    wish_record v w a b ∙ c.2,
  ),
)

-- ---- a plan without share

claimed-locked : (b : Block) → WithoutShare b → claimed (locked b) ≡ b
unfolding claimed locked WithoutShare
claimed-locked done w = refl
claimed-locked (skip r) w = ap skip (claimed-locked r w)
claimed-locked (call p r) w = ap (call p) (claimed-locked r w)
claimed-locked (hold a b r) w = let e : wider_lock (a - lock_count) ≡ a = omega (arith, w.0) in rw (e, claimed-locked b w.2, claimed-locked r w.3)
claimed-locked (loop b r) w = rw (claimed-locked b w.0, claimed-locked r w.1)
claimed-locked (either a b r) w = rw (claimed-locked a w.0, claimed-locked b w.1, claimed-locked r w.2)
claimed-locked (end a r) w = absurd w

locks_in : (b : Block) → WithoutShare b → LocksIn (locked b)
unfolding locked WithoutShare LocksIn
locks_in done w = tt
locks_in (skip r) w = locks_in r w
locks_in (call p r) w = locks_in r w
locks_in (hold a b r) w = (omega (arith, w.0, w.1), locks_in b w.2, locks_in r w.3)
locks_in (loop b r) w = (locks_in b w.0, locks_in r w.1)
locks_in (either a b r) w = (locks_in a w.0, locks_in b w.1, locks_in r w.2)
locks_in (end a r) w = absurd w

all-claimed : (ps : List Block) → ((p : ℕ) → WithoutShare (body_in ps p)) → map claimed (map locked ps) ≡ ps
unfolding body_in
all-claimed [] w = refl
all-claimed (b ∷ ps) w = ap₂ {C = List Block} (λ x xs. x ∷ xs) (claimed-locked b (w 0)) (all-claimed ps (λ p. w (suc p)))

all_locks_in : (ps : List Block) → ((p : ℕ) → WithoutShare (body_in ps p)) → (p : ℕ) → LocksIn (body_in (map locked ps) p)
unfolding body_in LocksIn
all_locks_in [] w p = tt
all_locks_in (b ∷ ps) w zero = locks_in b (w 0)
all_locks_in (b ∷ ps) w (suc p) = all_locks_in ps (λ q. w (suc q)) p

size-kept : (ps : List Block) (p : ℕ) → size_of (map claimed ps) p ≡ size_of ps p
unfolding size_of
size-kept ps p = rw (length-map ps claimed) (size_at-claimed (length ps) ps p)

-- the locks of a pair that it had are below 32, so their set is below 2 to the power 32
abbrev Small : List ℕ → Type 0
Small ws = (w : ℕ) → Memᴰ w ws → w / 32 < 2 ^ lock_count

small_append : (us vs : List ℕ) → Small us → Small vs → Small (us ++ vs)
small_append us vs a b w m = ⊎_elim (a w) (b w) (Memᴰ.append_cases us m)

small_at : (cs : List ℕ) (l : ℕ) → length cs ≤ lock_count → l < lock_count → Small (pair_at01 cs l)
small_at cs l h b w m = let e = (only w (had cs * 32 + l) (eqb (get_or cs l 0) 0) m).1 in omega (arith, held_lt lock_count cs h)

module _ (f : ℕ → List ℕ → List ℕ) (called : (p : ℕ) (cs : List ℕ) → length cs ≤ lock_count → Small (f p cs)) where
  small_with : (cs : List ℕ) → length cs ≤ lock_count → (b : Block) → LocksIn b → Small (pairs_with01 f cs b)
  unfolding pairs_with01 LocksIn
  small_with cs h done l = λ w m. absurd (Memᴰ.not-nil m)
  small_with cs h (skip r) l = small_with cs h r l
  small_with cs h (call p r) l = small_append (f p cs) (pairs_with01 f cs r) (called p cs h) (small_with cs h r l)
  small_with cs h (hold a b r) l =
      small_append (pair_at01 cs a) (pairs_with01 f (up a cs) b ++ pairs_with01 f cs r) (small_at cs a h l.0)
      (small_append (pairs_with01 f (up a cs) b) (pairs_with01 f cs r) (small_with (up a cs) (omega (arith, length_up a cs)) b l.1) (small_with cs h r l.2))
  small_with cs h (loop b r) l = small_append (pairs_with01 f cs b) (pairs_with01 f cs r) (small_with cs h b l.0) (small_with cs h r l.1)
  small_with cs h (either a b r) l =
      small_append (pairs_with01 f cs a) (pairs_with01 f cs b ++ pairs_with01 f cs r) (small_with cs h a l.0)
      (small_append (pairs_with01 f cs b) (pairs_with01 f cs r) (small_with cs h b l.1) (small_with cs h r l.2))
  small_with cs h (end a r) l = absurd l

module _ (ps : List Block) (locks : (p : ℕ) → LocksIn (body_in ps p)) where
  small-pairs_at : (d p : ℕ) (cs : List ℕ) → length cs ≤ lock_count → Small (pairs_at01 d ps p cs)
  unfolding pairs_at01
  small-pairs_at zero p cs h = λ w m. absurd (Memᴰ.not-nil m)
  small-pairs_at (suc d) p cs h = small_with (pairs_at01 d ps) (small-pairs_at d) cs h (body_in ps p) (locks p)

pub pairs_small : (plan : LockPlan) → ((p : ℕ) → WithoutShare (body_in plan.procs p)) → (p w : ℕ) → Memᴰ w (pair_list01 (locked_plan plan).procs p) → w / 32 < 2 ^ lock_count
unfolding pair_list01
pairs_small plan w p v m =
    small-pairs_at (map locked plan.procs) (all_locks_in plan.procs w) (length (map locked plan.procs)) p unlocked01 (omega arith) v
    (mem_ascending (pairs_at01 (length (map locked plan.procs)) (map locked plan.procs) p unlocked01) v m)

-- "Plans without share keep their answers, written as records."
pub answers-kept : (plan : LockPlan) → ((p : ℕ) → WithoutShare (body_in plan.procs p)) → AnswersKept plan
answers-kept plan w =
    let e : map claimed (map locked plan.procs) ≡ plan.procs = all-claimed plan.procs w in
    let is : claimed_plan (locked_plan plan) ≡ plan = ap (λ qs. record { procs = qs; threads = plan.threads }) e in
    let free = free-kept (map locked plan.procs) plan.threads in
    let schedule = schedule-kept (locked_plan plan) in
    record {
      sizes = λ p. subst (λ qs. size_of qs p ≡ size_of (map locked plan.procs) p) e (size-kept (map locked plan.procs) p);
      pairs = λ p. subst (λ qs. pair_list qs p ≡ map as_record (pair_list01 (map locked plan.procs) p)) e
          (pairs-kept (map locked plan.procs) (all_locks_in plan.procs w) p);
      free = subst (λ qs. DeadlockFree qs plan.threads ↔ DeadlockFree01 (map locked plan.procs) plan.threads) e (free.1, free.0);
      schedule = λ es S. subst (λ q. Schedule q es S ↔ Schedule01 (locked_plan plan) es S) is ((schedule es S).1, (schedule es S).0);
    }
