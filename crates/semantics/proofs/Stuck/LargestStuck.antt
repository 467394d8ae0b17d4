-- The largest stuck set as a fixed point: of the threads about to begin a hold drop, in rounds, those blocked by no other that is left. Every stuck set survives each round, and
-- after as many rounds as there are threads nothing more is dropped. What is left is stuck, unless it is empty.
use Prim.Native.Nat.{ℕ, zero, suc, ◌+◌, ◌≤◌, ◌<◌}
use mathlib.Core.List.{List}
use mathlib.Core.Bool.{Bool, true, false, not, ◌&&◌, cond}
use mathlib.Core.Logic.{◌⊎◌, inl, inr, ⊎_elim, ◌↔◌}
use mathlib.Core.Option.{Option, none, some, none-ne-some, some-ne-none}
use mathlib.Core.Path.{◌≡◌, refl, sym, ap, subst, fun_ext}
use native.Mathlib.Omega.{arith}
use lib.ListN.{length, set, get_or-eq_default}
use lib.Dec.{T, not_T}
use Rattle.laws.proofs.Tests.{same_test, T_and, and_T, T-dec, lt_or_le, search_below}
use Rattle.laws.specs.Sums.{total}
use Rattle.laws.proofs.Sums.{total_ones, total_lt, total-at}
use Rattle.semantics.specs.Plan.{Block, done, skip, call, hold, loop, either, end, ◌⨾◌, body_in, Plain}
use Rattle.semantics.specs.Run.{ThreadState, thread, up, move, everyone, step_in, nth, absent_thread, counts}
use Rattle.semantics.specs.Stuck.{Stuck, Largest}
use Rattle.semantics.proofs.Gateway.Apart.{Apart, apart→}
use Rattle.semantics.proofs.Gateway.Steps.{move_of, step-some}
use Rattle.semantics.proofs.Gateway.Blocked.{Blocked, permitted_or_blocked, blocked-barred, blocked-stuck, stuck-blocked}
use Rattle.semantics.proofs.Gateway.Invariant.{Invariant}

-- the remainder is about to begin a hold
unfoldable pub at_hold : Block → Bool
at_hold done = false
at_hold (skip r) = false
at_hold (call p r) = false
at_hold (hold l b r) = true
at_hold (loop b r) = false
at_hold (either a b r) = false
at_hold (end l r) = false

abbrev pub begins_hold : List ThreadState → ℕ → Bool
begins_hold ts t = at_hold (nth ts t).rest

abbrev pub is_none : {A : Type 0} → Option A → Bool
is_none none = true
is_none (some a) = false

-- the threads of S that are about to begin a hold and may not, the others forgotten
unfoldable pub round : List Block → List ThreadState → (ℕ → Bool) → ℕ → Bool
round ps ts S t = S t && (begins_hold ts t && is_none (step_in S ps ts t 0))

unfoldable pub rounds : ℕ → List Block → List ThreadState → ℕ → Bool
rounds zero ps ts = begins_hold ts
rounds (suc k) ps ts = round ps ts (rounds k ps ts)

-- every stuck set lies in S
abbrev pub Covers : List Block → List ThreadState → (ℕ → Bool) → Type 0
Covers ps ts S = (S' : ℕ → Bool) → Stuck ps ts S' → (t : ℕ) → T (S' t) → T (S t)

-- no thread of S is dropped
abbrev pub FixedPoint : List Block → List ThreadState → (ℕ → Bool) → Type 0
FixedPoint ps ts S = (t : ℕ) → T (S t) → T (round ps ts S t)

-- ---- tests as numbers

test-le : (a b : Bool) → (T a → T b) → cond {A = ℕ} a 1 0 ≤ cond b 1 0
test-le true true f = omega arith
test-le true false f = absurd (f tt)
test-le false true f = omega arith
test-le false false f = omega arith

test_lt : (a b : Bool) → T (not a) → T b → cond {A = ℕ} a 1 0 < cond b 1 0
test_lt false true f g = omega arith
test_lt false false f g = elim g [ ]
test_lt true b f g = elim f [ ]

test-one : (a : Bool) → T a → cond {A = ℕ} a 1 0 ≡ 1
test-one true t = refl
test-one false t = elim t [ ]

-- ---- a round

at-hold : (b : Block) → T (at_hold b) → (l : ℕ) × (x : Block) × (r : Block) × (b ≡ hold l x r)
unfolding at_hold
at-hold (hold l x r) h = (l, x, r, refl)
at-hold done h = elim h [ ]
at-hold (skip _) h = elim h [ ]
at-hold (call _ _) h = elim h [ ]
at-hold (loop _ _) h = elim h [ ]
at-hold (either _ _ _) h = elim h [ ]
at-hold (end _ _) h = elim h [ ]

first_in : (ts : List ThreadState) (t : ℕ) → T (begins_hold ts t) → t < length ts
unfolding at_hold
first_in ts t h =
    ⊎_elim (λ b. b) (λ (b : length ts ≤ t). absurd (subst (λ x. T (at_hold x.rest)) (get_or-eq_default ts absent_thread b) h))
    (lt_or_le t (length ts))

blocked-begins : (S : ℕ → Bool) (ts : List ThreadState) (t : ℕ) → Blocked S ts t → T (begins_hold ts t)
unfolding at_hold
blocked-begins S ts t w = rw w.stands tt

refused_none : {A : Type 0} (o : Option A) → o ≡ none → T (is_none o)
refused_none none e = tt
refused_none (some a) e = absurd (some-ne-none a e)

refused-some : {A : Type 0} (o : Option A) (a : A) → T (is_none o) → o ≡ some a → ⊥
refused-some none a t e = none-ne-some a e
refused-some (some b) a t e = t

-- who is blocked by a member of a set is blocked by one of a greater set
pub blocked-more : (S S' : ℕ → Bool) (ts : List ThreadState) (t : ℕ) → ((u : ℕ) → T (S u) → T (S' u)) → Blocked S ts t → Blocked S' ts t
blocked-more S S' ts t m w =
    record {
      claim = w.claim;
      inside = w.inside;
      following = w.following;
      stands = w.stands;
      other = w.other;
      differs = w.differs;
      member = m w.other w.member;
      theirs = w.theirs;
    }

module _ (ps : List Block) (bodies : (p : ℕ) → Plain (body_in ps p)) (ts : List ThreadState) (moment : Invariant ts) where
  apart_in : (S : ℕ → Bool) → Apart S ts
  apart_in S i j d _ _ = apart→ everyone ts moment.all_apart i j d tt tt

  blocked_in : (S : ℕ → Bool) → Stuck ps ts S → (t : ℕ) → T (S t) → Blocked S ts t
  blocked_in S = stuck-blocked ps bodies S ts moment.balanced (apart_in S)

  -- a thread stays just if it is blocked by another thread of S
  pub blocked-round : (S : ℕ → Bool) (t : ℕ) → T (S t) → Blocked S ts t → T (round ps ts S t)
  unfolding round
  blocked-round S t s w =
      let f = blocked-begins S ts t w in
      and_T (S t) (begins_hold ts t && is_none (step_in S ps ts t 0)) s
      (and_T (begins_hold ts t) (is_none (step_in S ps ts t 0)) f
      (refused_none (step_in S ps ts t 0) (blocked-barred ps bodies S ts moment.balanced t 0 (first_in ts t f) s w)))

  pub round-blocked : (S : ℕ → Bool) (t : ℕ) → T (round ps ts S t) → (t < length ts) × Blocked S ts t
  unfolding round move
  round-blocked S t h =
      let (s, q) = T_and (S t) (begins_hold ts t && is_none (step_in S ps ts t 0)) h in
      let (f, n) = T_and (begins_hold ts t) (is_none (step_in S ps ts t 0)) q in
      let b = first_in ts t f in
      let (l, x, r, e) = at-hold (nth ts t).rest f in
      let y : ThreadState = thread (x ⨾ end l r) (up l (counts ts t)) in
      let m : move_of ps ts t 0 ≡ some y = ap (λ b. move ps 0 b (counts ts t)) e in (
        b,
        ⊎_elim (λ a. absurd (refused-some (step_in S ps ts t 0) (set ts t y) n (step-some S ps ts t 0 y b m a))) (λ w. w)
            (permitted_or_blocked ps bodies S ts moment.balanced (apart_in S) t 0 y b s m),
      )

  pub begins_covers : Covers ps ts (begins_hold ts)
  begins_covers S st t s = blocked-begins S ts t (blocked_in S st t s)

  pub round_covers : (S : ℕ → Bool) → Covers ps ts S → Covers ps ts (round ps ts S)
  round_covers S c S' st t s = blocked-round S t (c S' st t s) (blocked-more S' S ts t (c S' st) (blocked_in S' st t s))

  pub fixed_largest : (S : ℕ → Bool) → Covers ps ts S → FixedPoint ps ts S → (t : ℕ) → T (S t) → Largest ps ts S
  fixed_largest S c f t s = record {
    stuck = blocked-stuck ps bodies S ts moment.balanced (λ u r. (round-blocked S u (f u r)).0) (λ u r. (round-blocked S u (f u r)).1) t s;
    contains = c;
  }

  -- ---- as many rounds as there are threads are enough

  -- the number of threads in S
  abbrev size : (ℕ → Bool) → ℕ
  size S = total (length ts) (λ t. cond (S t) 1 0)

  pub round_in : (S : ℕ → Bool) (t : ℕ) → T (round ps ts S t) → T (S t)
  unfolding round
  round_in S t h = (T_and (S t) (begins_hold ts t && is_none (step_in S ps ts t 0)) h).0

  -- a round of a set from which it drops none is that set
  fixed_same : (S : ℕ → Bool) → FixedPoint ps ts S → round ps ts S ≡ S
  fixed_same S f = fun_ext (λ t. same_test (round ps ts S t) (S t) (round_in S t) (f t))

  fixed_or : (S : ℕ → Bool) → ((t : ℕ) → T (S t) → t < length ts) → FixedPoint ps ts S ⊎ (size (round ps ts S) < size S)
  fixed_or S b =
      ⊎_elim
      (λ (q : (t : ℕ) × (t < length ts) × T (S t && not (round ps ts S t))).
      let p = T_and (S q.0) (not (round ps ts S q.0)) q.2 in
      inr (total_lt (length ts) (λ t. cond (round ps ts S t) 1 0) (λ t. cond (S t) 1 0) (λ t _. test-le (round ps ts S t) (S t) (round_in S t)) q.0
      q.1
      (test_lt (round ps ts S q.0) (S q.0) p.1 p.0)))
      (λ (f : (t : ℕ) → t < length ts → T (S t && not (round ps ts S t)) → ⊥).
      inl (λ t s. ⊎_elim (λ r. r) (λ (n : T (round ps ts S t) → ⊥). absurd
      (f t (b t s) (and_T (S t) (not (round ps ts S t)) s (not_T (round ps ts S t) n)))) (T-dec (round ps ts S t))))
      (search_below (length ts) (λ t. S t && not (round ps ts S t)))

  pub rounds_in : (k t : ℕ) → T (rounds k ps ts t) → t < length ts
  unfolding rounds
  rounds_in zero t h = first_in ts t h
  rounds_in (suc k) t h = rounds_in k t (round_in (rounds k ps ts) t h)

  rounds_fall : (k : ℕ) → FixedPoint ps ts (rounds k ps ts) ⊎ (size (rounds k ps ts) + k ≤ length ts)
  unfolding rounds
  rounds_fall zero = inr (omega (arith, total_ones (length ts) (λ t. cond (begins_hold ts t) 1 0) (λ t. test-le (begins_hold ts t) true (λ _. tt))))
  rounds_fall (suc k) =
      ⊎_elim
      (λ (f : FixedPoint ps ts (rounds k ps ts)). inl (subst (FixedPoint ps ts) (sym (fixed_same (rounds k ps ts) f)) f))
      (λ (c : size (rounds k ps ts) + k ≤ length ts).
      ⊎_elim (λ (f : FixedPoint ps ts (rounds k ps ts)). inl (subst (FixedPoint ps ts) (sym (fixed_same (rounds k ps ts) f)) f))
      (λ (d : size (round ps ts (rounds k ps ts)) < size (rounds k ps ts)). inr (omega arith))
      (fixed_or (rounds k ps ts) (rounds_in k)))
      (rounds_fall k)

  pub rounds_fixed : (k : ℕ) → length ts ≤ k → FixedPoint ps ts (rounds k ps ts)
  rounds_fixed k b t s =
      ⊎_elim (λ (f : FixedPoint ps ts (rounds k ps ts)). f t s)
      (λ (c : size (rounds k ps ts) + k ≤ length ts).
      absurd (omega (arith, total-at (length ts) (λ t. cond (rounds k ps ts t) 1 0) t (rounds_in k t s), test-one (rounds k ps ts t) s)))
      (rounds_fall k)

  pub rounds_cover : (k : ℕ) → Covers ps ts (rounds k ps ts)
  unfolding rounds
  rounds_cover zero = begins_covers
  rounds_cover (suc k) = round_covers (rounds k ps ts) (rounds_cover k)

  -- what is left after k rounds, for k threads or fewer, is the largest stuck set, where there is any
  pub rounds-largest : (k : ℕ) → length ts ≤ k → (t : ℕ) → T (rounds k ps ts t) → Largest ps ts (rounds k ps ts)
  rounds-largest k b = fixed_largest (rounds k ps ts) (rounds_cover k) (rounds_fixed k b)

  pub stuck-largest : (k : ℕ) → length ts ≤ k → (S : ℕ → Bool) → Stuck ps ts S → Largest ps ts (rounds k ps ts)
  stuck-largest k b S st = let (t, _, _, s, _) = st.two in rounds-largest k b t (rounds_cover k S st t s)

  -- and it is empty exactly where nothing is stuck
  pub rounds-empty : (k : ℕ) → length ts ≤ k → ((t : ℕ) → T (rounds k ps ts t) → ⊥) ↔ ((S : ℕ → Bool) → Stuck ps ts S → ⊥)
  rounds-empty k b = (
    λ f S st. let (t, _, _, s, _) = st.two in f t (rounds_cover k S st t s),
    λ f t s. f (rounds k ps ts) (rounds-largest k b t s).stuck,
  )
