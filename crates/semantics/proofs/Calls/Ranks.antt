-- The rank of a procedure is how many procedures it reaches. Where none reaches itself it falls along calls, since the caller reaches its callee and all that the callee reaches,
-- and is below the number of procedures (`acyclic-ranks`). Where ranks fall along calls no procedure reaches itself (`ranks-acyclic`).
use Prim.Native.Nat.{ℕ, zero, suc, ◌+◌, ◌<◌, ◌≤◌}
use mathlib.Core.Bool.{Bool, true, false, ◌||◌, cond}
use mathlib.Core.List.{List}
use mathlib.Core.Logic.{inl, inr, ⊎_elim}
use mathlib.Core.Path.{◌≡◌, refl, sym, subst}
use native.Mathlib.Nat.{eq-or-lt_of_le}
use native.Mathlib.Omega.{arith}
use lib.Dec.{T, eqb, eqb→eq}
use lib.ListN.{length}
use Rattle.laws.proofs.Tests.{T-or, or_T, eq→eqb}
use Rattle.semantics.specs.Plan.{Block, done, skip, call, hold, loop, either, end, body_in, Written, WellFormed, Sound, Ranks}
use Rattle.semantics.specs.Calls.{has_call, Reaches, directly, through, Recursive}
use Rattle.semantics.specs.CallMasks.{reaches}
use Rattle.semantics.proofs.Calls.Closure.{reaches-is}

-- ---- how many numbers below n pass a test

unfoldable count_below : ℕ → (ℕ → Bool) → ℕ
count_below zero f = 0
count_below (suc n) f = cond (f n) 1 0 + count_below n f

one-le : (a b : Bool) → (T a → T b) → cond a 1 0 ≤ cond b 1 0
one-le true true h = omega arith
one-le true false h = absurd (h tt)
one-le false true h = omega arith
one-le false false h = omega arith

one_lt : (a b : Bool) → (T a → ⊥) → T b → cond a 1 0 < cond b 1 0
one_lt true b h i = absurd (h tt)
one_lt false true h i = omega arith
one_lt false false h i = absurd i

module _ (f g : ℕ → Bool) (sub : (k : ℕ) → T (f k) → T (g k)) where
  count-le : (n : ℕ) → count_below n f ≤ count_below n g
  unfolding count_below
  count-le zero = omega arith
  count-le (suc n) = omega (arith, one-le (f n) (g n) (sub n), count-le n)

  -- where j passes g alone
  count_lt : (j : ℕ) → (T (f j) → ⊥) → T (g j) → (n : ℕ) → j < n → count_below n f < count_below n g
  unfolding count_below
  count_lt j h i zero b = absurd (omega arith)
  count_lt j h i (suc n) b =
      ⊎_elim
      (λ (e : j ≡ n). omega (arith, one_lt (f n) (g n) (subst (λ k. T (f k) → ⊥) e h) (subst (λ k. T (g k)) e i), count-le n))
      (λ (l : j < n). omega (arith, one-le (f n) (g n) (sub n), count_lt j h i n l))
      (eq-or-lt_of_le (omega arith))

count-all : (n : ℕ) → count_below n (λ k. true) ≡ n
unfolding count_below
count-all zero = refl
count-all (suc n) = omega (arith, count-all n)

-- ---- what is written of a block's calls

-- the calls of a block meet what is written of them
written-call : (C : ℕ → Type 0) (q : ℕ) (b : Block) → Written C b → T (has_call b q) → C q
unfolding Written has_call
written-call C q done w h = absurd h
written-call C q (skip r) w h = written-call C q r w h
written-call C q (call p r) w h =
    ⊎_elim (λ (e : T (eqb q p)). subst C (sym (eqb→eq q p e)) w.0) (λ x. written-call C q r w.1 x) (T-or (eqb q p) (has_call r q) h)
written-call C q (hold l b r) w h =
    ⊎_elim (λ x. written-call C q b w.1 x) (λ x. written-call C q r w.2 x) (T-or (has_call b q) (has_call r q) h)
written-call C q (loop b r) w h =
    ⊎_elim (λ x. written-call C q b w.0 x) (λ x. written-call C q r w.1 x) (T-or (has_call b q) (has_call r q) h)
written-call C q (either a b r) w h =
    ⊎_elim (λ x. written-call C q a w.0 x)
    (λ x. ⊎_elim (λ y. written-call C q b w.1 y) (λ y. written-call C q r w.2 y) (T-or (has_call b q) (has_call r q) x))
    (T-or (has_call a q) (has_call b q || has_call r q) h)
written-call C q (end l r) w h = absurd w

-- what each call of a block meets is written of the block
pub call-written : (C D : ℕ → Type 0) (b : Block) → Written C b → ((q : ℕ) → T (has_call b q) → C q → D q) → Written D b
unfolding Written has_call
call-written C D done w h = tt
call-written C D (skip r) w h = call-written C D r w h
call-written C D (call p r) w h = (
  h p (or_T (eqb p p) (has_call r p) (inl (eq→eqb p p refl))) w.0,
  call-written C D r w.1 (λ q x. h q (or_T (eqb q p) (has_call r q) (inr x))),
)
call-written C D (hold l b r) w h = (
  w.0,
  call-written C D b w.1 (λ q x. h q (or_T (has_call b q) (has_call r q) (inl x))),
  call-written C D r w.2 (λ q x. h q (or_T (has_call b q) (has_call r q) (inr x))),
)
call-written C D (loop b r) w h = (
  call-written C D b w.0 (λ q x. h q (or_T (has_call b q) (has_call r q) (inl x))),
  call-written C D r w.1 (λ q x. h q (or_T (has_call b q) (has_call r q) (inr x))),
)
call-written C D (either a b r) w h = (
  call-written C D a w.0 (λ q x. h q (or_T (has_call a q) (has_call b q || has_call r q) (inl x))),
  call-written C D b w.1 (λ q x. h q (or_T (has_call a q) (has_call b q || has_call r q) (inr (or_T (has_call b q) (has_call r q) (inl x))))),
  call-written C D r w.2 (λ q x. h q (or_T (has_call a q) (has_call b q || has_call r q) (inr (or_T (has_call b q) (has_call r q) (inr x))))),
)
call-written C D (end l r) w h = absurd w

-- where callees are there, so is what is reached
pub reached-present : (ps : List Block) → ((p : ℕ) → Written (λ q. q < length ps) (body_in ps p)) → {p q : ℕ} → Reaches ps p q → q < length ps
reached-present ps w {p} {q} (directly h) = written-call (λ r. r < length ps) q (body_in ps p) (w p) h
reached-present ps w {p} {q} (through h x) = reached-present ps w x

-- ---- the rank

-- how many procedures p reaches
unfoldable reach_count : List Block → ℕ → ℕ
reach_count ps p = count_below (length ps) (reaches ps p)

module _ (ps : List Block) (acyclic : (p : ℕ) → Recursive ps p → ⊥) where
  count-below : (p : ℕ) → p < length ps → reach_count ps p < length ps
  unfolding reach_count
  count-below p h =
      omega (
        arith,
        count_lt (reaches ps p) (λ k. true) (λ k x. tt) p (λ x. acyclic p ((reaches-is ps p p).0 x)) tt (length ps) h,
        count-all (length ps),
      )

  -- a call of q in p's block
  count-falls : (p q : ℕ) → T (has_call (body_in ps p) q) → q < length ps → reach_count ps q < reach_count ps p
  unfolding reach_count
  count-falls p q h b =
      count_lt (reaches ps q) (reaches ps p) (λ k x. (reaches-is ps p k).1 (through h ((reaches-is ps q k).0 x))) q
      (λ x. acyclic q ((reaches-is ps q q).0 x)) ((reaches-is ps p q).1 (directly h)) (length ps) b

  pub acyclic-ranks : ((p : ℕ) → Written (λ q. q < length ps) (body_in ps p)) → ((p : ℕ) → p < length ps → WellFormed false (body_in ps p)) → Ranks ps
  acyclic-ranks present filled = record {
    rank = reach_count ps;
    sound = record {
      body = λ p. call-written (λ q. q < length ps) (λ q. reach_count ps q < reach_count ps p) (body_in ps p) (present p) (count-falls p);
      filled = filled;
    };
    below = count-below;
  }

module _ (ps : List Block) (rank : ℕ → ℕ) (s : Sound ps rank) where
  pub reach-falls : {p q : ℕ} → Reaches ps p q → rank q < rank p
  reach-falls {p} {q} (directly h) = written-call (λ r. rank r < rank p) q (body_in ps p) (s.body p) h
  reach-falls {p} {q} (through {r = r} h x) = let a = written-call (λ r. rank r < rank p) r (body_in ps p) (s.body p) h in omega (arith, reach-falls x)

  pub ranks-acyclic : (p : ℕ) → Recursive ps p → ⊥
  ranks-acyclic p x = omega (arith, reach-falls x)
