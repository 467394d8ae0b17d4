-- The step of a thread among others, by cases: absent, not able to move, not permitted, or taken.
use Prim.Native.Nat.{ℕ, zero, suc, ◌<◌}
use mathlib.Core.List.{List, [], ◌∷◌}
use mathlib.Core.Bool.{Bool, cond}
use mathlib.Core.Logic.{⊎_elim}
use mathlib.Core.Option.{Option, none, some, some-injective, none-ne-some, bind}
use mathlib.Core.Path.{◌≡◌, refl, sym}
use native.Mathlib.Nat.{not-suc-le-zero, le_of_suc-le-suc}
use native.Mathlib.Omega.{arith}
use lib.ListN.{length, set}
use lib.Dec.{T}
use Rattle.laws.proofs.Tests.{bind_inv, T-dec, T_true, T_false}
use Rattle.semantics.specs.Plan.{Block}
use Rattle.semantics.specs.Run.{ThreadState, move, apart, thread_at, step_in, nth}

pub thread_at-nth : (ts : List ThreadState) (t : ℕ) → t < length ts → thread_at ts t ≡ some (nth ts t)
unfolding thread_at
thread_at-nth [] t h = absurd (not-suc-le-zero h)
thread_at-nth (x ∷ ts) zero h = refl
thread_at-nth (x ∷ ts) (suc t) h = thread_at-nth ts t (le_of_suc-le-suc h)

pub thread_at-some : (ts : List ThreadState) (t : ℕ) (x : ThreadState) → thread_at ts t ≡ some x → (t < length ts) × (nth ts t ≡ x)
unfolding thread_at
thread_at-some [] t x h = absurd (none-ne-some x h)
thread_at-some (y ∷ ts) zero x h = (omega arith, some-injective y x h)
thread_at-some (y ∷ ts) (suc t) x h = let r = thread_at-some ts t x h in (omega arith, r.1)

-- the step of thread t by itself
abbrev pub move_of : List Block → List ThreadState → ℕ → ℕ → Option ThreadState
move_of ps ts t c = move ps c (nth ts t).rest (nth ts t).count

module _ (S : ℕ → Bool) (ps : List Block) (ts : List ThreadState) (t c : ℕ) where
  pub step-some : (y : ThreadState) → t < length ts → move_of ps ts t c ≡ some y → T (apart S (set ts t y)) → step_in S ps ts t c ≡ some (set ts t y)
  unfolding step_in bind
  step-some y b m a = rw (thread_at-nth ts t b, m, T_true (apart S (set ts t y)) a) refl

  pub step-none : (y : ThreadState) → t < length ts → move_of ps ts t c ≡ some y → (T (apart S (set ts t y)) → ⊥) → step_in S ps ts t c ≡ none
  unfolding step_in bind
  step-none y b m a = rw (thread_at-nth ts t b, m, T_false (apart S (set ts t y)) a) refl

  pub step_cannot : t < length ts → move_of ps ts t c ≡ none → step_in S ps ts t c ≡ none
  unfolding step_in bind
  step_cannot b m = rw (thread_at-nth ts t b, m) refl

  pub step_inv : (ts' : List ThreadState) → step_in S ps ts t c ≡ some ts'
      → (y : ThreadState) × (t < length ts) × (move_of ps ts t c ≡ some y) × T (apart S (set ts t y)) × (ts' ≡ set ts t y)
  unfolding step_in bind
  step_inv ts' h =
      let p = bind_inv (thread_at ts t) (λ x. bind (move ps c x.rest x.count) (λ y. cond (apart S (set ts t y)) (some (set ts t y)) none)) ts' h in
      let q = bind_inv (move ps c p.0.rest p.0.count) (λ y. cond (apart S (set ts t y)) (some (set ts t y)) none) ts' p.2 in
      let r = thread_at-some ts t p.0 p.1 in
      ⊎_elim
      (λ (a : T (apart S (set ts t q.0))).
      let e : some (set ts t q.0) ≡ some ts' = rw (T_true (apart S (set ts t q.0)) a) at q.2 in
      (q.0, r.0, rw r.1 q.1, a, sym (some-injective (set ts t q.0) ts' e)))
      (λ (a : T (apart S (set ts t q.0)) → ⊥).
      let e : none ≡ some ts' = rw (T_false (apart S (set ts t q.0)) a) at q.2 in
      absurd (none-ne-some ts' e))
      (T-dec (apart S (set ts t q.0)))
