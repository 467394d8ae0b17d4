-- What every run keeps (`run-keeps`; source 000, Remark 2.1): the counts are those of the ends that the remainders have, and what any two threads have may stand together. So only to
-- begin a hold from whose claim another thread excludes is ever refused. The start has both, and each permitted step keeps them.
use Prim.Native.Nat.{ℕ, zero, suc, ◌+◌, ◌*◌, ◌/◌, ◌%◌, ◌<◌}
use mathlib.Core.List.{List, [], ◌∷◌}
use mathlib.Core.Logic.{⊎_elim, ◌≢◌}
use mathlib.Core.Option.{none, some, some-injective, some-ne-none}
use mathlib.Core.Path.{◌≡◌, refl, sym, ap, ◌∙◌, subst}
use native.Mathlib.Nat.{not-suc-le-zero, le_of_suc-le-suc}
use native.Mathlib.Omega.{arith}
use lib.ListN.{length, get_or, set, length-set, length-map}
use lib.Seq.{get_or-set_same, get_or-set_other}
use lib.Dec.{T}
use Rattle.laws.proofs.Tests.{bind_inv, eq_or_ne}
use Rattle.semantics.specs.Plan.{Block, body_in, Plain}
use Rattle.semantics.specs.Run.{ThreadState, apart, everyone, step_in, step, run, start, initial, nth, absent_thread, counts}
use Rattle.semantics.proofs.Thread.Transitions.{move_transition}
use Rattle.semantics.proofs.Thread.Balance.{end_count, Balanced, balanced-step, balanced_plain}
use Rattle.semantics.proofs.Gateway.Compatible.{HasClaim, Excludes, compatible_not_contended, unlocked_excludes_none, compatible_or_contended}
use Rattle.semantics.proofs.Gateway.Apart.{excludes_present, apart→, apart←}
use Rattle.semantics.proofs.Gateway.Steps.{move_of, step-some, step_inv}
use Rattle.semantics.proofs.Gateway.Blocked.{BalancedAll, Blocked, permitted_or_blocked}

-- an entry gives back its thread and its choice
pub entry_thread : (k c : ℕ) → k < 8 → (k + 8 * c) % 8 ≡ k
entry_thread k c b = omega arith

pub entry_choice : (k c : ℕ) → k < 8 → (k + 8 * c) / 8 ≡ c
entry_choice k c b = omega arith

-- each thread's counts are those that its remainder settles, and what any two threads have may stand together
pub record Invariant (ts : List ThreadState) : Type 0 where
  pub balanced : BalancedAll ts
  pub all_apart : T (apart everyone ts)

-- ---- the start

pub start-length : (ps : List Block) (ns : List ℕ) → length (start ps ns) ≡ length ns
unfolding start
start-length ps ns = length-map ns (initial ps)

pub start-at : (ps : List Block) (ns : List ℕ) (t : ℕ) → t < length ns → nth (start ps ns) t ≡ initial ps (get_or ns t 0)
unfolding start
start-at ps [] t h = absurd (not-suc-le-zero h)
start-at ps (n ∷ ns) zero h = refl
start-at ps (n ∷ ns) (suc t) h = start-at ps ns t (le_of_suc-le-suc h)

module _ (ps : List Block) (bodies : (p : ℕ) → Plain (body_in ps p)) where
  pub start_invariant : (ns : List ℕ) → Invariant (start ps ns)
  start_invariant ns = record {
    balanced = λ t b. let p = start-at ps ns t (subst (λ n. t < n) (start-length ps ns) b) in rw p
        (balanced_plain (body_in ps (get_or ns t 0)) (bodies (get_or ns t 0)));
    all_apart = apart← everyone (start ps ns) (λ i j _ _ _. ⊎_elim (λ k. k)
        (λ (q : (l : ℕ) × HasClaim (counts (start ps ns) i) l × Excludes (counts (start ps ns) j) l).
        let b = subst (λ n. j < n) (start-length ps ns) (excludes_present (start ps ns) j q.0 q.2) in
        absurd (unlocked_excludes_none q.0 (subst (λ x. Excludes x.count q.0) (start-at ps ns j b) q.2)))
        (compatible_or_contended (counts (start ps ns) i) (counts (start ps ns) j)));
  }

  -- ---- one step, and a run

  pub balanced-set : (ts : List ThreadState) (k : ℕ) (y : ThreadState) → BalancedAll ts → k < length ts → Balanced y.rest y.count
      → BalancedAll (set ts k y)
  balanced-set ts k y a b h t c =
      ⊎_elim (λ (e : t ≡ k). rw (e, get_or-set_same ts k y absent_thread b) h)
      (λ (e : t ≢ k). rw (get_or-set_other ts k t y absent_thread e) (a t (subst (λ n. t < n) (length-set ts k y) c)))
      (eq_or_ne t k)

  pub step_invariant : (ts ts' : List ThreadState) (e : ℕ) → step ps ts e ≡ some ts' → Invariant ts → Invariant ts'
  unfolding step
  step_invariant ts ts' e h m =
      let p = step_inv everyone ps ts (e % 8) (e / 8) ts' h in
      let k = balanced-step ps bodies (move_transition ps (e / 8) (nth ts (e % 8)).rest (nth ts (e % 8)).count p.0 p.2)
      (m.balanced (e % 8) p.1) in
      rw p.4 (record { balanced = balanced-set ts (e % 8) p.0 m.balanced p.1 k; all_apart = p.3 })

  pub run_invariant : (ts ts' : List ThreadState) (es : List ℕ) → run ps ts es ≡ some ts' → Invariant ts → Invariant ts'
  unfolding run
  run_invariant ts ts' [] h m = subst Invariant (some-injective ts ts' h) m
  run_invariant ts ts' (e ∷ es) h m =
      let p = bind_inv (step ps ts e) (λ us. run ps us es) ts' h in
      run_invariant p.0 ts' es p.2 (step_invariant ts p.0 e p.1 m)

pub run_length : (ps : List Block) (ts ts' : List ThreadState) (es : List ℕ) → run ps ts es ≡ some ts' → length ts' ≡ length ts
unfolding run step
run_length ps ts ts' [] h = ap length (sym (some-injective ts ts' h))
run_length ps ts ts' (e ∷ es) h =
    let p = bind_inv (step ps ts e) (λ us. run ps us es) ts' h in
    let q = step_inv everyone ps ts (e % 8) (e / 8) p.0 p.1 in
    run_length ps p.0 ts' es p.2 ∙ ap length q.4 ∙ length-set ts (e % 8) q.0

-- ---- what this says of a run

pub record Kept (ps : List Block) (ts : List ThreadState) : Type 0 where
  pub counted : (t l : ℕ) → t < length ts → get_or (counts ts t) l 0 ≡ end_count l (nth ts t).rest
  pub exclusive : (t u l : ℕ) → t ≢ u → HasClaim (counts ts t) l → Excludes (counts ts u) l → ⊥
  pub refused : (t c : ℕ) (y : ThreadState) → t < length ts → move_of ps ts t c ≡ some y → step_in everyone ps ts t c ≡ none → Blocked everyone ts t

pub run-keeps : (ps : List Block) → ((p : ℕ) → Plain (body_in ps p)) → (ns es : List ℕ) (ts : List ThreadState) → run ps (start ps ns) es ≡ some ts
    → Kept ps ts
run-keeps ps bodies ns es ts h =
    let m = run_invariant ps bodies (start ps ns) ts es h (start_invariant ps bodies ns) in
    let a = apart→ everyone ts m.all_apart in
    record {
      counted = λ t l b. (m.balanced t b).counts l;
      exclusive = λ t u l d. compatible_not_contended (counts ts t) (counts ts u) (a t u d tt tt) l;
      refused = λ t c y b e z.
          ⊎_elim (λ p. absurd (some-ne-none (set ts t y) (sym (step-some everyone ps ts t c y b e p) ∙ z))) (λ w. w)
          (permitted_or_blocked ps bodies everyone ts m.balanced a t c y b tt e);
    }
