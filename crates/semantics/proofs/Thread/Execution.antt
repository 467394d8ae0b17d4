-- The executions of one thread by itself: as a list of choices (`exec`), and as the states after 0, 1, 2 .. of them (`Execution`).
use Prim.Native.Nat.{ℕ, zero, suc, ◌≤◌, ◌<◌}
use mathlib.Core.List.{List, [], ◌∷◌, ◌++◌}
use mathlib.Core.Option
use mathlib.Core.Option.{Option, some, some-injective, bind}
use mathlib.Core.Path.{◌≡◌, refl, sym, ap, ◌∙◌, subst}
use native.Mathlib.Nat.{not-suc-le-zero, le_of_suc-le-suc}
use native.Mathlib.Omega.{arith}
use lib.ListN.{length, get_or}
use Rattle.laws.proofs.Tests.{bind_inv}
use Rattle.semantics.specs.Plan.{Block, body_in, Plain}
use Rattle.semantics.specs.Run.{ThreadState, move}
use Rattle.semantics.specs.Execution.{exec, Execution, move_or_stay, state_after}
use Rattle.semantics.proofs.Thread.Transitions.{Transition, move_transition}
use Rattle.semantics.proofs.Thread.Balance.{Balanced, balanced-step}

pub exec_append : (ps : List Block) (t m t' : ThreadState) (cs ds : List ℕ) → exec ps t cs ≡ some m → exec ps m ds ≡ some t'
    → exec ps t (cs ++ ds) ≡ some t'
unfolding exec bind
exec_append ps t m t' [] ds g h = subst (λ x. exec ps x ds ≡ some t') (sym (some-injective t m g)) h
exec_append ps t m t' (c ∷ cs) ds g h =
    let (n, move_or_stay, rest) = bind_inv (move ps c t.rest t.count) (λ y. exec ps y cs) m g in
    ap (λ o. bind o (λ y. exec ps y (cs ++ ds))) move_or_stay ∙ exec_append ps n m t' cs ds rest h

-- what each step keeps, an execution keeps
pub exec_invariant : (ps : List Block) (P : ThreadState → Type 0)
    → ((c : ℕ) (t t' : ThreadState) → Transition ps c t.rest t.count t'.rest t'.count → P t → P t')
    → (t : ThreadState) (cs : List ℕ) (t' : ThreadState) → exec ps t cs ≡ some t' → P t → P t'
unfolding exec bind
exec_invariant ps P k t [] t' h p = subst P (some-injective t t' h) p
exec_invariant ps P k t (c ∷ cs) t' h p =
    let (m, move_or_stay, rest) = bind_inv (move ps c t.rest t.count) (λ y. exec ps y cs) t' h in
    exec_invariant ps P k m cs t' rest (k c t m (move_transition ps c t.rest t.count m move_or_stay) p)

moved-some : (ps : List Block) (c : ℕ) (x y : ThreadState) → move ps c x.rest x.count ≡ some y → move_or_stay ps c x ≡ y
unfolding move_or_stay
moved-some ps c x y h = ap (λ o. Option.get_or o x) h

pub exec-steps : (ps : List Block) (x y : ThreadState) (cs : List ℕ) → exec ps x cs ≡ some y → (j : ℕ) → j < length cs
    → move ps (get_or cs j 0) (state_after ps x cs j).rest (state_after ps x cs j).count ≡ some (state_after ps x cs (suc j))
unfolding exec state_after bind
exec-steps ps x y [] h j b = absurd (not-suc-le-zero b)
exec-steps ps x y (c ∷ cs) h zero b =
    let m = bind_inv (move ps c x.rest x.count) (λ z. exec ps z cs) y h in
    m.1 ∙ ap {B = Option ThreadState} some (sym (moved-some ps c x m.0 m.1))
exec-steps ps x y (c ∷ cs) h (suc j) b =
    let m = bind_inv (move ps c x.rest x.count) (λ z. exec ps z cs) y h in
    exec-steps ps (move_or_stay ps c x) y cs (ap (λ z. exec ps z cs) (moved-some ps c x m.0 m.1) ∙ m.2) j (le_of_suc-le-suc b)

pub exec-last : (ps : List Block) (x y : ThreadState) (cs : List ℕ) → exec ps x cs ≡ some y → state_after ps x cs (length cs) ≡ y
unfolding exec state_after bind
exec-last ps x y [] h = some-injective x y h
exec-last ps x y (c ∷ cs) h =
    let m = bind_inv (move ps c x.rest x.count) (λ z. exec ps z cs) y h in
    exec-last ps (move_or_stay ps c x) y cs (ap (λ z. exec ps z cs) (moved-some ps c x m.0 m.1) ∙ m.2)

pub execution : (ps : List Block) (x y : ThreadState) (cs : List ℕ) → exec ps x cs ≡ some y → Execution ps x cs (state_after ps x cs)
unfolding state_after
execution ps x y cs h = record { first = refl; steps = exec-steps ps x y cs h }

module _ {ps : List Block} {x : ThreadState} {cs : List ℕ} {s : ℕ → ThreadState}
    (bodies : (p : ℕ) → Plain (body_in ps p)) (plain : Plain x.rest) (kept : Balanced x.rest x.count)
    (a : Execution ps x cs s) where
  pub step-at : (j : ℕ) → j < length cs → Transition ps (get_or cs j 0) (s j).rest (s j).count (s (suc j)).rest (s (suc j)).count
  step-at j b = move_transition ps (get_or cs j 0) (s j).rest (s j).count (s (suc j)) (a.steps j b)

  -- the counts are at each moment those that the remainder settles
  pub balanced-at : (j : ℕ) → j ≤ length cs → Balanced (s j).rest (s j).count
  balanced-at zero b = rw a.first kept
  balanced-at (suc j) b = balanced-step ps bodies (step-at j b) (balanced-at j (omega arith))
