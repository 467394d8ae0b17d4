-- Source 000, Lemma 3.7. The trace of an execution, with any word of what is left, is a word of what there was: by cases of the last step, where a
-- word of `a ⨾ b` is a word of a and a word of b.
use Prim.Native.Nat.{ℕ}
use mathlib.Core.List.{List, [], ◌∷◌, ◌++◌, append_assoc}
use mathlib.Core.Option.{some, some-injective}
use mathlib.Core.Path.{◌≡◌, refl, ap, sym, ◌∙◌, subst}
use Rattle.laws.proofs.Tests.{bind_inv}
use Rattle.semantics.specs.Plan.{Block, done, skip, call, hold, loop, either, end, ◌⨾◌, body_in}
use Rattle.semantics.specs.Run.{ThreadState, move}
use Rattle.semantics.specs.Language.{Action, acquire, release, in_done, in_skip, in_call, in_hold, in_leave, in_enter, in_one, in_two, in_end, InLanguage}
use Rattle.semantics.specs.Execution.{exec}
use Rattle.semantics.proofs.Thread.Transitions.{Transition, skips, calls, begins, ends, enters, leaves, takes_one, takes_two, move_transition}
use Rattle.semantics.proofs.Critical.Traces.{step_trace, Traces}

-- a word of `a ⨾ b` is one of a, then one of b
record Split (ps : List Block) (a b : Block) (u : List Action) : Type 0 where
  first : List Action
  second : List Action
  is : u ≡ first ++ second
  left : InLanguage ps a first
  right : InLanguage ps b second

-- a word more in front
extend : {ps : List Block} {a b r : Block} {v : List Action} (u : List Action) → ((w : List Action) → InLanguage ps r w → InLanguage ps a (u ++ w))
    → Split ps r b v → Split ps a b (u ++ v)
extend u f s = record {
  first = u ++ s.first;
  second = s.second;
  is = ap (λ v. u ++ v) s.is ∙ sym (append_assoc u s.first s.second);
  left = f s.first s.left;
  right = s.right;
}

loop-split : {ps : List Block} {x r b rb : Block} → ((u : List Action) → InLanguage ps rb u → Split ps r b u) → {u : List Action}
    → InLanguage ps (loop x rb) u → Split ps (loop x r) b u
loop-split below {u} (in_leave d) = extend [] (λ w e. in_leave e) (below u d)
loop-split below (in_enter {u = u} d e) = extend u (λ w e'. in_enter d e') (loop-split below e)

split : {ps : List Block} (a b : Block) {u : List Action} → InLanguage ps (a ⨾ b) u → Split ps a b u
unfolding ◌⨾◌
split done b {u} d = record { first = []; second = u; is = refl; left = in_done; right = d }
split (skip r) b (in_skip d) = extend [] (λ w e. in_skip e) (split r b d)
split (call p r) b (in_call {u = u} d e) = extend u (λ w e'. in_call d e') (split r b e)
split {ps} (hold l x r) b (in_hold {u = u} {v = v} d e) =
    subst (λ (t : List Action). Split ps (hold l x r) b (acquire l ∷ t)) (append_assoc u (release l ∷ []) v)
    (extend (acquire l ∷ (u ++ release l ∷ [])) (λ w e'. rw append_assoc (in_hold d e')) (split r b e))
split (loop x r) b d = loop-split (λ u e. split r b e) d
split (either x y r) b (in_one {u = u} d e) = extend u (λ w e'. in_one d e') (split r b e)
split (either x y r) b (in_two {u = u} d e) = extend u (λ w e'. in_two d e') (split r b e)
split (end l r) b (in_end d) = extend (release l ∷ []) (λ w e. in_end e) (split r b d)

hold_in_language : {ps : List Block} {l : ℕ} {b r : Block} {u s : List Action} → InLanguage ps b u → InLanguage ps (end l r) s
    → InLanguage ps (hold l b r) (acquire l ∷ (u ++ s))
hold_in_language d (in_end e) = in_hold d e

step_in_language : (ps : List Block) {c : ℕ} {b b' : Block} {cs cs' : List ℕ} → Transition ps c b cs b' cs' → (v : List Action) → InLanguage ps b' v
    → InLanguage ps b (step_trace b ++ v)
unfolding step_trace
step_in_language ps skips v d = in_skip d
step_in_language ps (calls {p} {r}) v d = let s = split (body_in ps p) r d in rw s.is (in_call s.left s.right)
step_in_language ps (begins {l} {b} {r}) v d = let s = split b (end l r) d in rw s.is (hold_in_language s.left s.right)
step_in_language ps ends v d = in_end d
step_in_language ps (enters {b} {r}) v d = let s = split b (loop b r) d in rw s.is (in_enter s.left s.right)
step_in_language ps leaves v d = in_leave d
step_in_language ps (takes_one {a} {b} {r}) v d = let s = split a r d in rw s.is (in_one s.left s.right)
step_in_language ps (takes_two {a} {b} {r}) v d = let s = split b r d in rw s.is (in_two s.left s.right)

pub exec_traces_in_language : (ps : List Block) (t : ThreadState) (es : List ℕ) (t' : ThreadState) → exec ps t es ≡ some t'
    → (u : List Action) × Traces ps t es u t' × ((v : List Action) → InLanguage ps t'.rest v → InLanguage ps t.rest (u ++ v))
unfolding exec Traces
exec_traces_in_language ps t [] t' g = let e = some-injective t t' g in ([], (refl, e), λ v d. rw e d)
exec_traces_in_language ps t (c ∷ es) t' g =
    let (m, e, rest) = bind_inv (move ps c t.rest t.count) (λ y. exec ps y es) t' g in
    let (u, s, back) = exec_traces_in_language ps m es t' rest in (
      step_trace t.rest ++ u,
      (m, u, e, refl, s),
      λ v d. rw append_assoc
          (step_in_language ps (move_transition ps c t.rest t.count m e) (u ++ v) (back v d)),
    )
