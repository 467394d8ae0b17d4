-- Traces of executions. The counts follow from the trace (source 000, Lemma 3.7), and each word of a block's language is the trace of an execution
-- through the block (Lemma 3.14), which stands before the hold where the word acquires a claim.
use Prim.Native.Nat.{ℕ}
use mathlib.Core.List.{List, [], ◌∷◌, ◌++◌, append_assoc}
use mathlib.Core.Option.{Option, some, bind}
use mathlib.Core.Path.{◌≡◌, refl, ap, sym, ◌∙◌}
use mathlib.Core.Logic.{◌⊎◌, inl, inr, ⊎_elim}
use native.Mathlib.Omega.{arith}
use Rattle.semantics.specs.Plan.{Block, done, skip, call, hold, loop, either, end, ◌⨾◌}
use Rattle.semantics.specs.Run.{ThreadState, thread, up, down, move}
use Rattle.semantics.specs.Language.{Action, acquire, release, in_done, in_skip, in_call, in_hold, in_leave, in_enter, in_one, in_two, in_end, counts_after}
use Rattle.semantics.specs.Language.{InLanguage}
use Rattle.semantics.specs.Execution.{exec}
use Rattle.semantics.proofs.Thread.Transitions.{Transition, skips, calls, begins, ends, enters, leaves, takes_one, takes_two, move_transition}

-- the trace of a step of a thread with this remainder (Definition 3.3)
unfoldable pub step_trace : Block → List Action
step_trace done = []
step_trace (skip r) = []
step_trace (call p r) = []
step_trace (hold l b r) = acquire l ∷ []
step_trace (loop b r) = []
step_trace (either a b r) = []
step_trace (end l r) = release l ∷ []

-- u is the trace of the execution from t to t' by the choices es
unfoldable pub Traces : List Block → ThreadState → List ℕ → List Action → ThreadState → Type 0
Traces ps t [] u t' = (u ≡ []) × (t ≡ t')
Traces ps t (c ∷ es) u t' = (m : ThreadState) × (v : List Action) × (move ps c t.rest t.count ≡ some m) ×
    (u ≡ step_trace t.rest ++ v) × Traces ps m es v t'

pub record TracedExecution (ps : List Block) (t : ThreadState) (u : List Action) (t' : ThreadState) : Type 0 where
  pub steps : List ℕ
  pub traces : Traces ps t steps u t'

traced-none : {ps : List Block} {t : ThreadState} → TracedExecution ps t [] t
unfolding Traces
traced-none = record { steps = []; traces = (refl, refl) }

-- a step, then the rest
traced_by : {ps : List Block} {t m t' : ThreadState} {v : List Action} (c : ℕ) → move ps c t.rest t.count ≡ some m → TracedExecution ps m v t'
    → TracedExecution ps t (step_trace t.rest ++ v) t'
unfolding Traces
traced_by {m} {v} c e s = record { steps = c ∷ s.steps; traces = (m, v, e, refl, s.traces) }

traces_then : (ps : List Block) (t m t' : ThreadState) (es : List ℕ) (u v : List Action) → Traces ps t es u m → TracedExecution ps m v t'
    → TracedExecution ps t (u ++ v) t'
unfolding Traces
traces_then ps t m t' [] u v s q = rw (s.0, s.1) q
traces_then ps t m t' (c ∷ es) u v s q =
    let (n, x, e, is, rest) = s in
    rw (is, append_assoc) (traced_by c e (traces_then ps n m t' es x v rest q))

traced-then : {ps : List Block} {t m t' : ThreadState} {u v : List Action} → TracedExecution ps t u m → TracedExecution ps m v t'
    → TracedExecution ps t (u ++ v) t'
traced-then {ps} {t} {m} {t'} {u} {v} s q = traces_then ps t m t' s.steps u v s.traces q

-- a word of the block is the trace of an execution through it (Lemma 3.14)
pub word_traced : {ps : List Block} {b : Block} {u : List Action} → InLanguage ps b u → (r : Block) (cs : List ℕ)
    → (cs' : List ℕ) × TracedExecution ps (thread (b ⨾ r) cs) u (thread r cs')
unfolding ◌⨾◌ step_trace move
word_traced in_done r cs = (cs, traced-none)
word_traced (in_skip d) r cs = let (cs', s) = word_traced d r cs in (cs', traced_by 0 refl s)
word_traced (in_call {r = r'} d e) r cs =
    let (c₁, s) = word_traced d (r' ⨾ r) cs in
    let (c₂, q) = word_traced e r c₁ in
    (c₂, traced_by 0 refl (traced-then s q))
word_traced (in_hold {l = l} {r = r'} d e) r cs =
    let (c₁, s) = word_traced d (end l (r' ⨾ r)) (up l cs) in
    let (c₂, q) = word_traced e r (down l c₁) in
    (c₂, traced_by 0 refl (traced-then s (traced_by 0 refl q)))
word_traced (in_leave d) r cs = let (cs', s) = word_traced d r cs in (cs', traced_by 2 refl s)
word_traced (in_enter {b = b} {r = r'} d e) r cs =
    let (c₁, s) = word_traced d (loop b (r' ⨾ r)) cs in
    let (c₂, q) = word_traced e r c₁ in
    (c₂, traced_by 1 refl (traced-then s q))
word_traced (in_one {r = r'} d e) r cs =
    let (c₁, s) = word_traced d (r' ⨾ r) cs in
    let (c₂, q) = word_traced e r c₁ in
    (c₂, traced_by 1 refl (traced-then s q))
word_traced (in_two {r = r'} d e) r cs =
    let (c₁, s) = word_traced d (r' ⨾ r) cs in
    let (c₂, q) = word_traced e r c₁ in
    (c₂, traced_by 2 refl (traced-then s q))
word_traced (in_end {l = l} d) r cs = let (cs', s) = word_traced d r (down l cs) in (cs', traced_by 0 refl s)

-- the counts follow from the trace (Lemma 3.7)
step_count : (ps : List Block) {c : ℕ} {b b' : Block} {cs cs' : List ℕ} → Transition ps c b cs b' cs' → (v : List Action)
    → counts_after cs (step_trace b ++ v) ≡ counts_after cs' v
unfolding step_trace counts_after
step_count ps skips v = refl
step_count ps calls v = refl
step_count ps begins v = refl
step_count ps ends v = refl
step_count ps enters v = refl
step_count ps leaves v = refl
step_count ps takes_one v = refl
step_count ps takes_two v = refl

pub trace_counts : (ps : List Block) (t : ThreadState) (es : List ℕ) (u : List Action) (t' : ThreadState) → Traces ps t es u t'
    → counts_after t.count u ≡ t'.count
unfolding Traces counts_after
trace_counts ps t [] u t' s = rw (s.0, s.1)
trace_counts ps t (c ∷ es) u t' s =
    let (m, v, e, is, rest) = s in
    ap (counts_after t.count) is ∙ step_count ps (move_transition ps c t.rest t.count m e) v ∙ trace_counts ps m es v t' rest

pub traces-exec : (ps : List Block) (t : ThreadState) (es : List ℕ) (u : List Action) (t' : ThreadState) → Traces ps t es u t' → exec ps t es ≡ some t'
unfolding Traces exec bind
traces-exec ps t [] u t' s = ap {B = Option ThreadState} some s.1
traces-exec ps t (c ∷ es) u t' s = let (m, v, e, is, rest) = s in ap (λ o. bind o (λ y. exec ps y es)) e ∙ traces-exec ps m es v t' rest

-- where the trace of an execution acquires l, the execution came to a hold of l
acquire-found : (b : Block) (v x : List Action) (l : ℕ) (y : List Action) → step_trace b ++ v ≡ x ++ acquire l ∷ y
    → ((i : Block) × (r : Block) × (x ≡ []) × (b ≡ hold l i r)) ⊎ ((z : List Action) × (x ≡ step_trace b ++ z) × (v ≡ z ++ acquire l ∷ y))
unfolding step_trace
acquire-found done v x l y e = inr (x, refl, e)
acquire-found (skip r) v x l y e = inr (x, refl, e)
acquire-found (call p r) v x l y e = inr (x, refl, e)
acquire-found (loop b r) v x l y e = inr (x, refl, e)
acquire-found (either a b r) v x l y e = inr (x, refl, e)
acquire-found (hold k b r) v [] l y e = let same : k ≡ l = cc in inl (b, r, refl, ap (λ (j : ℕ). hold j b r) same)
acquire-found (hold k b r) v (a ∷ x) l y e = inr (x, cc, cc)
acquire-found (end k r) v [] l y e = let z : ◌≡◌ {A = ℕ} 0 1 = cc in absurd (omega arith)
acquire-found (end k r) v (a ∷ x) l y e = inr (x, cc, cc)

no_word : (x : List Action) (a : Action) (y : List Action) → [] ≡ x ++ a ∷ y → ⊥
no_word [] a y e = let z : ◌≡◌ {A = ℕ} 0 1 = cc in omega arith
no_word (b ∷ x) a y e = let z : ◌≡◌ {A = ℕ} 0 1 = cc in omega arith

pub record AtAcquire (ps : List Block) (t : ThreadState) (x : List Action) (l : ℕ) : Type 0 where
  pub inside : Block
  pub after : Block
  pub count : List ℕ
  pub traced : TracedExecution ps t x (thread (hold l inside after) count)

pub traces-at-acquire : (ps : List Block) (t : ThreadState) (es : List ℕ) (u : List Action) (t' : ThreadState) (x : List Action) (l : ℕ)
    (y : List Action)
    → Traces ps t es u t' → u ≡ x ++ acquire l ∷ y → AtAcquire ps t x l
unfolding Traces
traces-at-acquire ps t [] u t' x l y s e = absurd (no_word x (acquire l) y (sym s.0 ∙ e))
traces-at-acquire ps t (c ∷ es) u t' x l y s e =
    let (m, v, moved, is, rest) = s in
    ⊎_elim
    (λ f. record {
      inside = f.0;
      after = f.1;
      count = t.count;
      traced = record { steps = []; traces = (f.2, ap (λ (b : Block). thread b t.count) f.3) };
    })
    (λ f. let a = traces-at-acquire ps m es v t' f.0 l y rest f.2 in
    record { inside = a.inside; after = a.after; count = a.count; traced = rw f.1 (traced_by c moved a.traced) })
    (acquire-found t.rest v x l y (sym is ∙ e))
