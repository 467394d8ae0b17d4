-- Source 000, Lemma 4.2. The critical pairs are those of its Definition 4.1: a pair of the language is the trace of an execution, and an execution
-- that comes to a hold can be finished, so that its trace begins a pair.
use Prim.Native.Nat.{ℕ, zero, suc, ◌<◌}
use mathlib.Core.List.{List, [], ◌∷◌, ◌++◌}
use mathlib.Core.Path.{◌≡◌, refl, ap, sym, ◌∙◌, subst}
use mathlib.Core.Logic.{◌↔◌}
use native.Mathlib.Omega.{arith}
use lib.Dec.{T}
use Rattle.semantics.specs.Plan.{Block, done, skip, call, hold, loop, either, end, body_in, Written, Sound}
use Rattle.semantics.specs.Run.{initial, unlocked}
use Rattle.semantics.specs.Pairs.{pair_of, had, fresh, Critical}
use Rattle.semantics.specs.Language.{Action, acquire, release, in_done, in_skip, in_call, in_hold, in_leave, in_one, in_end, counts_after, InLanguage}
use Rattle.semantics.specs.Language.{PublishedCritical}
use Rattle.semantics.proofs.Thread.Remainders.{⨾-done, body_below, Remainder, remainder_of_written}
use Rattle.semantics.proofs.Thread.Transitions.{remainder-step}
use Rattle.semantics.proofs.Thread.Execution.{exec_invariant}
use Rattle.semantics.proofs.Gateway.Projection.{critical-exec, exec-critical}
use Rattle.semantics.proofs.Critical.Traces.{word_traced, trace_counts, traces-exec, traces-at-acquire}
use Rattle.semantics.proofs.Critical.TracesInLanguage.{exec_traces_in_language}

language_critical : (ps : List Block) (p w : ℕ) → PublishedCritical ps p w → Critical ps p w
language_critical ps p w k =
    let (cs', s) = word_traced k.in_language done unlocked in
    let a = traces-at-acquire ps _ s.steps _ _ k.before k.claim k.behind (rw (⨾-done (body_in ps p)) at s.traces) refl in
    let q = a.traced.traces in
    let counts : counts_after unlocked k.before ≡ a.count = trace_counts ps _ a.traced.steps k.before _ q in
    exec-critical ps p w a.traced.steps k.claim a.inside a.after a.count (traces-exec ps _ a.traced.steps k.before _ q)
    (subst (λ cs. T (fresh cs k.claim)) counts k.free)
    (k.pair ∙ ap (λ (cs : List ℕ). pair_of (had cs) k.claim) counts)

-- every remainder has a pair
completion : (ps : List Block) (C : ℕ → Type 0) → ((p : ℕ) → C p → (u : List Action) × InLanguage ps (body_in ps p) u)
    → (b : Block) → Remainder C b → (u : List Action) × InLanguage ps b u
unfolding Remainder
completion ps C f done v = ([], in_done)
completion ps C f (skip r) v = let (u, d) = completion ps C f r v in (u, in_skip d)
completion ps C f (call p r) v =
    let (u₁, d) = f p v.0 in
    let (u₂, e) = completion ps C f r v.1 in
    (u₁ ++ u₂, in_call d e)
completion ps C f (hold l b r) v =
    let (u₁, d) = completion ps C f b (remainder_of_written C b v.1) in
    let (u₂, e) = completion ps C f r v.2 in
    (acquire l ∷ (u₁ ++ release l ∷ u₂), in_hold d e)
completion ps C f (loop b r) v = let (u, d) = completion ps C f r v.1 in (u, in_leave d)
completion ps C f (either a b r) v =
    let (u₁, d) = completion ps C f a (remainder_of_written C a v.0) in
    let (u₂, e) = completion ps C f r v.2 in
    (u₁ ++ u₂, in_one d e)
completion ps C f (end l r) v = let (u, d) = completion ps C f r v.1 in (release l ∷ u, in_end d)

completion-at : (ps : List Block) (rank : ℕ → ℕ) → Sound ps rank → (d p : ℕ) → rank p < d → (u : List Action) × InLanguage ps (body_in ps p) u
completion-at ps rank s zero p h = absurd (omega arith)
completion-at ps rank s (suc d) p h =
    completion ps (λ q. rank q < d) (completion-at ps rank s d) (body_in ps p)
    (remainder_of_written _ (body_in ps p) (body_below ps rank s d p (omega arith)))

critical_language : (ps : List Block) (rank : ℕ → ℕ) → Sound ps rank → (p w : ℕ) → Critical ps p w → PublishedCritical ps p w
unfolding Remainder
critical_language ps rank s p w c =
    let d = suc (rank p) in
    let C : ℕ → Type 0 = λ q. rank q < d in
    let body : (q : ℕ) → C q → Written C (body_in ps q) = λ q k. body_below ps rank s d q (omega arith) in
    let leads = critical-exec ps p w c in
    let (u, traced, back) = exec_traces_in_language ps _ _ _ leads in
    let counts : counts_after unlocked u ≡ c.count = trace_counts ps _ _ u _ traced in
    let left : Remainder C (hold c.claim c.inside c.after) =
    exec_invariant ps (λ t. Remainder C t.rest) (λ _ t t' m. remainder-step ps C body m) (initial ps p) _ _ leads
    (remainder_of_written C (body_in ps p) (body_below ps rank s d p (omega arith))) in
    let (v₁, d₁) = completion ps C (completion-at ps rank s d) c.inside (remainder_of_written C c.inside left.1) in
    let (v₂, d₂) = completion ps C (completion-at ps rank s d) c.after left.2 in
    record {
      before = u;
      claim = c.claim;
      behind = v₁ ++ release c.claim ∷ v₂;
      in_language = back _ (in_hold d₁ d₂);
      free = subst (λ cs. T (fresh cs c.claim)) (sym counts) c.free;
      pair = c.pair ∙ ap (λ (cs : List ℕ). pair_of (had cs) c.claim) (sym counts);
    }

-- Definition 4.1 is ours
pub critical-is-published : (ps : List Block) (rank : ℕ → ℕ) → Sound ps rank → (p w : ℕ) → Critical ps p w ↔ PublishedCritical ps p w
critical-is-published ps rank s p w = (critical_language ps rank s p w, language_critical ps p w)
