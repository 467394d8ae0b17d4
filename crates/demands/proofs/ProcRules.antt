-- A rule of procedures says by its test which ones break it (`reaches_itself`, `no_thread_reaches`), and those behind it refuse by other numbers: so a text that keeps the rules
-- before is refused by it exactly if some procedure breaks it, by 12 for recursion (`recursion_refused_exactly`), by 13 for an idle one (`idle-refused-exactly`).
use Prim.Native.Nat.{ℕ, ◌<◌}
use mathlib.Core.Bool.{Bool, not}
use mathlib.Core.List.{List}
use mathlib.Core.Logic.{◌↔◌}
use mathlib.Core.Option.{Option, none, some, none-ne-some, some-injective, or_else}
use mathlib.Core.Path.{◌≡◌, refl, ap}
use native.Mathlib.Omega.{arith}
use lib.Dec.{ltb}
use lib.ListN.{length}
use Rattle.limits.specs.Limits.{max_size}
use Rattle.laws.proofs.Tests.{first_assoc}
use Rattle.text.specs.declared.Form.{Form}
use Rattle.text.specs.declared.Refusal.{Refusal}
use Rattle.text.specs.Lines.{refusal, forms_of, line_of}
use Rattle.semantics.specs.Plan.{Block, LockPlan}
use Rattle.semantics.specs.Calls.{Recursive, Idle}
use Rattle.semantics.specs.CallMasks.{reaches, reachable}
use Rattle.semantics.specs.Sizes.{size_of}
use Rattle.semantics.proofs.Calls.Closure.{reaches-is, reacher_present}
use Rattle.semantics.proofs.Calls.Reachable.{reachable-is}
use Rattle.plan.specs.Grammar.{plan_in}
use Rattle.plan.specs.Rules.{refused_at, lines_refusal, grammar_refusal, proc_form_from, proc_form, lowest_from, proc_refusal, recursive, idle, too_large}
use Rattle.plan.specs.Rules.{forms_refusal, refusal_in_file, in_file, plan_of, plan_refusal}
use Rattle.plan.proofs.Lowest.{Lowest, lowest}
use Rattle.demands.proofs.Firsts.{Decides, holds_where, fails_where, decides_iff, decides_itself, decides_not}

-- ---- the tests

pub reaches_itself : (ps : List Block) (p : ℕ) → Decides (reaches ps p p) (Recursive ps p)
reaches_itself ps p = decides_iff (reaches ps p p) _ _ (reaches-is ps p p) (decides_itself (reaches ps p p))

pub no_thread_reaches : (plan : LockPlan) (p : ℕ) → Decides (not (reachable plan p)) (Idle plan p)
no_thread_reaches plan p = decides_not (reachable plan p) _ (decides_iff (reachable plan p) _ _ (reachable-is plan p) (decides_itself (reachable plan p)))

-- ---- the numbers by which rules refuse

-- a refusal by another number than the rule's
abbrev ByOther : ℕ → Option Refusal → Type 0
ByOther rule o = (x : Refusal) → o ≡ some x → x.rule ≡ rule → ⊥

other-proc : (rule number : ℕ) (fs : List Form) (test : ℕ → Bool) → (number ≡ rule → ⊥) → ByOther rule (proc_refusal number fs test)
unfolding proc_refusal
other-proc rule number fs test d x e k = go (proc_form fs (lowest_from test 0 (length (plan_in fs).procs))) e
  where
    go : (o : Option ℕ) → refused_at number o ≡ some x → ⊥
    go none e = none-ne-some x e
    go (some n) e = d (omega (arith, k, ap (λ w. w.rule) (some-injective (refusal number n) x e)))

other_or : (rule : ℕ) (a b : Option Refusal) → ByOther rule a → ByOther rule b → ByOther rule (or_else a b)
unfolding or_else
other_or rule none b h k = k
other_or rule (some w) b h k = h

other_file : (text : List ℕ) (rule l : ℕ) (o : Option Refusal) → ByOther rule o → in_file text o ≡ some (refusal rule l) → ⊥
other_file text rule l none h e = none-ne-some _ e
other_file text rule l (some x) h e = h x refl (ap (λ w. w.rule) (some-injective (refusal_in_file text x) (refusal rule l) e))

-- ---- a rule of procedures, where those before it refuse nothing, and `later` is what those behind it say

module _ (text : List ℕ) (rule : ℕ) (test : ℕ → Bool) (P : ℕ → Type 0) where
  abbrev fs : List Form
  fs = forms_of text

  abbrev n : ℕ
  n = length (plan_in fs).procs

  module _ (decide : (p : ℕ) → p < length (plan_in (forms_of text)).procs → Decides (test p) (P p)) (later : Option Refusal) (other : ByOther rule later) where
    -- by the procedure that the rule finds, or none
    from_search : (o : Option ℕ) → Lowest test 0 n o → proc_refusal rule fs test ≡ refused_at rule (proc_form fs o)
        → ((l : ℕ) × (in_file text (or_else (proc_refusal rule fs test) later) ≡ some (refusal rule l))) ↔ ((p : ℕ) × (p < n) × P p)
    unfolding or_else
    from_search none x e = (
      λ y. absurd (other_file text rule y.0 later other (rw e at y.1)),
      λ y. absurd (fails_where (test y.0) _ (decide y.0 y.1) (x y.0 (omega arith) (omega (arith, y.1))) y.2),
    )
    from_search (some q) x e =
        let present : q < n = omega (arith, x.1) in
        (λ _. (q, present, holds_where (test q) _ (decide q present) x.2), λ _. (line_of text (proc_form_from 1 q fs), rw e))

    refused_exactly_by : ((l : ℕ) × (in_file text (or_else (proc_refusal rule fs test) later) ≡ some (refusal rule l))) ↔ ((p : ℕ) × (p < n) × P p)
    unfolding proc_refusal
    refused_exactly_by = from_search (lowest_from test 0 n) (lowest test n 0) refl

-- ---- rules 12 and 13

module _ (text : List ℕ) (lines : lines_refusal text ≡ none) (formed : grammar_refusal (forms_of text) ≡ none) where
  abbrev forms : List Form
  forms = forms_of text

  abbrev plan : LockPlan
  plan = plan_in forms

  later-large : (rule : ℕ) → (9 ≡ rule → ⊥) → ByOther rule (too_large forms)
  unfolding too_large
  later-large rule d = other-proc rule 9 forms (λ p. ltb max_size (size_of plan.procs p)) d

  later-idle : ByOther 12 (or_else (idle forms) (too_large forms))
  unfolding idle
  later-idle = other_or 12 (idle forms) (too_large forms) (other-proc 12 13 forms (λ p. not (reachable plan p)) (λ e. omega arith)) (later-large 12 (λ e. omega arith))

  pub recursion_refused_exactly : ((l : ℕ) × (plan_refusal text ≡ some (refusal 12 l))) ↔ ((p : ℕ) × Recursive (plan_of text).procs p)
  unfolding plan_of plan_refusal forms_refusal recursive or_else
  recursion_refused_exactly =
      let x = refused_exactly_by text 12 (λ p. reaches plan.procs p p) (Recursive plan.procs) (λ p h. reaches_itself plan.procs p) _ later-idle in
      rw (lines, formed, first_assoc (recursive forms) (idle forms) (too_large forms))
      (λ y. let z = x.0 y in (z.0, z.2), λ y. x.1 (y.0, reacher_present plan.procs y.1, y.1))

  pub idle-refused-exactly : recursive (forms_of text) ≡ none
      → ((l : ℕ) × (plan_refusal text ≡ some (refusal 13 l))) ↔ ((p : ℕ) × (p < length (plan_of text).procs) × Idle (plan_of text) p)
  unfolding plan_of plan_refusal forms_refusal idle or_else
  idle-refused-exactly acyclic =
      rw (lines, formed, acyclic)
      (refused_exactly_by text 13 (λ p. not (reachable plan p)) (Idle plan) (λ p h. no_thread_reaches plan p) (too_large forms) (later-large 13 (λ e. omega arith)))
