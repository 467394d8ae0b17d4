-- The tidy copy of an accepted text is the bare text of its plan, and what is shown of such texts says the rest: it is accepted, has the same plan, is no longer, is its own
-- tidy copy, and two accepted texts have one plan exactly when their tidy copies have equal bytes.
use Prim.Native.Nat.{ℕ, zero, suc, ◌≤◌}
use native.Mathlib.Omega.{arith}
use mathlib.Core.Path.{◌≡◌, refl, sym, ap, subst}
use mathlib.Core.Logic.{◌↔◌}
use mathlib.Core.List.Memᴰ
use mathlib.Core.List.{List, [], ◌∷◌}
use mathlib.Core.Option.{none}
use lib.ListN.{length}
use Rattle.limits.specs.Limits.{max_bytes}
use Rattle.text.specs.Lines.{forms_of, text_of}
use Rattle.text.proofs.Splits.{written-shorter}
use Rattle.plan.specs.Grammar.{forms}
use Rattle.plan.specs.Table.{form_at, table_forms}
use Rattle.plan.specs.Settled.{PlanTable, table_plan}
use Rattle.plan.specs.Rules.{plan_refusal, plan_of}
use Rattle.plan.proofs.AcceptedTable.{accepted-rules, accepted-text, accepted-settled}
use Rattle.bare_text.specs.Bare.{bare_text}
use Rattle.bare_text.specs.Writing.{SmallTable}
use Rattle.copies.specs.Copies.{tidy_of}
use Rattle.bare_text.proofs.BareText.{Smalls, settled_smalls, bare-plan, bare-accepted, bare_injective}

module _ (text : List ℕ) (h : plan_refusal text ≡ none) where
  -- 02, change 1, "a writer that gives any accepted plan in document 01's bare form": the forms of the text, one a line
  pub tidy-forms : tidy_of text ≡ text_of (forms_of text)
  unfolding tidy_of bare_text
  tidy-forms = ap text_of (sym (accepted-text text h))

  -- "The output must hold 32,768 bytes": the copy is no longer than the text, so that it always fits
  pub tidy-short : length (tidy_of text) ≤ length text
  tidy-short = subst (λ t. length t ≤ length text) (sym tidy-forms) (written-shorter text (accepted-rules text h).readable)

  pub tidy-fits : length (tidy_of text) ≤ max_bytes
  tidy-fits = omega (arith, tidy-short, (accepted-rules text h).short)

  -- "Verdict and pairs are those of the tidy copy": both are of the plan, and the plan is the same
  pub tidy-plan : plan_of (tidy_of text) ≡ plan_of text
  unfolding tidy_of
  tidy-plan = bare-plan (plan_of text) (accepted-settled text h)

  -- so a tidy copy is an accepted text again
  pub tidy-accepted : plan_refusal (tidy_of text) ≡ none
  unfolding tidy_of
  tidy-accepted =
      let e : forms_of text ≡ forms (plan_of text) = accepted-text text h in
      let fits : length (bare_text (plan_of text)) ≤ max_bytes = tidy-fits in
      let r = accepted-rules text h in
      bare-accepted (plan_of text) (accepted-settled text h) fits (rw e at r.acyclic) (rw e at r.reachable) (rw e at r.sizes)

  -- "and tidying a tidy copy alters nothing"
  pub tidy-twice : tidy_of (tidy_of text) ≡ tidy_of text
  unfolding tidy_of
  tidy-twice = ap bare_text tidy-plan

-- "Two accepted texts have the same procedures, statements and thread lines in the same order exactly when their tidy copies have equal bytes"
pub tidy-same : (s t : List ℕ) → plan_refusal s ≡ none → plan_refusal t ≡ none → (tidy_of s ≡ tidy_of t) ↔ (plan_of s ≡ plan_of t)
unfolding tidy_of
tidy-same s t h k = (λ e. bare_injective (plan_of s) (plan_of t) (accepted-settled s h) (accepted-settled t k) e, λ e. ap bare_text e)

-- ---- the table of an accepted plan, for the writer

forms-small : (ws : List ℕ) → Smalls (table_forms ws) → SmallTable ws
unfolding SmallTable
forms-small [] s k h = absurd (omega arith)
forms-small (w ∷ ws) s zero h = s (form_at w) (Memᴰ.head refl)
forms-small (w ∷ ws) s (suc k) h = forms-small ws (λ f m. s f (Memᴰ.tail m)) k (omega arith)

pub table-small : (ws : List ℕ) → PlanTable ws → SmallTable ws
table-small ws t = forms-small ws (subst Smalls (sym t.written) (settled_smalls (table_plan ws) t.settled))
