-- The straightened copy of an accepted text is the bare text of the straightened plan, which keeps the rules: it is accepted, has that plan, and is no longer than the text.
-- It is its own straightened copy and its own tidy one.
use Prim.Native.Nat.{ℕ, ◌≤◌}
use native.Mathlib.Omega.{arith}
use mathlib.Core.Path.{◌≡◌, sym, ap, ◌∙◌}
use mathlib.Core.Bool.{true}
use mathlib.Core.List.{List, []}
use mathlib.Core.Option.{none}
use lib.ListN.{length}
use Rattle.limits.specs.Limits.{max_bytes}
use Rattle.text.specs.Lines.{forms_of, text_of}
use Rattle.plan.specs.Grammar.{forms}
use Rattle.plan.specs.Settled.{Settled}
use Rattle.plan.specs.Rules.{plan_refusal, plan_of}
use Rattle.plan.proofs.AcceptedTable.{accepted-rules, accepted-text, accepted-settled}
use Rattle.straightening.specs.Straight.{straight_plan}
use Rattle.straightening.proofs.Blocks.{straight-twice}
use Rattle.straightening.proofs.Measures.{straight-settled}
use Rattle.straightening.proofs.KeptRules.{straight-acyclic, straight-none-idle, straight-sizes}
use Rattle.bare_text.specs.Bare.{bare_text}
use Rattle.bare_text.specs.Writing.{retained_forms}
use Rattle.bare_text.proofs.BareText.{bare-plan, bare-accepted}
use Rattle.copies.specs.Copies.{tidy_of, straight_of}
use Rattle.copies.proofs.RetainedForms.{straight_retained, retained_shorter}
use Rattle.copies.proofs.Tidy.{tidy-forms, tidy-short}

module _ (text : List ℕ) (h : plan_refusal text ≡ none) where
  -- the forms of the text that straightening retains, one a line
  pub straight-forms : straight_of text ≡ text_of (retained_forms true [] (forms_of text))
  unfolding straight_of bare_text
  straight-forms = ap text_of (sym (straight_retained (plan_of text)) ∙ ap (retained_forms true []) (sym (accepted-text text h)))

  -- 02, change 8, "Reviewers read a shorter plan": no longer than the text, so that it always fits into the output
  pub straight-short : length (straight_of text) ≤ length text
  straight-short = omega (arith, ap length straight-forms, retained_shorter true [] (forms_of text), ap length (tidy-forms text h), tidy-short text h)

  pub straight-fits : length (straight_of text) ≤ max_bytes
  straight-fits = omega (arith, straight-short, (accepted-rules text h).short)

  settled : Settled (straight_plan (plan_of text))
  settled = straight-settled (plan_of text) (accepted-settled text h)

  pub straight-plan : plan_of (straight_of text) ≡ straight_plan (plan_of text)
  unfolding straight_of
  straight-plan = bare-plan (straight_plan (plan_of text)) settled

  -- "Show that it is accepted whenever the original is"
  pub straight-accepted : plan_refusal (straight_of text) ≡ none
  unfolding straight_of
  straight-accepted =
      let plan = plan_of text in
      let s = accepted-settled text h in
      let e : forms_of text ≡ forms (plan_of text) = accepted-text text h in
      let r = accepted-rules text h in
      let fits : length (bare_text (straight_plan (plan_of text))) ≤ max_bytes = straight-fits in
      bare-accepted (straight_plan plan) settled fits (straight-acyclic plan s (rw e at r.acyclic)) (straight-none-idle plan s (rw e at r.reachable))
      (straight-sizes plan s (rw e at r.sizes))

  -- straightening it again alters nothing
  pub straight-again : straight_of (straight_of text) ≡ straight_of text
  unfolding straight_of
  straight-again = ap (λ plan. bare_text (straight_plan plan)) straight-plan ∙ ap bare_text (straight-twice (plan_of text))

  -- "in tidy form"
  pub straight-tidy : tidy_of (straight_of text) ≡ straight_of text
  unfolding tidy_of straight_of
  straight-tidy = ap bare_text straight-plan
