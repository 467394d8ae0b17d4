-- A copy into a lent output: rule 1, then the plan's rules, then the writer over the table that they leave, which holds the forms of the plan. In the shape of the needs of the
-- functions that give the copy.
use Prim.Native.Nat.{ℕ, ◌-◌, ◌^◌, ◌<◌, ◌≤◌}
use native.Mathlib.Omega.{arith}
use mathlib.Core.Path.{◌≡◌, refl, sym, ap, ◌∙◌}
use mathlib.Core.Bool.{Bool, true, false}
use mathlib.Core.List.{List, []}
use mathlib.Core.Option.{none, some, or_else}
use lib.Dec.{ltb}
use lib.ListN.{length, take}
use borrow.Author.Tests.{lt-ltb, le-ltb}
use Rattle.std.proofs.Common.{Result, Ok, Err}
use Rattle.limits.specs.Limits.{max_bytes}
use Rattle.laws.specs.Wrote.{Wrote, filled}
use Rattle.laws.proofs.Tests.{first-none}
use Rattle.laws.proofs.Wrote.{wrote-filled}
use Rattle.text.specs.declared.Refusal.{Refusal}
use Rattle.text.specs.Lines.{refusal, forms_of, text_of}
use Rattle.plan.specs.Table.{table_forms}
use Rattle.plan.specs.Rules.{refused_if, plan_refusal, copy_refusal}
use Rattle.checked.specs.declared.CheckedText.{CheckedText}
use Rattle.checked.specs.Checks.{AcceptedText}
use Rattle.answers.specs.Answers.{counted_of, counted_number, counted_high}
use Rattle.answers.proofs.LineBounds.{copy_bounded}
use Rattle.answers.proofs.Counts.{counted-refused, counted-kept, counted_carried}
use Rattle.report_lines.specs.Lines.{refused_line}
use Rattle.bare_text.specs.Writing.{SmallTable, retained_forms}
use Rattle.copies.specs.Copies.{copy_of, Copied, CopiedNumber, printed_copy}
use Rattle.copies.proofs.RetainedForms.{all_retained}
use Rattle.copies.proofs.Tidy.{tidy-forms, tidy-fits, table-small}
use Rattle.copies.proofs.Straight.{straight-forms, straight-fits}

-- ---- the one copy or the other

module _ (text : List ℕ) (h : plan_refusal text ≡ none) where
  -- the lines of the forms that it retains
  copy-forms : (straighten : Bool) → copy_of straighten text ≡ text_of (retained_forms straighten [] (forms_of text))
  copy-forms false = tidy-forms text h ∙ ap text_of (sym (all_retained (forms_of text)))
  copy-forms true = straight-forms text h

  pub copy-fits : (straighten : Bool) → length (copy_of straighten text) ≤ max_bytes
  copy-fits false = tidy-fits text h
  copy-fits true = straight-fits text h

-- ---- into the output

module _ (straighten : Bool) (text before : List ℕ) where
  refused-copy : (x : Refusal) → copy_refusal text (length before) ≡ some x → Copied (copy_of straighten text) text before (Err x) before
  unfolding counted_of
  refused-copy x e = record { answer = rw e; output = rw e }

  pub copy-short : length before < max_bytes → Copied (copy_of straighten text) text before (Err (refusal 1 0)) before
  unfolding copy_refusal or_else
  copy-short h = refused-copy (refusal 1 0) (rw (lt-ltb (length before) max_bytes h))

  -- enough is lent: the plan's rules come next
  plan-rules : max_bytes ≤ length before → copy_refusal text (length before) ≡ plan_refusal text
  unfolding copy_refusal or_else
  plan-rules h = rw (le-ltb (length before) max_bytes h)

  module _ (h : max_bytes ≤ length before) where
    pub copy-refused : (x : Refusal) → plan_refusal text ≡ some x → Copied (copy_of straighten text) text before (Err x) before
    copy-refused x e = refused-copy x (plan-rules h ∙ e)

    module _ (table : List ℕ) (plan : CheckedText) (a : AcceptedText text plan table) where
      table-text : text_of (retained_forms straighten [] (table_forms (take plan.forms table))) ≡ copy_of straighten text
      table-text = ap (λ fs. text_of (retained_forms straighten [] fs)) a.tabled ∙ sym (copy-forms text a.kept straighten)

      pub copy-small : SmallTable (take plan.forms table)
      copy-small = table-small (take plan.forms table) a.rules.plan

      pub copy-room : length (text_of (table_forms (take plan.forms table))) ≤ length before
      copy-room = omega (arith, ap (λ fs. length (text_of fs)) a.tabled, ap length (tidy-forms text a.kept), tidy-fits text a.kept)

      pub copy_written : (after : List ℕ) (k : ℕ) → Wrote before after 0 k (text_of (retained_forms straighten [] (table_forms (take plan.forms table))))
          → Copied (copy_of straighten text) text before (Ok k) after
      unfolding counted_of
      copy_written after k w =
          let z : copy_refusal text (length before) ≡ none = plan-rules h ∙ a.kept in
          let c : k ≡ length (copy_of straighten text) = omega (arith, w.place, ap length table-text) in
          record { answer = rw (z, c); output = rw z (wrote-filled before after 0 k _ w refl ∙ ap (λ x. filled x before) table-text) }

-- ---- what the program prints

module _ (straighten : Bool) (text before : List ℕ) (r : Result ℕ Refusal) (after : List ℕ) (t : Copied (copy_of straighten text) text before r after) (h : max_bytes ≤ length before) where
  by_plan : r ≡ counted_of (plan_refusal text) (length (copy_of straighten text))
  by_plan = rw (plan-rules straighten text before h) at t.answer

  pub printed_copy_lem : (n : ℕ) → r ≡ Ok n → Wrote before after 0 n (printed_copy straighten text)
  unfolding printed_copy
  printed_copy_lem n g =
      let k = counted-kept (plan_refusal text) r (length (copy_of straighten text)) n by_plan g in
      let given : after ≡ filled (copy_of straighten text) before = rw (plan-rules straighten text before h, k.0) at t.output in
      let count : n ≡ length (copy_of straighten text) = k.1 in
      rw k.0 (record { place = omega arith; fits = omega (arith, copy-fits text k.0 straighten); written = rw count given })

  pub printed-refusal : (x : Refusal) (after₁ : List ℕ) (n : ℕ) → r ≡ Err x → Wrote after after₁ 0 n (refused_line x.rule x.line)
      → Wrote before after₁ 0 n (printed_copy straighten text)
  unfolding printed_copy
  printed-refusal x after₁ n g w =
      let k = counted-refused (plan_refusal text) r (length (copy_of straighten text)) x by_plan g in
      let same : after ≡ before = rw (plan-rules straighten text before h, k) at t.output in
      rw (k, ← same) w

-- ---- the answer as a number

-- a copy has at most 32,768 bytes, and a refusal's line is a line of the text or 0
pub copy_carried : (straighten : Bool) (text before : List ℕ) (r : Result ℕ Refusal) (after : List ℕ) → Copied (copy_of straighten text) text before r after → counted_high r < 2 ^ 40
unfolding copy_refusal
copy_carried straighten text before r after t =
    counted_carried (copy_refusal text (length before)) r (length (copy_of straighten text)) t.answer (λ e. omega (arith, fits e)) (copy_bounded text (length before))
  where
    fits : copy_refusal text (length before) ≡ none → length (copy_of straighten text) ≤ max_bytes
    fits e = copy-fits text (first-none (refused_if 1 (ltb (length before) max_bytes)) (plan_refusal text) e).1 straighten

pub copy-number : (copy text before : List ℕ) (r : Result ℕ Refusal) (after : List ℕ) (v : ℕ) → Copied copy text before r after → v ≡ counted_number r → CopiedNumber copy text before v after
copy-number copy text before r after v t e = record { counted = r; number = e; copied = t }
