-- The rules in checking order: 2 and 3 leave a table of forms, over which 4 to 8 are tested, then 12, 13 and 9; a form that is named is named by its line. What a text that keeps
-- them leaves, its layout and the space, is found on the way.
use Prim.Native.Nat.{ℕ, ◌≤◌}
use native.Mathlib.Omega.{arith}
use mathlib.Core.Path.{◌≡◌, sym, ap, ◌∙◌}
use mathlib.Core.List.{List}
use mathlib.Core.Option.{none, some}
use lib.ListN.{length, take, length-take}
use lib.Seq.{length-take-le}
use Rattle.std.specs.Prelude.{Result, Ok, Err}
use Rattle.limits.specs.Limits.{max_forms}
use Rattle.text.specs.declared.Refusal.{Refusal}
use Rattle.text.specs.Lines.{forms_of}
use Rattle.text.proofs.Splits.{few-forms}
use Rattle.semantics.specs.Plan.{Ranks}
use Rattle.plan.specs.Table.{table_forms, FormRoom}
use Rattle.plan.specs.Grammar.{plan_in}
use Rattle.plan.specs.Settled.{PlanTable, RulesKept, table_plan}
use Rattle.plan.specs.Rules.{lines_refusal, grammar_refusal, recursive, procs_refusal, forms_refusal, in_file, plan_refusal, plan_of, reading_of, read_in_file, Tabled}
use Rattle.plan.proofs.Filling.{accepted-none, accepted-count, refused-is}
use Rattle.plan.proofs.Ranked.{rules-ranks}
use Rattle.plan.proofs.AcceptedTable.{lines-short, formed-table, accepted-rules}
use Rattle.procs.specs.Ruled.{Ruled}
use Rattle.procs.proofs.Answered.{first_refuses, later_refuses, none_refuses}
use Rattle.checked.specs.declared.CheckedText.{CheckedText}
use Rattle.checked.specs.Checks.{CheckedTable, AcceptedText, Checks}

-- ---- the table of a plan

pub kept_ranks : (ws : List ℕ) → PlanTable ws → recursive (table_forms ws) ≡ none → Ranks (table_plan ws).procs
kept_ranks ws t e = rules-ranks (table_forms ws) t.settled e

-- ---- the rules over a table: q is the answer by 4 to 8

module _ (ws : List ℕ) (q : Result ℕ Refusal) (e : q ≡ reading_of (grammar_refusal (table_forms ws)) (length ws)) where
  pub grammar_refused : (x : Refusal) → q ≡ Err x → forms_refusal (table_forms ws) ≡ some x
  unfolding forms_refusal
  grammar_refused x g = first_refuses _ _ x (refused-is (grammar_refusal (table_forms ws)) (length ws) x (sym e ∙ g))

  module _ (n : ℕ) (g : q ≡ Ok n) where
    formed : grammar_refusal (table_forms ws) ≡ none
    formed = accepted-none (grammar_refusal (table_forms ws)) (length ws) n (sym e ∙ g)

    pub grammar_table : PlanTable ws
    grammar_table = formed-table ws formed

    pub grammar_count : n ≡ length ws
    grammar_count = accepted-count (grammar_refusal (table_forms ws)) (length ws) n (sym e ∙ g)

    pub procs_refused : (x : Refusal) → procs_refusal (table_forms ws) ≡ some x → forms_refusal (table_forms ws) ≡ some x
    unfolding forms_refusal
    procs_refused x k = later_refuses _ _ x formed k

    pub procs_kept : procs_refusal (table_forms ws) ≡ none → forms_refusal (table_forms ws) ≡ none
    unfolding forms_refusal
    procs_kept k = none_refuses _ _ formed k

pub ruleset over_forms = (grammar_refused, grammar_table, grammar_count, procs_refused, procs_kept)

-- ---- the text: q is the answer by 2 and 3

module _ (text table : List ℕ) (q : Result ℕ Refusal) (t : Tabled (lines_refusal text) text q table) where
  pub text-refused : (r : Result CheckedText Refusal) (x : Refusal) → r ≡ Err x → q ≡ Err x → Checks text r table
  unfolding plan_refusal
  text-refused r x e g = rw e (first_refuses _ _ x (refused-is (lines_refusal text) (length (forms_of text)) x (sym t.answer ∙ g)))

  module _ (n : ℕ) (g : q ≡ Ok n) where
    lines-kept : lines_refusal text ≡ none
    lines-kept = accepted-none (lines_refusal text) (length (forms_of text)) n (sym t.answer ∙ g)

    count : n ≡ length (forms_of text)
    count = accepted-count (lines_refusal text) (length (forms_of text)) n (sym t.answer ∙ g)

    pub text-few : length (take n table) ≤ max_forms
    text-few = omega (arith, length-take n table, count, few-forms text, lines-short text lines-kept)

    pub text-room : (table₀ : List ℕ) → FormRoom text table₀ → length table ≡ length table₀ → n ≤ length table
    text-room table₀ a b = omega (arith, count, few-forms text, lines-short text lines-kept, a.room)

    pub text-size : (table₀ : List ℕ) → FormRoom text table₀ → length table ≡ length table₀ → n ≡ length (take n table)
    text-size table₀ a b = omega (arith, length-take n table, text-room table₀ a b)

    tabled : table_forms (take n table) ≡ forms_of text
    tabled = rw count (t.forms lines-kept)

    module _ (room : n ≤ length table) where
      size : length (take n table) ≡ n
      size = length-take-le n table room

      plan-kept : forms_refusal (table_forms (take n table)) ≡ none → plan_refusal text ≡ none
      unfolding plan_refusal
      plan-kept k = none_refuses _ _ lines-kept (ap (in_file text) (rw tabled at k))

      kept-rules : plan_refusal text ≡ none → RulesKept (take n table)
      kept-rules k =
          let a = accepted-rules text k in
          record { plan = formed-table (take n table) (rw tabled a.formed); acyclic = rw tabled a.acyclic; sizes = rw tabled a.sizes }

      accepted : (p : CheckedText) → forms_refusal (table_forms (take n table)) ≡ none → CheckedTable (take n table) p → AcceptedText text p table
      unfolding plan_of
      accepted p k d =
          let m : p.forms ≡ n = d.forms ∙ size in
          record {
            kept = plan-kept k;
            forms = m ∙ count;
            room = omega arith;
            tabled = rw m tabled;
            plan = rw m (ap plan_in tabled);
            rules = rw m (kept-rules (plan-kept k));
            laid = rw m d.laid;
            space = rw tabled at d.space;
          }

      answered : (r : Result CheckedText Refusal) → Ruled (forms_refusal (table_forms (take n table))) (CheckedTable (take n table)) r → Checks text (read_in_file text r) table
      unfolding plan_refusal
      answered (Ok p) d = accepted p d.0 d.1
      answered (Err x) d = later_refuses _ _ _ lines-kept (ap (in_file text) (rw tabled at d))

      pub text_checked : (r a : Result CheckedText Refusal) → Ruled (forms_refusal (table_forms (take n table))) (CheckedTable (take n table)) r → a ≡ read_in_file text r → Checks text a table
      text_checked r a d e = rw e (answered r d)

pub ruleset over_text = (text-refused, text-few, text-room, text-size, text_checked)
