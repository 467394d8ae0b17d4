-- What an accepted text is: short, readable, its forms those of a plan that keeps the rules (`accepted-rules`), since none of them names a line; and what its table then
-- holds (`rules-kept`).
use Prim.Native.Nat.{ℕ, ◌-◌, ◌<◌, ◌≤◌}
use native.Mathlib.Omega.{arith}
use mathlib.Core.Path.{◌≡◌, refl, sym, ap, ◌∙◌}
use mathlib.Core.List.{List}
use mathlib.Core.Option.{Option, none, some, some-ne-none, or_else}
use lib.ListN.{length, take, length-map}
use lib.Dec.{ltb}
use Rattle.laws.proofs.Tests.{first-none}
use borrow.Author.Tests.{ltb-false, le-ltb}
use Rattle.limits.specs.Limits.{max_bytes, max_forms, max_pairs, max_entries}
use Rattle.semantics.specs.Plan.{Ranks}
use Rattle.semantics.specs.Sizes.{thread_sizes}
use Rattle.semantics.specs.Pairs.{pair_list}
use Rattle.semantics.proofs.Conflicts.Characterisation.{Ranked}
use Rattle.text.specs.declared.Refusal.{Refusal}
use Rattle.text.specs.Lines.{forms_of, unreadable_line}
use Rattle.text.proofs.Splits.{few-forms}
use Rattle.std.specs.Prelude.{Result, Ok}
use Rattle.plan.specs.Table.{form_at, table_forms, FormRoom}
use Rattle.plan.specs.Grammar.{forms, plan_in}
use Rattle.plan.specs.Settled.{Settled, table_plan, PlanTable, RulesKept}
use Rattle.plan.specs.Rules.{refused_at, too_long, lines_refusal, grammar_refusal, recursive, idle, too_large, reach_refusal, procs_refusal, forms_refusal}
use Rattle.plan.specs.Rules.{in_file, plan_refusal, plan_of, Tabled}
use Rattle.plan.proofs.Kept.{kept, no_line, unflagged}
use Rattle.plan.proofs.Denotes.{accepted_denotes}
use Rattle.plan.proofs.Filling.{accepted-none, accepted-count}
use Rattle.plan.proofs.Sound.{forms-settled}
use Rattle.plan.proofs.Ranked.{rules-ranks, settled-ranked}
use Rattle.plan.proofs.WithinSize.{sum-within, pairs-within}

-- what the rules say of a text that none of them refuses
pub record AcceptedRules (text : List ℕ) : Type 0 where
  pub short : length text ≤ max_bytes
  pub readable : unreadable_line text ≡ none
  pub formed : grammar_refusal (forms_of text) ≡ none
  pub acyclic : recursive (forms_of text) ≡ none
  pub reachable : idle (forms_of text) ≡ none
  pub sizes : too_large (forms_of text) ≡ none

pub file_none : (text : List ℕ) (o : Option Refusal) → in_file text o ≡ none → o ≡ none
file_none text none e = refl
file_none text (some x) e = absurd (some-ne-none _ e)

-- a text that rule 2 does not refuse, so that the table has room for its forms
pub short-enough : (text : List ℕ) → too_long text ≡ none → length text ≤ max_bytes
unfolding too_long
short-enough text e = ltb-false max_bytes (length text) (unflagged 2 (ltb max_bytes (length text)) e)

pub lines-short : (text : List ℕ) → lines_refusal text ≡ none → length text ≤ max_bytes
unfolding lines_refusal
lines-short text e = short-enough text (first-none (too_long text) (refused_at 3 (unreadable_line text)) e).0

pub accepted-rules : (text : List ℕ) → plan_refusal text ≡ none → AcceptedRules text
unfolding plan_refusal lines_refusal forms_refusal
accepted-rules text e =
    let fs = forms_of text in
    let x = first-none (or_else (too_long text) (refused_at 3 (unreadable_line text))) (in_file text (or_else (grammar_refusal fs) (procs_refusal fs))) e in
    let y = first-none (grammar_refusal fs) (procs_refusal fs) (file_none text _ x.1) in
    let z = first-none (reach_refusal fs) (too_large fs) y.1 in
    let reach = first-none (recursive fs) (idle fs) z.0 in
    record {
      short = lines-short text x.0;
      readable = no_line 3 (unreadable_line text) (first-none (too_long text) (refused_at 3 (unreadable_line text)) x.0).1;
      formed = y.0;
      acyclic = reach.0;
      reachable = reach.1;
      sizes = z.1;
    }

pub rules-accepted : (text : List ℕ) → AcceptedRules text → plan_refusal text ≡ none
unfolding plan_refusal lines_refusal too_long forms_refusal or_else
rules-accepted text r = rw (le-ltb max_bytes (length text) r.short, r.readable, r.formed, r.acyclic, r.reachable, r.sizes)

-- the forms of an accepted text are those of its plan; rules 4 to 8 settle the plan, with rule 12 its procedures have ranks, and with rule 9 they have few pairs
module _ (text : List ℕ) (e : plan_refusal text ≡ none) where
  pub accepted-text : forms_of text ≡ forms (plan_of text)
  unfolding plan_of
  accepted-text = (accepted_denotes (forms_of text) (kept (forms_of text) (accepted-rules text e).formed).0).1

  pub accepted-settled : Settled (plan_of text)
  unfolding plan_of
  accepted-settled = forms-settled (forms_of text) (accepted-rules text e).formed

  pub accepted-ranks : Ranks (plan_of text).procs
  unfolding plan_of
  accepted-ranks = rules-ranks (forms_of text) accepted-settled (accepted-rules text e).acyclic

  pub accepted-ranked : Ranked (plan_of text)
  accepted-ranked = settled-ranked (plan_of text) accepted-settled accepted-ranks

  pub accepted-sum : thread_sizes (plan_of text) ≤ max_entries
  unfolding plan_of
  accepted-sum = sum-within (forms_of text) accepted-settled (accepted-rules text e).sizes

  pub accepted-few : (p : ℕ) → p < length (plan_of text).procs → length (pair_list (plan_of text).procs p) ≤ max_pairs
  unfolding plan_of
  accepted-few = pairs-within (forms_of text) accepted-settled (accepted-rules text e).acyclic (accepted-rules text e).sizes

-- the table of forms that rules 4 to 8 do not refuse
pub formed-table : (ws : List ℕ) → grammar_refusal (table_forms ws) ≡ none → PlanTable ws
formed-table ws e = record { written = (accepted_denotes (table_forms ws) (kept (table_forms ws) e).0).1; settled = forms-settled (table_forms ws) e }

-- the longest table has room for the forms of every text
pub most-room : (text table : List ℕ) → max_forms ≤ length table → FormRoom text table
most-room text table h = record { room = omega arith }

-- the table of a text that a reading accepts, by whatever rules
module _ (refused : Option Refusal) (text table : List ℕ) (q : Result ℕ Refusal) (n : ℕ) (t : Tabled refused text q table) (g : q ≡ Ok n) where
  pub tabled-kept : refused ≡ none
  tabled-kept = accepted-none refused (length (forms_of text)) n (sym t.answer ∙ g)

  pub tabled-count : n - 0 ≡ length (forms_of text)
  tabled-count = omega (arith, accepted-count refused (length (forms_of text)) n (sym t.answer ∙ g))

  pub tabled-forms : table_forms (take (n - 0) table) ≡ forms_of text
  tabled-forms = rw tabled-count (t.forms tabled-kept)

  pub tabled-size : length (take (n - 0) table) ≡ length (forms_of text)
  tabled-size = sym (length-map (take (n - 0) table) form_at) ∙ ap length tabled-forms

  pub tabled-same : table_plan (take (n - 0) table) ≡ plan_of text
  unfolding plan_of
  tabled-same = ap plan_in tabled-forms

-- by the plan's
module _ (text table : List ℕ) (q : Result ℕ Refusal) (n : ℕ) (t : Tabled (plan_refusal text) text q table) (g : q ≡ Ok n) where
  pub plan-kept : plan_refusal text ≡ none
  plan-kept = tabled-kept (plan_refusal text) text table q n t g

  pub plan-forms : table_forms (take (n - 0) table) ≡ forms_of text
  plan-forms = tabled-forms (plan_refusal text) text table q n t g

  pub plan-same : table_plan (take (n - 0) table) ≡ plan_of text
  plan-same = tabled-same (plan_refusal text) text table q n t g

  plan-rules : AcceptedRules text
  plan-rules = accepted-rules text plan-kept

  pub plan-room : (table₀ : List ℕ) → FormRoom text table₀ → length table ≡ length table₀ → n ≤ length table
  plan-room table₀ a b = omega (arith, tabled-count (plan_refusal text) text table q n t g, few-forms text, plan-rules.short, a.room)

  pub plan-table : PlanTable (take (n - 0) table)
  plan-table = formed-table (take (n - 0) table) (rw plan-forms plan-rules.formed)

  pub rules-kept : RulesKept (take (n - 0) table)
  rules-kept = record { plan = plan-table; acyclic = rw plan-forms plan-rules.acyclic; sizes = rw plan-forms plan-rules.sizes }
