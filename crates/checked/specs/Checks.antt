-- A text checked by the plan's rules in checking order.
use Rattle.std.specs.Prelude.{ℕ, ◌≤◌, List, Result, Ok, Err, ◌≡◌, length, take}
use Rattle.std.proofs.Math.Option.{Option, none, some}
use Rattle.text.specs.declared.Refusal.{Refusal}
use Rattle.text.specs.Lines.{forms_of}
use Rattle.plan.specs.Table.{table_forms}
use Rattle.plan.specs.Settled.{table_plan, RulesKept}
use Rattle.plan.specs.Rules.{plan_refusal, plan_of}
use Rattle.procs.specs.Laid.{Laid}
use Rattle.procs.specs.Ruled.{Ruled}
use Rattle.sizes.specs.Space.{SpaceOf}
use Rattle.checked.specs.declared.CheckedText.{CheckedText}

-- of a table of forms that no rule over forms refuses: how many it has, the layout and the space
pub record CheckedTable (ws : List ℕ) (p : CheckedText) : Type 0 where
  pub forms : p.forms ≡ length ws
  pub laid : Laid ws p.layout
  pub space : SpaceOf (table_plan ws) p.space

-- the answer over a table of forms, where `refused` says whether and how it is refused, and a refusal names a form's number
abbrev pub ChecksTable : Option Refusal → List ℕ → Result CheckedText Refusal → Type 0
ChecksTable refused ws r = Ruled refused (CheckedTable ws) r

-- Of a text that no rule of the plan refuses: the table begins with its forms, so many, which are those of the text's plan within the rules; their layout, and the space of
-- the plan.
pub record AcceptedText (text : List ℕ) (p : CheckedText) (table : List ℕ) : Type 0 where
  pub kept : plan_refusal text ≡ none
  pub forms : p.forms ≡ length (forms_of text)
  pub room : p.forms ≤ length table
  pub tabled : table_forms (take p.forms table) ≡ forms_of text
  pub plan : table_plan (take p.forms table) ≡ plan_of text
  pub rules : RulesKept (take p.forms table)
  pub laid : Laid (take p.forms table) p.layout
  pub space : SpaceOf (plan_of text) p.space

-- the answer over a text: what is left of one that is accepted, and exactly the refusal of one that is refused
abbrev pub Checks : List ℕ → Result CheckedText Refusal → List ℕ → Type 0
Checks text (Ok p) table = AcceptedText text p table
Checks text (Err x) table = plan_refusal text ≡ some x
