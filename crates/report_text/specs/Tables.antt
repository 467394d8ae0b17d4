-- The tables that a report is written from, and their room.
use Rattle.std.specs.Prelude.{ℕ, ◌+◌, ◌≤◌, List, ◌≡◌, length, take, Result, Ok, Err, IfOk}
use Rattle.limits.specs.Limits.{max_procs, max_pairs}
use Rattle.text.specs.declared.Refusal.{Refusal}
use Rattle.plan.specs.Rules.{plan_of, plan_refusal}
use Rattle.plan.specs.Settled.{table_plan, RulesKept}
use Rattle.procs.specs.Laid.{Laid}
use Rattle.report_lines.specs.Lines.{proc_lines_room}
use Rattle.report_text.specs.declared.Findings.{Findings}
use Rattle.answers.specs.declared.Verdict.{Verdict}
use Rattle.answers.specs.Judgement.{Judgement, schedule_in}

-- the room for a part of the report: that for the lines of a procedure, which is more than that for a deadlock
abbrev pub part_room : ℕ
part_room = proc_lines_room max_pairs

-- no report has more parts: the opening, the procedures, the verdict, the closing line
abbrev pub most_parts : ℕ
most_parts = max_procs + 3

-- the verdict that was found, or the refusal
unfoldable pub verdict_in : Result Findings Refusal → Result Verdict Refusal
verdict_in (Ok f) = Ok f.verdict
verdict_in (Err x) = Err x

-- the table holds a plan within the rules, and its layout is known
pub record ProcTables (f : Findings) (table : List ℕ) : Type 0 where
  pub room : f.forms ≤ length table
  pub within : RulesKept (take f.forms table)
  pub laid : Laid (take f.forms table) f.layout

-- A text is judged: the verdict is that on the text, and where it is accepted the table holds its plan.
pub record Prepared (text : List ℕ) (r : Result Findings Refusal) (table entries : List ℕ) : Type 0 where
  pub judged : Judgement (plan_refusal text) (plan_of text) (verdict_in r) (schedule_in (verdict_in r) entries)
  pub tables : IfOk r (λ f. ProcTables f table × (table_plan (take f.forms table) ≡ plan_of text))
