-- The part of a text that the text call answers with. 01, "Pairs, verdict, schedule"; 02, change 1: whole lines, as they stand in the file.
use Rattle.std.specs.Prelude.{ℕ, ◌+◌, Bool, cond, List, ltb, length, drop}
use Rattle.std.proofs.Math.Option.{Option, none, some}
use Rattle.text.specs.Lines.{forms_of}
use Rattle.text.specs.declared.Refusal.{Refusal}
use Rattle.plan.specs.Table.{table_forms}
use Rattle.plan.specs.Settled.{table_plan}
use Rattle.plan.specs.Rules.{plan_of, plan_refusal, proc_form_from}
use Rattle.parts.specs.Parts.{Span, span, forms_span, forms_before, forms_to_closing}

-- "from the `(proc` line to its closing line, line end included": the lines of procedure p as they stand, where the text has it. They spell the procedure's forms (theorem
-- `proc-written`)
unfoldable pub lines_of_proc : List ℕ → ℕ → Span
lines_of_proc text p =
    let k = proc_form_from 1 p (forms_of text) in
    forms_span text k (k + forms_to_closing 0 (drop k (forms_of text)))

-- "with an empty part and no number if a rule about the plan .. refuses it or the procedure is absent": 2 to 9, and 12 and 13, of 02, changes 2 and 6
abbrev pub or_empty : Option Refusal → Bool → Span → Span
or_empty none there part = cond there part (span 0 0)
or_empty (some r) there part = span 0 0

-- "The text call answers with the part of the caller's text from the `(proc` line to its closing line, line end included": which part of the text
unfoldable pub proc_text : List ℕ → ℕ → Span
proc_text text p = or_empty (plan_refusal text) (ltb p (length (plan_of text).procs)) (lines_of_proc text p)

-- the lines of a procedure of a table, in its text
unfoldable pub table_lines : List ℕ → List ℕ → ℕ → Span
table_lines text ws p =
    let k = proc_form_from 1 p (table_forms ws) in
    cond (ltb p (length (table_plan ws).procs)) (forms_span text k (k + forms_before (table_forms (drop k ws)))) (span 0 0)
