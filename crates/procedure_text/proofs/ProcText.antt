-- The text of a procedure. The code looks for the next form that begins a procedure or a thread, and the form before it is the closing one that the brackets give. Of an
-- accepted text the lines from the procedure's `(proc` to that form spell the procedure's forms (`proc-written`).
use Prim.Native.Nat.{ℕ, suc, ◌+◌, ◌-◌, ◌<◌, ◌≤◌}
use native.Mathlib.Omega.{arith}
use mathlib.Core.Path.{◌≡◌, refl, sym, ap, subst, ◌∙◌}
use mathlib.Core.List.{List, [], ◌∷◌}
use mathlib.Core.Option.{none, some}
use mathlib.Core.Bool.{Bool, true, false}
use lib.ListN.{length, take, drop, get_or}
use lib.Dec.{ltb}
use denote.Ref.{Bor}
use borrow.Author.Tests.{lt-ltb, le-ltb, ltb-true}
use Rattle.text.specs.Lines.{forms_of, unreadable_line, IsText}
use Rattle.semantics.specs.Plan.{LockPlan, body_in}
use Rattle.text.specs.declared.Form.{Form}
use Rattle.plan.specs.Grammar.{forms, proc_forms}
use Rattle.plan.specs.Table.{form_at, table_forms}
use Rattle.plan.specs.Settled.{PlanTable, table_plan}
use Rattle.plan.specs.Starts.{Starts}
use Rattle.text.specs.declared.Refusal.{Refusal}
use Rattle.plan.specs.Rules.{plan_refusal, plan_of, proc_form_from}
use Rattle.checked.specs.declared.CheckedText.{CheckedText}
use Rattle.checked.specs.Checks.{AcceptedText}
use Rattle.parts.specs.Parts.{Span, span, bytes_in, PartAt, forms_span, forms_before, forms_to_closing}
use Rattle.procs.proofs.Places.{map-drop}
use Rattle.parts.proofs.Spans.{span-spelled}
use Rattle.parts.proofs.ProcForms.{ProcForms, proc-forms}
use Rattle.procedure_text.specs.ProcText.{or_empty, lines_of_proc, proc_text, table_lines}
use Rattle.plan.proofs.AcceptedTable.{accepted-rules, accepted-text, accepted-settled}

-- an empty part
pub part-empty : (s r : Bor (List ℕ)) (part : Span) → r.ref_ptr ≡ (s.ref_ptr.0, 0 + s.ref_ptr.1) → r.now ≡ [] → span 0 0 ≡ part → PartAt s part r
part-empty s r part l b e = rw (← e) (record { lies = l; bytes = b })

module _ (ws : List ℕ) (p procs : ℕ) (c : procs ≡ length (table_plan ws).procs) where
  pub table-absent : (text : List ℕ) → procs ≤ p → span 0 0 ≡ table_lines text ws p
  unfolding table_lines
  table-absent text h = rw (le-ltb p (length (table_plan ws).procs) (omega arith))

  module _ (starts : List ℕ) (s : Starts ws starts) (h : p < procs) where
    number : get_or starts p 0 ≡ proc_form_from 1 p (table_forms ws)
    number = s.numbers p (omega arith)

    pub start_first : PlanTable ws → 1 ≤ get_or starts p 0
    start_first t =
        (proc-forms (table_plan ws) p (omega arith) t.settled.some-thread (get_or starts p 0) (number ∙ ap (proc_form_from 1 p) t.written)).first

    pub start-within : get_or starts p 0 ≤ length ws
    start-within = (s.stands p (omega arith)).within

    pub table-there : (text r : Bor (List ℕ))
        → PartAt text (forms_span text.now (get_or starts p 0) (get_or starts p 0 + forms_before (table_forms (drop (get_or starts p 0) ws)))) r
        → PartAt text (table_lines text.now ws p) r
    unfolding table_lines
    table-there text r e = rw (lt-ltb p (length (table_plan ws).procs) (omega arith), ← number) e

-- ---- of a text

pub lines-refused : (text : List ℕ) (p : ℕ) (x : Refusal) → plan_refusal text ≡ some x → span 0 0 ≡ proc_text text p
unfolding proc_text
lines-refused text p x e = rw e

-- a procedure of a table that holds the forms of a text's plan: its closing form is the last before the next procedure or thread
module _ (text ws : List ℕ) (p : ℕ) (t : PlanTable ws) (e : table_forms ws ≡ forms_of text) where
  forms-there : p < length (table_plan ws).procs → ProcForms (table_plan ws) p (proc_form_from 1 p (forms (table_plan ws)))
  forms-there h = proc-forms (table_plan ws) p h t.settled.some-thread (proc_form_from 1 p (forms (table_plan ws))) refl

  table-lines : (b : Bool) → ltb p (length (table_plan ws).procs) ≡ b → table_lines text ws p ≡ or_empty none b (lines_of_proc text p)
  unfolding table_lines lines_of_proc
  table-lines true h =
      let k = (forms-there (ltb-true p (length (table_plan ws).procs) h)).closing in
      rw (h, map-drop form_at (proc_form_from 1 p (table_forms ws)) ws, ← e, t.written, k)
  table-lines false h = rw h

module _ (text : List ℕ) (p : ℕ) (table : List ℕ) (plan : CheckedText) (a : AcceptedText text plan table) where
  text-lines : table_lines text (take plan.forms table) p ≡ proc_text text p
  unfolding proc_text plan_of
  text-lines =
      let found = table-lines text (take plan.forms table) p a.rules.plan a.tabled (ltb p (length (table_plan (take plan.forms table)).procs)) refl in
      rw a.kept (found ∙ rw a.tabled)

pub text-part : (text r : Bor (List ℕ)) (p : ℕ) (table : List ℕ) (plan : CheckedText) → AcceptedText text.now plan table
    → PartAt text (table_lines text.now (take plan.forms table) p) r → PartAt text (proc_text text.now p) r
text-part text r p table plan a h = rw (← text-lines text.now p table plan a) h

-- ---- what the lines are

-- the lines of procedure p of a readable text, whose forms are those of a plan
spelled-lines : (text : List ℕ) (fs : List Form) (plan : LockPlan) (p : ℕ) → unreadable_line text ≡ none → forms_of text ≡ fs → fs ≡ forms plan
    → p < length plan.procs → 0 < length plan.threads
    → IsText (bytes_in text (forms_span text (proc_form_from 1 p fs) (proc_form_from 1 p fs + forms_to_closing 0 (drop (proc_form_from 1 p fs) fs))))
    (proc_forms (body_in plan.procs p ∷ []) [])
spelled-lines text fs plan p readable e f h t =
    let k = proc_form_from 1 p (forms plan) in
    let n = forms_to_closing 0 (drop k (forms plan)) in
    let x = proc-forms plan p h t k refl in
    let all : forms_of text ≡ forms plan = e ∙ f in
    let s = span-spelled text readable k (k + n) x.first (omega arith) (omega (arith, x.within, ap length all)) in
    let size : k + n - (k - 1) ≡ suc n = omega (arith, x.first) in
    rw f (subst (IsText (bytes_in text (forms_span text k (k + n)))) (rw (all, size) x.between) s)

-- of an accepted text: the lines of the part spell the forms of the procedure
pub proc-written : (text : List ℕ) (p : ℕ) → plan_refusal text ≡ none → p < length (plan_of text).procs
    → IsText (bytes_in text (proc_text text p)) (proc_forms (body_in (plan_of text).procs p ∷ []) [])
unfolding proc_text lines_of_proc
proc-written text p e h =
    rw (e, lt-ltb p (length (plan_of text).procs) h)
    (spelled-lines text (forms_of text) (plan_of text) p (accepted-rules text e).readable refl (accepted-text text e) h (accepted-settled text e).some-thread)
