-- The rules in checking order, as five refusals: the plan's, the verdict's, the pair list's, a copy's, the crossings'. 01, "Rules, in checking order": "A refusal
-- returns its number and a line (0 where none is named) .. Each rule is tested over the whole text before the next." The rules 4 to 9, 12 and 13 are said of the list of
-- forms and name a form by its number, from 1; `in_file` names its line in the file. 02, change 5, of rule 10: "take it out, its number unused".
use Rattle.std.specs.Prelude.{ℕ, zero, suc, ◌-◌, Bool, not, ◌&&◌, ◌||◌, cond, List, [], ◌∷◌, ◌≡◌, ltb, leb, eqb, length, take, Result, Ok, Err}
use Rattle.std.proofs.Math.Option.{Option, none, some, or_else}
use Rattle.limits.specs.Limits.{max_bytes, max_size, max_pair_words}
use Rattle.text.specs.declared.Form.{Form}
use Rattle.text.specs.declared.Refusal.{Refusal}
use Rattle.text.specs.Forms.{is_proc}
use Rattle.text.specs.Lines.{refusal, forms_of, unreadable_line, line_of}
use Rattle.semantics.specs.Plan.{LockPlan}
use Rattle.semantics.specs.CallMasks.{reaches, reachable}
use Rattle.semantics.specs.Sizes.{size_of, thread_sizes}
use Rattle.plan.specs.Grammar.{plan_in}
use Rattle.plan.specs.Structure.{misplaced_form}
use Rattle.plan.specs.Table.{table_forms}
use Rattle.plan.specs.Limits.{past_limit_form, breaking_form}

-- a rule that names a line or, of the rules over forms, a form by its number
abbrev pub refused_at : ℕ → Option ℕ → Option Refusal
refused_at rule none = none
refused_at rule (some n) = some (refusal rule n)

-- a rule that names no line
abbrev pub refused_if : ℕ → Bool → Option Refusal
refused_if rule b = cond b (some (refusal rule 0)) none

-- 2: "The text has more than 32,768 bytes (line 0)."
unfoldable pub too_long : List ℕ → Option Refusal
too_long text = refused_if 2 (ltb max_bytes (length text))

-- rules 2 and 3: what makes a text a list of forms
unfoldable pub lines_refusal : List ℕ → Option Refusal
lines_refusal text = or_else (too_long text) (refused_at 3 (unreadable_line text))

-- rules 6 to 8, of the forms of a text: what holds and shares, calls and threads name
unfoldable pub references_refusal : List Form → Option Refusal
references_refusal fs = or_else (refused_at 6 (breaking_form 6 fs)) (or_else (refused_at 7 (breaking_form 7 fs)) (refused_at 8 (breaking_form 8 fs)))

-- rules 4 to 8
unfoldable pub grammar_refusal : List Form → Option Refusal
grammar_refusal fs = or_else (refused_at 4 (misplaced_form fs)) (or_else (refused_at 5 (past_limit_form fs)) (references_refusal fs))

-- the plan of a text that the rules up to 8 let pass
unfoldable pub plan_of : List ℕ → LockPlan
plan_of text = plan_in (forms_of text)

-- "Procedures are numbered from 0 in text order": which form procedure p's `(proc` is, of the forms from number k on; 0 where there is none
unfoldable pub proc_form_from : ℕ → ℕ → List Form → ℕ
proc_form_from k p [] = 0
proc_form_from k p (f ∷ fs) = cond (is_proc f && eqb p 0) k (proc_form_from (suc k) (cond (is_proc f) (p - 1) p) fs)

-- the lowest of n numbers from p on that passes a test
unfoldable pub lowest_from : (ℕ → Bool) → ℕ → ℕ → Option ℕ
lowest_from test p zero = none
lowest_from test p (suc n) = cond (test p) (some p) (lowest_from test (suc p) n)

-- the `(proc` of the procedure found, if one is
abbrev pub proc_form : List Form → Option ℕ → Option ℕ
proc_form fs none = none
proc_form fs (some p) = some (proc_form_from 1 p fs)

-- "`(proc` line of the lowest such", of the procedures that pass a test: the number of that form
unfoldable pub proc_refusal : ℕ → List Form → (ℕ → Bool) → Option Refusal
proc_refusal rule fs test = refused_at rule (proc_form fs (lowest_from test 0 (length (plan_in fs).procs)))

-- 12, 02, change 2: "a procedure that reaches itself, .. names the `(proc` line of the lowest such"
unfoldable pub recursive : List Form → Option Refusal
recursive fs = proc_refusal 12 fs (λ p. reaches (plan_in fs).procs p p)

-- 13, 02, change 6: "a procedure that no thread names or reaches through calls", "naming the first idle procedure's `(proc` line"
unfoldable pub idle : List Form → Option Refusal
idle fs = proc_refusal 13 fs (λ p. not (reachable (plan_in fs) p))

-- 9: "Some procedure's size exceeds 1,024"
unfoldable pub too_large : List Form → Option Refusal
too_large fs = proc_refusal 9 fs (λ p. ltb max_size (size_of (plan_in fs).procs p))

-- rules 12 and 13, of the forms of a plan: by what its procedures reach
abbrev pub reach_refusal : List Form → Option Refusal
reach_refusal fs = or_else (recursive fs) (idle fs)

-- rules 12, 13 and 9: 12 "follows rule 8", 13 "stands after 12 and before 9"
abbrev pub procs_refusal : List Form → Option Refusal
procs_refusal fs = or_else (reach_refusal fs) (too_large fs)

-- the rules over the forms: 4 to 8, 12, 13, 9
unfoldable pub forms_refusal : List Form → Option Refusal
forms_refusal fs = or_else (grammar_refusal fs) (procs_refusal fs)

-- 02, change 1, "Lines are still counted as they stand in the file": a refusal that names a form by its number, with the form's line in its place, or one more than the last
-- line for the number behind the last form's
abbrev pub refusal_in_file : List ℕ → Refusal → Refusal
refusal_in_file text x = refusal x.rule (line_of text x.line)

abbrev pub in_file : List ℕ → Option Refusal → Option Refusal
in_file text none = none
in_file text (some x) = some (refusal_in_file text x)

-- the plan's rules: 2 to 8, 12, 13, 9. For the space that a schedule needs these are 02's, change 4: "every rule on it up to and with 9, in checking order"
unfoldable pub plan_refusal : List ℕ → Option Refusal
plan_refusal text = or_else (lines_refusal text) (in_file text (forms_refusal (forms_of text)))

-- 1, by 02, change 4: "for schedules rule 1 now means fewer entries than this sum", that of the threads' sizes
unfoldable pub too_few_entries : LockPlan → ℕ → Option Refusal
too_few_entries plan lent = refused_if 1 (ltb lent (thread_sizes plan))

-- the verdict's: the plan's, then 1. 02, change 5: "the schedule buffer is now tested last of the plan's rules"
unfoldable pub verdict_refusal : List ℕ → ℕ → Option Refusal
verdict_refusal text lent = or_else (plan_refusal text) (too_few_entries (plan_of text) lent)

-- the pair list's: 1, shorter than 1,533 words (02, change 9: "The pair buffer is 1,533 words"), then the plan's, then 11, "The pairs of a procedure that is not there are
-- requested (line 0)."
unfoldable pub pairs_refusal : List ℕ → ℕ → ℕ → Option Refusal
pairs_refusal text p lent = or_else (refused_if 1 (ltb lent max_pair_words)) (or_else (plan_refusal text) (refused_if 11 (leb (length (plan_of text).procs) p)))

-- a copy's: 02, change 1, of the tidy one, "The output must hold 32,768 bytes, otherwise rule 1 applies.", then the plan's; change 8, of the straightened one: "into an output as
-- for the tidy one"
unfoldable pub copy_refusal : List ℕ → ℕ → Option Refusal
copy_refusal text lent = or_else (refused_if 1 (ltb lent max_bytes)) (plan_refusal text)

-- 14, 02, change 7: "a thread not there or the same one twice", of t and u where there are n threads
unfoldable pub are_no_two : ℕ → ℕ → ℕ → Bool
are_no_two n t u = leb n t || (leb n u || eqb t u)

-- it names no line
abbrev pub no_two_threads : LockPlan → ℕ → ℕ → Option Refusal
no_two_threads plan t u = refused_if 14 (are_no_two (length plan.threads) t u)

-- that of the crossings of the threads t and u: the plan's, then 14, which "comes after every rule of the plan"
unfoldable pub crossings_refusal : List ℕ → ℕ → ℕ → Option Refusal
crossings_refusal text t u = or_else (plan_refusal text) (no_two_threads (plan_of text) t u)

-- The cases of a reading, with 01's numbers: none of the rules asked is broken, and how many forms there are, after rule 5 how many procedures; or the number of the
-- first rule broken and its line, of a reading of forms the number of the form.
unfoldable pub reading_of : Option Refusal → ℕ → Result ℕ Refusal
reading_of none n = Ok n
reading_of (some r) n = Err r

-- the answer of a check of forms, with the line in the file of the form that a refusal names
abbrev pub read_in_file : {A : Type 0} → List ℕ → Result A Refusal → Result A Refusal
read_in_file text (Ok n) = Ok n
read_in_file text (Err x) = Err (refusal_in_file text x)

-- The promise of a call that reads a text into a table, where `refused` says whether and how the text is refused: the answer, and where it is accepted the table
-- begins with the text's forms.
pub record Tabled (refused : Option Refusal) (text : List ℕ) (r : Result ℕ Refusal) (table : List ℕ) : Type 0 where
  pub answer : r ≡ reading_of refused (length (forms_of text))
  pub forms : refused ≡ none → table_forms (take (length (forms_of text)) table) ≡ forms_of text
