-- Rule 5, a test of the counts of what has been read, form after form; rules 6 to 8, a test of each form's number. 01, "Rules, in checking order".
use Rattle.std.specs.Prelude.{ℕ, suc, ◌+◌, ◌-◌, ◌≤◌, Bool, true, false, cond, List, [], ◌∷◌, eqb, ltb, leb}
use Rattle.std.specs.Prelude.{Some, None}
use Rattle.std.specs.Prelude as std
use Rattle.std.proofs.Math.Option.{Option, none, some}
use Rattle.limits.specs.Limits.{max_procs, max_statements, max_threads, max_brackets, lock_count}
use Rattle.laws.specs.Choice.{pick}
use Rattle.text.specs.declared.Form.{Form}
use Rattle.text.specs.Forms.{number_in, is_proc, is_thread, is_close, is_call, takes_lock, is_statement, is_bracket}
use Rattle.plan.specs.declared.Counts.{Counts}

-- ---- 5

-- the counts of procedures, statements and threads, and of "brackets of hold, loop, either, one and two open together in a procedure"; 02, change 9: a share is "one statement
-- and one bracket in rule 5"
abbrev pub as_counts : ℕ → ℕ → ℕ → ℕ → Counts
as_counts p s t o = record { procs = p; statements = s; threads = t; depth = o }

abbrev pub no_counts : Counts
no_counts = as_counts 0 0 0 0

-- no count is above n
pub record Small (c : Counts) (n : ℕ) : Type 0 where
  pub procs : c.procs ≤ n
  pub statements : c.statements ≤ n
  pub threads : c.threads ≤ n
  pub depth : c.depth ≤ n

-- one more, if b
abbrev pub add_if : Bool → ℕ → ℕ
add_if b n = cond b (n + 1) n

-- how many brackets are open within the procedure behind a form, where d were open before. A `)` with none open closes the procedure or the plan
abbrev pub depth_after : Form → ℕ → ℕ
depth_after f d = cond (is_close f) (d - 1) (add_if (is_bracket f) d)

-- one form more
unfoldable pub counted : Counts → Form → Counts
counted c f = as_counts (add_if (is_proc f) c.procs) (add_if (is_statement f) c.statements) (add_if (is_thread f) c.threads) (depth_after f c.depth)

-- 5: "more than 64 procedures, 1,024 statements, 6 threads, or 16 brackets"
unfoldable pub over_limit : Counts → Bool
over_limit c = pick (ltb max_procs c.procs) true (pick (ltb max_statements c.statements) true (pick (ltb max_threads c.threads) true (ltb max_brackets c.depth)))

-- the first form at which a count is past its limit, of the forms from number k on, where c counts those before: "first line past a limit"
unfoldable pub past_limit_from : Counts → ℕ → List Form → Option ℕ
past_limit_from c k [] = none
past_limit_from c k (f ∷ fs) = cond (over_limit (counted c f)) (some k) (past_limit_from (counted c f) (suc k) fs)

-- rule 5 over the whole text
unfoldable pub past_limit_form : List Form → Option ℕ
past_limit_form fs = past_limit_from no_counts 1 fs

-- ---- 6 to 8

-- the rule that tests a form's number: 6 a hold's or a share's lock, 7 a call's procedure, 8 a thread's; 0 where none does
unfoldable pub tested_by : Form → ℕ
tested_by f = cond (is_thread f) 8 (cond (is_call f) 7 (cond (takes_lock f) 6 0))

-- the same as code has it: the number of the rule, 0 for none
abbrev pub rule_number : std.Option ℕ → ℕ
rule_number (Some rule) = rule
rule_number None = 0

-- the least number that breaks the rule, where there are n procedures. 6: "A hold names a lock above 31"; 02, change 9, of a share: "rule 6 for its lock". 7, by 02, change 2:
-- "a call of a procedure that is not there". 8: "A thread names a procedure that is not there"
unfoldable pub least_bad : ℕ → ℕ → ℕ
least_bad rule n = pick (eqb rule 6) lock_count n

-- whether a form breaks rule 6, 7 or 8, where there are n procedures
unfoldable pub breaks : ℕ → ℕ → Form → Bool
breaks rule n f = pick (eqb (tested_by f) rule) (leb (least_bad rule n) (number_in f)) false

-- the first form that breaks it, of the forms from number k on: "first such line"
unfoldable pub breaking : ℕ → ℕ → ℕ → List Form → Option ℕ
breaking rule n k [] = none
breaking rule n k (f ∷ fs) = cond (breaks rule n f) (some k) (breaking rule n (suc k) fs)

-- how many of the forms are of a kind
unfoldable pub count_if : (Form → Bool) → List Form → ℕ
count_if kind [] = 0
count_if kind (f ∷ fs) = cond (kind f) 1 0 + count_if kind fs

-- rule 6, 7 or 8 over the whole text, which has as many procedures as `(proc` forms
unfoldable pub breaking_form : ℕ → List Form → Option ℕ
breaking_form rule fs = breaking rule (count_if is_proc fs) 1 fs
