-- The report on a plan text, as its parts in order and as these joined. 01, "The report": "The program prints `(report`, for each procedure `(proc P` with its pairs and
-- `)`, then the verdict and `)`." Left open is only which schedule, as in the verdict's own promise.
use Rattle.std.specs.Prelude.{ℕ, zero, suc, ◌≡◌, length, get_or, Result, Ok, Err}
use mathlib.Core.List.{List, [], ◌∷◌, flatten}
use Rattle.text.specs.declared.Refusal.{Refusal}
use Rattle.semantics.specs.Plan.{Block, LockPlan}
use Rattle.semantics.specs.Pairs.{pair_list}
use Rattle.plan.specs.Rules.{plan_of, plan_refusal}
use Rattle.answers.specs.Judgement.{Judgement}
use Rattle.report_lines.specs.Lines.{report_open, free_line, closing, proc_lines, deadlock_lines, refused_line}
use Rattle.answers.specs.declared.Verdict.{Verdict}
use Rattle.answers.specs.declared.Verdict.TheVariants.{Free, Deadlock}

-- the procedures that are reported: "A refused plan gives only `(report`, `(refused R L)` (rule, line) and `)`"
unfoldable pub procedures : Result Verdict Refusal → LockPlan → ℕ
procedures (Ok Free) plan = length plan.procs
procedures (Ok (Deadlock n S)) plan = length plan.procs
procedures (Err x) plan = 0

-- "for each procedure `(proc P` with its pairs and `)`": n of them from p on, before other parts
unfoldable pub proc_parts : List Block → ℕ → ℕ → List (List ℕ) → List (List ℕ)
proc_parts ps p zero rest = rest
proc_parts ps p (suc n) rest = proc_lines p (pair_list ps p) ∷ proc_parts ps (suc p) n rest

-- "then the verdict", with its schedule
unfoldable pub verdict_part : Result Verdict Refusal → List ℕ → List ℕ
verdict_part (Ok Free) schedule = free_line
verdict_part (Ok (Deadlock n S)) schedule = deadlock_lines S schedule
verdict_part (Err x) schedule = refused_line x.rule x.line

-- "the verdict and `)`"
abbrev pub last_parts : Result Verdict Refusal → List ℕ → List (List ℕ)
last_parts v schedule = verdict_part v schedule ∷ closing ∷ []

-- the parts in order
unfoldable pub parts_of : List ℕ → Result Verdict Refusal → List ℕ → List (List ℕ)
parts_of text v schedule = report_open ∷ proc_parts (plan_of text).procs 0 (procedures v (plan_of text)) (last_parts v schedule)

-- part k, counted from 0, and no byte past the last
abbrev pub part_of : List ℕ → Result Verdict Refusal → List ℕ → ℕ → List ℕ
part_of text v schedule k = get_or (parts_of text v schedule) k []

-- these bytes are a report on the text: of the verdict that the public call promises, by the same definition
pub record Report (text bytes : List ℕ) : Type 0 where
  pub verdict : Result Verdict Refusal
  pub schedule : List ℕ
  pub judged : Judgement (plan_refusal text) (plan_of text) verdict schedule
  pub joined : bytes ≡ flatten (parts_of text verdict schedule)
