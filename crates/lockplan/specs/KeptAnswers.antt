-- What 02, change 9, asks of texts without share: "Plans without share keep their answers, written as records." The answers that they keep are those of 01 and of change 7, given here
-- word for word as they were before shares (pairs and runs: semantics/specs/HoldsOnly; the grammar: plan/specs/Shareless). A theorem, `kept-answers`, of every accepted text that has
-- no `(share` line.
use Rattle.std.specs.Prelude.{ℕ, zero, suc, ◌/◌, ◌%◌, Bool, cond, ◌&&◌, ◌≡◌, eqb, Result}
use mathlib.Core.List.{List, [], ◌∷◌, ◌++◌, map, flat_map}
use Rattle.std.specs.Int.Bits.{bit_and}
use Rattle.laws.specs.Bytes.{bytes}
use Rattle.laws.specs.Mask.{bit}
use Rattle.text.specs.declared.Refusal.{Refusal}
use Rattle.text.specs.Lines.{forms_of}
use Rattle.semantics.specs.Plan.{Block, LockPlan, thread_proc}
use Rattle.semantics.specs.HoldsOnly.{pair_list01, locked_plan, as_record, AnswersKept}
use Rattle.plan.specs.Rules.{plan_of}
use Rattle.plan.specs.Shareless.{forms01}
use Rattle.answers.specs.declared.Verdict.{Verdict}
use Rattle.couples.specs.Couples.{Couple, couple}
use Rattle.couples.specs.Couples as now
use Rattle.report_lines.specs.Lines.{digits, members, lines_of, behind_blank, report_open, proc_open, closing}
use Rattle.report_text.specs.Report.{procedures, verdict_part, parts_of}

-- ---- 02, change 7: where two threads cross

-- "no held lock in common and each wanting a lock that the other holds", as a test
unfoldable pub crosses07 : ℕ → ℕ → Bool
crosses07 v w = eqb (bit_and (v / 32) (w / 32)) 0 && (eqb (bit (w / 32) (v % 32)) 1 && eqb (bit (v / 32) (w % 32)) 1)

-- the couples of the pair v with pairs of a list that cross it, in the list's order
unfoldable pub couples_with07 : ℕ → List ℕ → List Couple
couples_with07 v [] = []
couples_with07 v (w ∷ ws) = cond (crosses07 v w) (couple v w ∷ couples_with07 v ws) (couples_with07 v ws)

-- those of the pairs of two lists
abbrev pub couples_of07 : List ℕ → List ℕ → List Couple
couples_of07 vs ws = flat_map (λ v. couples_with07 v ws) vs

-- those of two threads
abbrev pub couples07 : LockPlan → ℕ → ℕ → List Couple
couples07 plan t u = couples_of07 (pair_list01 plan.procs (thread_proc plan t)) (pair_list01 plan.procs (thread_proc plan u))

-- "written as records"
abbrev pub as_records : Couple → Couple
as_records c = couple (as_record c.first) (as_record c.second)

-- ---- 01, "The report"

-- "A pair line is `(pair L` with the wanted lock. The held locks follow, lowest number first"
unfoldable pub pair_line01 : ℕ → List ℕ
pair_line01 w = bytes "(pair " ++ digits (w % 32) ++ lines_of behind_blank (members 64 (w / 32)) ++ bytes ")" ++ bytes "\n"

-- "for each procedure `(proc P` with its pairs and `)`"
unfoldable pub proc_lines01 : ℕ → List ℕ → List ℕ
proc_lines01 p pairs = proc_open p ++ lines_of pair_line01 pairs ++ closing

unfoldable pub proc_parts01 : List Block → ℕ → ℕ → List (List ℕ) → List (List ℕ)
proc_parts01 ps p zero rest = rest
proc_parts01 ps p (suc n) rest = proc_lines01 p (pair_list01 ps p) ∷ proc_parts01 ps (suc p) n rest

-- the parts in order
unfoldable pub parts_of01 : LockPlan → Result Verdict Refusal → List ℕ → List (List ℕ)
parts_of01 plan v schedule = report_open ∷ proc_parts01 plan.procs 0 (procedures v plan) (verdict_part v schedule ∷ closing ∷ [])

-- ---- what is kept

pub record KeptAnswers (text : List ℕ) : Type 0 where
  -- the plan whose answers are kept is the one that 01 reads in the text
  pub read : forms_of text ≡ forms01 (locked_plan (plan_of text))
  -- sizes, pairs "written as records", whether it is free, and which schedules lead to which stuck sets
  pub answers : AnswersKept (plan_of text)
  -- where two threads cross
  pub couples : (t u : ℕ) → now.couples (plan_of text) t u ≡ map as_records (couples07 (locked_plan (plan_of text)) t u)
  -- the report, byte for byte
  pub report : (v : Result Verdict Refusal) (schedule : List ℕ) → parts_of text v schedule ≡ parts_of01 (locked_plan (plan_of text)) v schedule
