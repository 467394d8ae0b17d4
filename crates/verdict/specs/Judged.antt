-- Demand 3: what the verdict promises, of its answer and of the buffer that it was lent, by the plan text alone. 01, "Pairs, verdict, schedule".
use Rattle.std.specs.Prelude.{ℕ, ◌/◌, List, ◌≡◌, length, Result}
use Rattle.laws.specs.Wrote.{filled}
use Rattle.text.specs.declared.Refusal.{Refusal}
use Rattle.plan.specs.Settled.{table_plan}
use Rattle.plan.specs.Rules.{plan_of, too_few_entries, verdict_refusal}
use Rattle.buffers.specs.LittleEndian.{list_bytes}
use Rattle.answers.specs.declared.Verdict.{Verdict}
use Rattle.answers.specs.Answers.{verdict_number}
use Rattle.answers.specs.Judgement.{Judgement, Judges}

-- The verdict on a text: the rules say whether it is refused, rule 1 by the entries lent, and its plan which answer is right.
abbrev pub Judged : List ℕ → List ℕ → Result Verdict Refusal → List ℕ → Type 0
Judged text before = Judges (verdict_refusal text (length before)) (plan_of text) before

-- The same on a buffer of bytes, two for each entry, lowest first, with the verdict's number; a last odd byte is never touched.
pub record JudgedBytes (text before : List ℕ) (r : ℕ) (after : List ℕ) : Type 0 where
  pub verdict : Result Verdict Refusal
  pub schedule : List ℕ
  pub number : r ≡ verdict_number verdict
  pub judged : Judgement (verdict_refusal text (length before / 2)) (plan_of text) verdict schedule
  pub buffer : after ≡ filled (list_bytes 2 schedule) before

-- on the way: the verdict on the table of a plan that keeps the plan's rules, where rule 1 is asked of the buffer
abbrev pub LentJudged : List ℕ → List ℕ → Result Verdict Refusal → List ℕ → Type 0
LentJudged ws before = Judges (too_few_entries (table_plan ws) (length before)) (table_plan ws) before
