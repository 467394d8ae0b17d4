-- What a text leaves in the tables: those of its plan where it is accepted, and else the refusal, with no procedure to report.
use Prim.Native.Nat.{ℕ, ◌-◌, ◌≤◌}
use native.Mathlib.Omega.{arith}
use mathlib.Core.Path.{◌≡◌, refl, sym, ◌∙◌}
use mathlib.Core.List.{List}
use mathlib.Core.Option.{Option, none, some}
use lib.ListN.{length, take, length-take}
use Rattle.std.proofs.Common.{Result, Ok, Err}
use Rattle.limits.specs.Limits.{max_entries}
use Rattle.semantics.specs.Plan.{LockPlan}
use Rattle.semantics.specs.Sizes.{thread_sizes}
use Rattle.text.specs.declared.Refusal.{Refusal}
use Rattle.plan.specs.Rules.{plan_refusal, plan_of}
use Rattle.plan.specs.Table.{table_forms}
use Rattle.plan.specs.Settled.{table_plan, RulesKept}
use Rattle.plan.proofs.WithinSize.{sum-within}
use Rattle.checked.specs.declared.CheckedText.{CheckedText}
use Rattle.checked.specs.Checks.{AcceptedText}
use Rattle.deadlock.specs.Findings.{TableJudged}
use Rattle.report_text.specs.declared.Findings.{Findings}
use Rattle.answers.specs.declared.Verdict.{Verdict}
use Rattle.answers.specs.Judgement.{Judgement, schedule_length, schedule_in}
use Rattle.answers.proofs.Schedules.{as-long, start-taken}
use Rattle.report_text.specs.Tables.{verdict_in, Prepared, ProcTables}

-- "The program lends enough, so it never meets rule 1."
pub entries-enough : (ws entries : List ℕ) → RulesKept ws → max_entries ≤ length entries → thread_sizes (table_plan ws) ≤ length entries
entries-enough ws entries w h = omega (arith, sum-within (table_forms ws) w.plan.settled w.sizes)

found-judged : (ws before after : List ℕ) (v : Verdict) → TableJudged ws before v after → Judgement none (table_plan ws) (Ok v) (schedule_in (Ok v) after)
found-judged ws before after v d = rw (d.buffer, start-taken none (table_plan ws) (Ok v) d.schedule before d.judged) d.judged

-- ---- an accepted text

pub plan-prepared : (text table before after : List ℕ) (plan : CheckedText) (v : Verdict) → AcceptedText text plan table → TableJudged (take plan.forms table) before v after
    → Prepared text (Ok (record { forms = plan.forms; layout = plan.layout; verdict = v })) table after
unfolding verdict_in
plan-prepared text table before after plan v a d = record {
  judged = rw (a.kept, ← a.plan) (found-judged (take plan.forms table) before after v d);
  tables = (record { room = a.room; within = a.rules; laid = a.laid }, a.plan);
}

-- ---- a refused text

pub refused-prepared : (text table entries : List ℕ) (r : Result Findings Refusal) (x : Refusal) → r ≡ Err x → plan_refusal text ≡ some x → Prepared text r table entries
unfolding Judgement verdict_in schedule_in schedule_length
refused-prepared text table entries r x k e = rw k (record { judged = (e, refl); tables = tt })

-- ---- what the parts ask of a judged text

schedule-fits : (o : Option Refusal) (plan : LockPlan) (v : Result Verdict Refusal) (entries : List ℕ) → Judgement o plan v (schedule_in v entries) → schedule_length v ≤ length entries
unfolding schedule_in
schedule-fits o plan v entries d = let e = as-long o plan v (take (schedule_length v) entries) d in omega (arith, rw length-take at e)

module _ (text table entries : List ℕ) (r : Result Findings Refusal) (x : Prepared text r table entries) where
  pub judged-schedule : (f : Findings) → r ≡ Ok f → schedule_length (Ok f.verdict) ≤ length entries
  unfolding verdict_in
  judged-schedule f g = rw g at (schedule-fits (plan_refusal text) (plan_of text) (verdict_in r) entries x.judged)

  pub refused-schedule : (y : Refusal) → schedule_length (Err y) ≤ length entries
  unfolding schedule_length
  refused-schedule y = omega arith

  pub judged-tables : (f : Findings) → r ≡ Ok f → ProcTables f table
  judged-tables f g = (rw g at x.tables).0
