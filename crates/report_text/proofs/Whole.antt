-- The parts joined are a report on the text (`parts_report`). No byte is written exactly past the last part (`last-part`), and no text has more than a part for each of the procedures that rule 5 allows and three more (`few_parts`).
use Prim.Native.Nat.{ℕ, zero, suc, ◌+◌, ◌<◌, ◌≤◌}
use native.Mathlib.Nat.{not-suc-le-zero, le_of_suc-le-suc}
use native.Mathlib.Omega.{arith}
use mathlib.Core.Path.{◌≡◌, refl, ap}
use mathlib.Core.List.{List, [], ◌∷◌, flatten}
use mathlib.Core.Logic.{◌↔◌, ⊎_elim}
use lib.ListN.{length, get_or, get_or-eq_default}
use Rattle.std.proofs.Common.{Result, Ok, Err}
use Rattle.text.specs.declared.Refusal.{Refusal}
use Rattle.limits.specs.Limits.{max_procs}
use Rattle.laws.proofs.Tests.{lt_or_le}
use Rattle.semantics.specs.Plan.{Block}
use Rattle.plan.specs.Rules.{plan_refusal, plan_of}
use Rattle.plan.proofs.AcceptedTable.{accepted-settled}
use Rattle.report_lines.specs.Lines.{report_open, free_line, closing, proc_open, proc_lines, deadlock_open, deadlock_lines, refused_line}
use Rattle.report_text.specs.declared.Findings.{Findings}
use Rattle.answers.specs.declared.Verdict.{Verdict}
use Rattle.answers.specs.declared.Verdict.TheVariants.{Free, Deadlock}
use Rattle.answers.specs.Judgement.{Judgement, schedule_in}
use Rattle.report_text.specs.Report.{procedures, proc_parts, verdict_part, parts_of, part_of, Report}
use Rattle.report_text.specs.Tables.{most_parts, verdict_in, Prepared}

pub parts_report : (text table entries : List ℕ) (r : Result Findings Refusal) → Prepared text r table entries
    → Report text (flatten (parts_of text (verdict_in r) (schedule_in (verdict_in r) entries)))
parts_report text table entries r x = record { verdict = verdict_in r; schedule = schedule_in (verdict_in r) entries; judged = x.judged; joined = refl }

-- ---- every part has a byte

NonEmpty : List (List ℕ) → Type 0
NonEmpty ls = (i : ℕ) → i < length ls → 0 < length (get_or ls i [])

one_more : (l : List ℕ) (ls : List (List ℕ)) → 0 < length l → NonEmpty ls → NonEmpty (l ∷ ls)
unfolding NonEmpty
one_more l ls h f zero b = h
one_more l ls h f (suc i) b = f i (le_of_suc-le-suc b)

none_yet : NonEmpty []
unfolding NonEmpty
none_yet i b = absurd (not-suc-le-zero b)

procedure_bytes : (p : ℕ) (ws : List ℕ) → 0 < length (proc_lines p ws)
unfolding proc_lines proc_open
procedure_bytes p ws = omega arith

verdict-bytes : (v : Result Verdict Refusal) (schedule : List ℕ) → 0 < length (verdict_part v schedule)
unfolding verdict_part free_line deadlock_lines deadlock_open refused_line
verdict-bytes (Ok Free) schedule = omega arith
verdict-bytes (Ok (Deadlock n S)) schedule = omega arith
verdict-bytes (Err x) schedule = omega arith

procedures-bytes : (ps : List Block) (rest : List (List ℕ)) (n p : ℕ) → NonEmpty rest → NonEmpty (proc_parts ps p n rest)
unfolding proc_parts
procedures-bytes ps rest zero p f = f
procedures-bytes ps rest (suc n) p f = one_more _ _ (procedure_bytes p _) (procedures-bytes ps rest n (suc p) f)

module _ (text : List ℕ) (v : Result Verdict Refusal) (schedule : List ℕ) where
  parts_bytes : NonEmpty (parts_of text v schedule)
  unfolding parts_of report_open closing
  parts_bytes =
      one_more _ _ (omega arith)
      (procedures-bytes _ _ (procedures v (plan_of text)) 0 (one_more _ _ (verdict-bytes v schedule) (one_more _ _ (omega arith) none_yet)))

  pub last-part : (k : ℕ) → (length (parts_of text v schedule) ≤ k) ↔ (length (part_of text v schedule k) ≡ 0)
  unfolding NonEmpty
  last-part k = (
    λ h. ap length (get_or-eq_default (parts_of text v schedule) [] h),
    λ e. ⊎_elim (λ (h : k < length (parts_of text v schedule)). absurd (omega (arith, parts_bytes k h))) (λ h. h) (lt_or_le k (length (parts_of text v schedule))),
  )

-- ---- how many there are

procedures-length : (ps : List Block) (rest : List (List ℕ)) (n p : ℕ) → length (proc_parts ps p n rest) ≡ n + length rest
unfolding proc_parts
procedures-length ps rest zero p = omega arith
procedures-length ps rest (suc n) p = omega (arith, procedures-length ps rest n (suc p))

few-procedures : (text : List ℕ) (v : Result Verdict Refusal) (schedule : List ℕ) → Judgement (plan_refusal text) (plan_of text) v schedule → procedures v (plan_of text) ≤ max_procs
unfolding Judgement procedures
few-procedures text (Ok Free) schedule d = (accepted-settled text d.0).few-procs
few-procedures text (Ok (Deadlock n S)) schedule d = (accepted-settled text d.0).few-procs
few-procedures text (Err x) schedule d = omega arith

pub few_parts : (text : List ℕ) (v : Result Verdict Refusal) (schedule : List ℕ) → Judgement (plan_refusal text) (plan_of text) v schedule → length (parts_of text v schedule) ≤ most_parts
unfolding parts_of
few_parts text v schedule d = omega (arith, procedures-length (plan_of text).procs (verdict_part v schedule ∷ closing ∷ []) (procedures v (plan_of text)) 0, few-procedures text v schedule d)
