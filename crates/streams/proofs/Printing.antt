-- Parts printed one after the other are printed whole: with each part its bytes are added, and behind the last none is left. No report has more parts than the most.
use Prim.Native.Nat.{ℕ, ◌+◌, ◌<◌, ◌≤◌}
use native.Mathlib.Numerals.{add-one}
use native.Mathlib.Omega.{arith}
use mathlib.Core.List.{List, [], flatten}
use mathlib.Core.Logic.{⊎_elim}
use mathlib.Core.Path.{◌≡◌, refl, ap, ◌∙◌}
use lib.ListN.{length, take, drop, get_or, length-append, drop_of_length-le, get_or-eq_default}
use lib.Seq.{drop-cons}
use Rattle.std.proofs.Common.{Result, Ok, Err, IsErr}
use Rattle.std.proofs.lemmas.Result.{IfOk-from_err}
use Rattle.laws.proofs.Tests.{lt_or_le}
use Rattle.laws.specs.Wrote.{Wrote}
use Rattle.laws.proofs.Wrote.{wrote-start}
use Rattle.text.specs.declared.Refusal.{Refusal}
use Rattle.answers.specs.Judgement.{schedule_in}
use Rattle.report_text.specs.declared.Findings.{Findings}
use Rattle.report_text.specs.Report.{parts_of}
use Rattle.report_text.specs.Tables.{most_parts, verdict_in, Prepared}
use Rattle.report_text.proofs.Whole.{parts_report, few_parts}
use Rattle.streams.specs.declared.Unwritten.{Unwritten}
use Rattle.streams.specs.Printing.{AllPrinted, AllOrNone, ReportPrinted}

-- ---- parts of any kind

-- so many bytes were printed, and the parts from k on are left
abbrev pub PrintedTo : List (List ℕ) → ℕ → ℕ → Type 0
PrintedTo parts k bytes = bytes + length (flatten (drop k parts)) ≡ length (flatten parts)

-- what is left, with the next part apart
next-part : (parts : List (List ℕ)) (k : ℕ) → length (flatten (drop k parts)) ≡ length (get_or parts k []) + length (flatten (drop (k + 1) parts))
unfolding flatten
next-part parts k = ⊎_elim there past (lt_or_le k (length parts))
  where
    there : k < length parts → length (flatten (drop k parts)) ≡ length (get_or parts k []) + length (flatten (drop (k + 1) parts))
    there h = rw (drop-cons parts k [] h, add-one) (length-append (get_or parts k []) _)

    past : length parts ≤ k → length (flatten (drop k parts)) ≡ length (get_or parts k []) + length (flatten (drop (k + 1) parts))
    past h = rw (drop_of_length-le parts {i = k} h, drop_of_length-le parts {i = k + 1} (omega arith), get_or-eq_default parts [] {n = k} h) refl

-- what stands at the start of a buffer is printed with the buffer's first bytes
pub start-printed : (r : Result ℕ Unwritten) (out out' : List ℕ) (n : ℕ) (given : List ℕ) → Wrote out out' 0 n given → AllOrNone r (take n out') → AllPrinted r given
start-printed (Ok m) out out' n given w p = p ∙ ap length (wrote-start out out' 0 n given w refl)
start-printed (Err e) out out' n given w p = tt

module _ (parts : List (List ℕ)) (k bytes : ℕ) (before : PrintedTo parts k bytes) where
  pub part-printed : (n m : ℕ) (out out' : List ℕ) → Wrote out out' 0 n (get_or parts k []) → m ≡ bytes + length (take n out') → PrintedTo parts (k + 1) m
  part-printed n m out out' w e = omega (arith, next-part parts k, ap length (wrote-start out out' 0 n (get_or parts k []) w refl))

  pub parts_printed : length parts ≤ k → bytes ≡ length (flatten parts)
  unfolding flatten
  parts_printed h = let z = ap (λ l. length (flatten l)) (drop_of_length-le parts {i = k} h) in omega arith

-- ---- those of a report

-- the report on a text that was judged, part by part
abbrev pub reported : List ℕ → Result Findings Refusal → List ℕ → List (List ℕ)
reported text j entries = parts_of text (verdict_in j) (schedule_in (verdict_in j) entries)

module _ (text : List ℕ) (j : Result Findings Refusal) (table entries : List ℕ) (x : Prepared text j table entries) where
  -- no report has more parts than the most
  pub report-printed : (k bytes : ℕ) → PrintedTo (reported text j entries) k bytes → most_parts ≤ k → ReportPrinted text (Ok bytes)
  report-printed k bytes before h = record {
    given = flatten (reported text j entries);
    report = parts_report text table entries j x;
    printed = parts_printed (reported text j entries) k bytes before (omega (arith, few_parts text (verdict_in j) (schedule_in (verdict_in j) entries) x.judged));
  }

  pub report-unwritten : (r : Result ℕ Unwritten) → IsErr r → ReportPrinted text r
  report-unwritten r e = record { given = flatten (reported text j entries); report = parts_report text table entries j x; printed = IfOk-from_err r _ e }
