-- What 02, change 1, asks of the tidy copy, of the bytes that the call writes: said of the text, of its plan, and of what the other calls may answer. A theorem about whatever
-- the promise lets the call write, `tidy-copies`.
use Rattle.std.specs.Prelude.{ℕ, ◌≤◌, true, List, ◌↔◌, ◌≡◌, length, Result, Ok}
use Rattle.limits.specs.Limits.{max_bytes}
use Rattle.laws.specs.Wrote.{filled}
use Rattle.text.specs.declared.Refusal.{Refusal}
use Rattle.text.specs.Lines.{text_of}
use Rattle.plan.specs.Grammar.{forms}
use Rattle.demands.specs.Broken.{AcceptedText}
use Rattle.answers.specs.declared.Verdict.{Verdict}
use Rattle.answers.specs.Answers.{read_counted}
use Rattle.listing.specs.Listed.{Listed, ListedBytes}
use Rattle.verdict.specs.Judged.{Judged, JudgedBytes}
use Rattle.copies.specs.Copies.{Tidied, TidiedNumber, Straightened, StraightenedNumber, printed_copy}
use Rattle.space.specs.Slip.{Needs, NeedsNumber, printed_slip}
use Rattle.crossing.specs.Crossed.{Crossed, CrossedBytes}
use Rattle.couple_lines.specs.CoupleLines.{printed_couples}
use Rattle.crossings_text.specs.AllCrossings.{printed_crossings}
use Rattle.report_text.specs.Report.{Report}

-- a copy of the accepted text
pub record TidyCopy (text : List ℕ) (x : AcceptedText text) (copy : List ℕ) : Type 0 where
  -- "gives any accepted plan in document 01's bare form"; it always fits
  pub bare : copy ≡ text_of (forms x.plan)
  pub fits : length copy ≤ max_bytes
  -- it is accepted, and its plan is the text's
  pub accepted : AcceptedText copy
  pub same-plan : accepted.plan ≡ x.plan
  -- "Two accepted texts have the same procedures, statements and thread lines in the same order exactly when their tidy copies have equal bytes": whatever other copy a call
  -- writes of an accepted text
  pub equal : (text' : List ℕ) (x' : AcceptedText text') (before : List ℕ) (r : Result ℕ Refusal) (after copy' : List ℕ) → Tidied text' before r after → r ≡ Ok (length copy')
      → after ≡ filled copy' before → (copy ≡ copy') ↔ (x.plan ≡ x'.plan)
  -- "tidying a tidy copy alters nothing"
  pub unaltered : (before : List ℕ) (r : Result ℕ Refusal) (after : List ℕ) → Tidied copy before r after → max_bytes ≤ length before
      → (r ≡ Ok (length copy)) × (after ≡ filled copy before)
  -- "Verdict and pairs are those of the tidy copy": what a call may answer and write for the one, it may for the other, schedules too
  pub verdicts : (before : List ℕ) (v : Result Verdict Refusal) (after : List ℕ) → Judged text before v after ↔ Judged copy before v after
  pub lockplan_verdicts : (before : List ℕ) (n : ℕ) (after : List ℕ) → JudgedBytes text before n after ↔ JudgedBytes copy before n after
  pub pairs : (p : ℕ) (before : List ℕ) (r : Result ℕ Refusal) (after : List ℕ) → Listed text p before r after ↔ Listed copy p before r after
  pub lockplan_pairs : (p : ℕ) (before : List ℕ) (n : ℕ) (after : List ℕ) → ListedBytes text p before n after ↔ ListedBytes copy p before n after
  -- and so is the report
  pub reports : (bytes : List ℕ) → Report text bytes ↔ Report copy bytes
  -- and so are the space that a schedule needs and the slip
  pub spaces : (r : Result ℕ Refusal) → Needs text r ↔ Needs copy r
  pub lockplan_spaces : (n : ℕ) → NeedsNumber text n ↔ NeedsNumber copy n
  pub slips : printed_slip text ≡ printed_slip copy
  -- and so is the straightened copy, also in print
  pub straight : (before : List ℕ) (r : Result ℕ Refusal) (after : List ℕ) → Straightened text before r after ↔ Straightened copy before r after
  pub lockplan_straight : (before : List ℕ) (n : ℕ) (after : List ℕ) → StraightenedNumber text before n after ↔ StraightenedNumber copy before n after
  pub printed-straight : printed_copy true text ≡ printed_copy true copy
  -- and where its threads cross, also in print
  pub crossings : (t u : ℕ) (before : List ℕ) (r : Result ℕ Refusal) (after : List ℕ) → Crossed text t u before r after ↔ Crossed copy t u before r after
  pub lockplan_crossings : (t u : ℕ) (before : List ℕ) (n : ℕ) (after : List ℕ) → CrossedBytes text t u before n after ↔ CrossedBytes copy t u before n after
  pub printed-couples : (t u : ℕ) → printed_couples text t u ≡ printed_couples copy t u
  pub printed-crossings : printed_crossings text ≡ printed_crossings copy

-- of the calls, where the text is accepted and the output holds enough: so many bytes are written, at the output's start, and they are such a copy
pub record TidyCopies (text before after : List ℕ) : Type 0 where
  pub tidy : (r : Result ℕ Refusal) → Tidied text before r after → (x : AcceptedText text) → max_bytes ≤ length before
      → (copy : List ℕ) × (r ≡ Ok (length copy)) × (after ≡ filled copy before) × TidyCopy text x copy
  pub lockplan_tidy : (n : ℕ) → TidiedNumber text before n after → (x : AcceptedText text) → max_bytes ≤ length before
      → (copy : List ℕ) × (read_counted n ≡ Ok (length copy)) × (after ≡ filled copy before) × TidyCopy text x copy
