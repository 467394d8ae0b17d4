-- What 02, change 8, asks of the straightened copy, of the bytes that the call writes: said of the text, of both plans, of the critical pairs of source 000, of all runs of both
-- gateways, and of what the other calls may answer. A theorem about whatever the promise lets the call write, `straight-copies`.
use Rattle.std.specs.Prelude.{ℕ, ◌/◌, ◌<◌, ◌≤◌, ◌↔◌, ◌≡◌, length, Result, Ok}
use mathlib.Core.List.{List, flatten}
use Rattle.limits.specs.Limits.{max_bytes}
use Rattle.laws.specs.Wrote.{filled}
use Rattle.text.specs.declared.Refusal.{Refusal}
use Rattle.text.specs.Lines.{text_of}
use Rattle.semantics.specs.Plan.{LockPlan, body_in}
use Rattle.semantics.specs.Sizes.{size_of, thread_sizes}
use Rattle.semantics.specs.Stuck.{DeadlockFree}
use Rattle.semantics.specs.Language.{PublishedCritical}
use Rattle.plan.specs.Grammar.{forms}
use Rattle.demands.specs.Broken.{AcceptedText}
use Rattle.straightening.specs.Straight.{straight_plan, StraightLine}
use Rattle.answers.specs.declared.Verdict.{Verdict}
use Rattle.answers.specs.declared.Verdict.TheVariants.{Free, Deadlock}
use Rattle.answers.specs.Answers.{read_counted, read_verdict}
use Rattle.listing.specs.Listed.{Listed, ListedBytes}
use Rattle.verdict.specs.Judged.{Judged, JudgedBytes}
use Rattle.copies.specs.Copies.{Tidied, Straightened, StraightenedNumber}
use Rattle.space.specs.Slip.{Needs, NeedsNumber}
use Rattle.crossing.specs.Crossed.{Crossed, CrossedBytes}
use Rattle.report_text.specs.Report.{parts_of, Report}
use Rattle.lockplan.specs.Demands.{StuckReached}

-- a straightened plan beside its original
pub record Straightening (plan straightened : LockPlan) : Type 0 where
  -- "every either replaced by its two blocks one after the other, every loop by its block"; none of them is left
  pub is : straightened ≡ straight_plan plan
  pub straight_line : (p : ℕ) → StraightLine (body_in straightened.procs p)
  -- "its pairs, procedure by procedure, .. are equal to the original's": of the published definition
  pub procedures : length straightened.procs ≡ length plan.procs
  pub pairs : (p : ℕ) → p < length plan.procs → (w : ℕ) → PublishedCritical straightened.procs p w ↔ PublishedCritical plan.procs p w
  -- "and its free or deadlock": no run of the one gateway reaches a stuck set exactly if none of the other's does, and some run exactly if some run of the other's does
  pub free : DeadlockFree straightened.procs straightened.threads ↔ DeadlockFree plan.procs plan.threads
  pub deadlock : StuckReached straightened ↔ StuckReached plan
  -- no size grows, and so no more entries are to be lent for a schedule
  pub sizes : (p : ℕ) → size_of straightened.procs p ≤ size_of plan.procs p
  pub sum : thread_sizes straightened ≤ thread_sizes plan

-- two verdicts that are both free or both a deadlock. "Its schedule may be another."
pub data SameVerdict (v v' : Result Verdict Refusal) : Type 0 where
  both-free : v ≡ Ok Free → v' ≡ Ok Free → SameVerdict v v'
  both-deadlock : (n S n' S' : ℕ) → v ≡ Ok (Deadlock n S) → v' ≡ Ok (Deadlock n' S') → SameVerdict v v'

-- a copy of the accepted text
pub record StraightCopy (text : List ℕ) (x : AcceptedText text) (copy : List ℕ) : Type 0 where
  -- "in tidy form". "Reviewers read a shorter plan": at least it is no longer, and so it always fits
  pub bare : copy ≡ text_of (forms (straight_plan x.plan))
  pub no_longer : length copy ≤ length text
  -- "it is accepted whenever the original is", and its plan is the straightened one
  pub accepted : AcceptedText copy
  pub plan : Straightening x.plan accepted.plan
  -- the pair list may answer and write for the one what it may for the other
  pub pairs : (p : ℕ) (before : List ℕ) (r : Result ℕ Refusal) (after : List ℕ) → Listed text p before r after ↔ Listed copy p before r after
  pub lockplan_pairs : (p : ℕ) (before : List ℕ) (n : ℕ) (after : List ℕ) → ListedBytes text p before n after ↔ ListedBytes copy p before n after
  -- and so may the crossings
  pub crossings : (t u : ℕ) (before : List ℕ) (r : Result ℕ Refusal) (after : List ℕ) → Crossed text t u before r after ↔ Crossed copy t u before r after
  pub lockplan_crossings : (t u : ℕ) (before : List ℕ) (n : ℕ) (after : List ℕ) → CrossedBytes text t u before n after ↔ CrossedBytes copy t u before n after
  -- both are free or both a deadlock, if each is lent the entries that it needs; what the text needs is enough for both
  pub verdicts : (before : List ℕ) (v : Result Verdict Refusal) (after : List ℕ) → Judged text before v after → (before' : List ℕ) (v' : Result Verdict Refusal) (after' : List ℕ) → Judged copy before' v' after'
      → thread_sizes x.plan ≤ length before → thread_sizes accepted.plan ≤ length before' → SameVerdict v v'
  pub lockplan_verdicts : (before : List ℕ) (n : ℕ) (after : List ℕ) → JudgedBytes text before n after → (before' : List ℕ) (n' : ℕ) (after' : List ℕ)
      → JudgedBytes copy before' n' after' → thread_sizes x.plan ≤ length before / 2 → thread_sizes accepted.plan ≤ length before' / 2
      → SameVerdict (read_verdict n) (read_verdict n')
  -- and so in print: a report on the copy has the procedures, with their pairs, of one on the text, and the same free or deadlock
  pub reports : (bytes bytes' : List ℕ) (d : Report text bytes) (d' : Report copy bytes')
      → SameVerdict d.verdict d'.verdict × (bytes' ≡ flatten (parts_of text d'.verdict d'.schedule))
  -- no more entries are to be lent for a schedule of the copy
  pub spaces : (n n' : ℕ) → Needs text (Ok n) → Needs copy (Ok n') → n' ≤ n
  pub lockplan_spaces : (m m' n n' : ℕ) → NeedsNumber text m → NeedsNumber copy m' → read_counted m ≡ Ok n → read_counted m' ≡ Ok n' → n' ≤ n
  -- straightening the copy alters nothing, and, "in tidy form", tidying it does not
  pub unaltered : (before : List ℕ) (r : Result ℕ Refusal) (after : List ℕ) → Straightened copy before r after → max_bytes ≤ length before
      → (r ≡ Ok (length copy)) × (after ≡ filled copy before)
  pub tidy : (before : List ℕ) (r : Result ℕ Refusal) (after : List ℕ) → Tidied copy before r after → max_bytes ≤ length before
      → (r ≡ Ok (length copy)) × (after ≡ filled copy before)

-- of the calls, where the text is accepted and the output holds enough: so many bytes are written, at the output's start, and they are such a copy
pub record StraightCopies (text before after : List ℕ) : Type 0 where
  pub straight : (r : Result ℕ Refusal) → Straightened text before r after → (x : AcceptedText text) → max_bytes ≤ length before
      → (copy : List ℕ) × (r ≡ Ok (length copy)) × (after ≡ filled copy before) × StraightCopy text x copy
  pub lockplan_straight : (n : ℕ) → StraightenedNumber text before n after → (x : AcceptedText text) → max_bytes ≤ length before
      → (copy : List ℕ) × (read_counted n ≡ Ok (length copy)) × (after ≡ filled copy before) × StraightCopy text x copy
