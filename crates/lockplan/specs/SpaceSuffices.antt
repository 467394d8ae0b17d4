-- What 02, change 4, asks of the space that a schedule needs, of the number that the call answers with: said of the text, of its plan, of what the verdict may answer, and of the
-- slip. A theorem about whatever the promises let the calls answer, `space-suffices`.
use Rattle.std.specs.Prelude.{ℕ, ◌/◌, ◌<◌, ◌≤◌, List, ◌++◌, ◌≡◌, length, Result, Ok, Err}
use Rattle.limits.specs.Limits.{max_entries}
use Rattle.text.specs.declared.Refusal.{Refusal}
use Rattle.text.specs.Lines.{refusal}
use Rattle.semantics.specs.Sizes.{thread_size, thread_sizes}
use Rattle.demands.specs.Broken.{AcceptedText}
use Rattle.report_lines.specs.Lines.{refused_line}
use Rattle.answers.specs.declared.Verdict.{Verdict}
use Rattle.answers.specs.declared.Verdict.TheVariants.{Deadlock}
use Rattle.answers.specs.Answers.{read_counted, read_verdict}
use Rattle.verdict.specs.Judged.{Judged, JudgedBytes}
use Rattle.space.specs.Slip.{Needs, NeedsNumber, size_lines, sum_line, printed_slip}

-- a verdict where so many entries are lent and n are needed
pub record BufferOf (lent n : ℕ) (v : Result Verdict Refusal) (before after : List ℕ) : Type 0 where
  -- "A schedule buffer of that sum must always suffice for the schedule we report"
  pub suffices : n ≤ lent → (x : Refusal) → v ≡ Err x → ⊥
  pub fits : (entries S : ℕ) → v ≡ Ok (Deadlock entries S) → entries ≤ n
  -- "for schedules rule 1 now means fewer entries than this sum"; a refusal writes nothing
  pub fewer : lent < n → (v ≡ Err (refusal 1 0)) × (after ≡ before)

-- the number n of entries that a schedule needs
pub record EntriesNeeded (text : List ℕ) (n : ℕ) : Type 0 where
  -- the text is accepted, and n is the sum of the sizes of its plan's threads, which is never above 01's 6,144
  pub accepted : AcceptedText text
  pub sum : n ≡ thread_sizes accepted.plan
  pub most : n ≤ max_entries
  -- of the verdict
  pub judge : (before : List ℕ) (v : Result Verdict Refusal) (after : List ℕ) → Judged text before v after → BufferOf (length before) n v before after
  pub lockplan_verdict : (before : List ℕ) (m : ℕ) (after : List ℕ) → JudgedBytes text before m after → BufferOf (length before / 2) n (read_verdict m) before after
  -- of the slip: "`(size T S)` for each thread, then `(sum S)`", and S is n
  pub slip : printed_slip text ≡ size_lines (thread_size accepted.plan) (length accepted.plan.threads) ++ sum_line n

-- a text that is refused with x: the verdict refuses it alike, whatever is lent, and the slip has "only its `(refused R L)`"
pub record RefusedAlike (text : List ℕ) (x : Refusal) : Type 0 where
  pub judge : (before : List ℕ) (v : Result Verdict Refusal) (after : List ℕ) → Judged text before v after → v ≡ Err x
  pub lockplan_verdict : (before : List ℕ) (m : ℕ) (after : List ℕ) → JudgedBytes text before m after → read_verdict m ≡ Err x
  pub slip : printed_slip text ≡ refused_line x.rule x.line

-- of the calls, where they answer with a number of entries and where they refuse
pub record SpaceSuffices (text : List ℕ) : Type 0 where
  pub space : (n : ℕ) → Needs text (Ok n) → EntriesNeeded text n
  pub lockplan_space : (m n : ℕ) → NeedsNumber text m → read_counted m ≡ Ok n → EntriesNeeded text n
  pub space-refused : (x : Refusal) → Needs text (Err x) → RefusedAlike text x
  pub lockplan_space_refused : (m : ℕ) (x : Refusal) → NeedsNumber text m → read_counted m ≡ Err x → RefusedAlike text x
