-- What a function that prints promises: what it counts. That bytes were handed on, which they were, and what the operating system answered, no contract can say: a function that wrote
-- nothing, or other bytes, and counted right would keep this promise. `streams::print_to` alone hands bytes on and takes the answer, and the gate compares what is written.
use Rattle.std.specs.Prelude.{ℕ, ◌+◌, List, ◌≡◌, length, Result, IfOk, MatchResult}
use Rattle.io.specs.Counts.{IsPrefixLen}
use Rattle.report_text.specs.Report.{Report}
use Rattle.streams.specs.declared.Unwritten.{Unwritten}
use Rattle.streams.specs.declared.Unread.{Unread}

-- where it says that all was written, it has counted as many bytes as there are to print
abbrev pub AllPrinted : Result ℕ Unwritten → List ℕ → Type 0
AllPrinted r given = IfOk r (λ n. n ≡ length given)

-- one write: it counts with all its bytes, or with none where it failed
abbrev pub AllOrNone : Result ℕ Unwritten → List ℕ → Type 0
AllOrNone r given = MatchResult r (λ n. n ≡ length given) (λ e. e.bytes ≡ 0)

-- one part more, behind so many bytes: all are counted, or where it failed those before it
abbrev pub PrintedBehind : ℕ → Result ℕ Unwritten → List ℕ → Type 0
PrintedBehind bytes r part = MatchResult r (λ n. n ≡ bytes + length part) (λ e. e.bytes ≡ bytes)

-- a report on the text is printed, of any of the schedules that the verdict leaves open
pub record ReportPrinted (text : List ℕ) (r : Result ℕ Unwritten) : Type 0 where
  pub given : List ℕ
  pub report : Report text given
  pub printed : AllPrinted r given

-- so many bytes were read into the start of a buffer, all or those before reading failed
abbrev pub PrefixRead : Result ℕ Unread → List ℕ → Type 0
PrefixRead r text = MatchResult r (λ n. IsPrefixLen n text) (λ e. IsPrefixLen e.bytes text)
