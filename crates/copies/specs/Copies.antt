-- The tidy copy of a plan text and the straightened one, and what the calls promise. 02, change 1: "We also want a writer that gives any accepted plan in document 01's bare form".
-- Change 8: "Reviewers read a shorter plan .. Write that copy in tidy form, into an output as for the tidy one."
use Rattle.std.specs.Prelude.{ℕ, Bool, true, false, List, ◌≡◌, length, Result}
use Rattle.text.specs.declared.Refusal.{Refusal}
use Rattle.plan.specs.Rules.{plan_of, plan_refusal, copy_refusal}
use Rattle.straightening.specs.Straight.{straight_plan}
use Rattle.bare_text.specs.Bare.{bare_text}
use Rattle.report_lines.specs.Lines.{unless_refused}
use Rattle.answers.specs.Answers.{counted_of, counted_number, written}

-- the tidy copy of an accepted text
unfoldable pub tidy_of : List ℕ → List ℕ
tidy_of text = bare_text (plan_of text)

-- the straightened copy of an accepted text, "in tidy form"
unfoldable pub straight_of : List ℕ → List ℕ
straight_of text = bare_text (straight_plan (plan_of text))

-- the one or the other
abbrev pub copy_of : Bool → List ℕ → List ℕ
copy_of false text = tidy_of text
copy_of true text = straight_of text

-- A copy of a text into a lent output: the answer, and the output, which the copy fills from its start on; a refusal writes nothing. `copy` is the bytes to be written, which ones
-- `Tidied` and `Straightened` say.
pub record Copied (copy text before : List ℕ) (r : Result ℕ Refusal) (after : List ℕ) : Type 0 where
  pub answer : r ≡ counted_of (copy_refusal text (length before)) (length copy)
  pub output : after ≡ written (copy_refusal text (length before)) copy before

-- The same with the answer as a number.
pub record CopiedNumber (copy text before : List ℕ) (r : ℕ) (after : List ℕ) : Type 0 where
  pub counted : Result ℕ Refusal
  pub number : r ≡ counted_number counted
  pub copied : Copied copy text before counted after

-- the promises of the calls
abbrev pub Tidied : List ℕ → List ℕ → Result ℕ Refusal → List ℕ → Type 0
Tidied text = Copied (tidy_of text) text

abbrev pub TidiedNumber : List ℕ → List ℕ → ℕ → List ℕ → Type 0
TidiedNumber text = CopiedNumber (tidy_of text) text

abbrev pub Straightened : List ℕ → List ℕ → Result ℕ Refusal → List ℕ → Type 0
Straightened text = Copied (straight_of text) text

abbrev pub StraightenedNumber : List ℕ → List ℕ → ℕ → List ℕ → Type 0
StraightenedNumber text = CopiedNumber (straight_of text) text

-- What a program prints: the copy of an accepted text, and of a refused one `(refused R L)` alone.
unfoldable pub printed_copy : Bool → List ℕ → List ℕ
printed_copy straighten text = unless_refused (plan_refusal text) (copy_of straighten text)
