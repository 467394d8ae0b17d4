-- The cases of each answer with 01's numbers and values, and the 64-bit number that carries them to C (docs/ANSWERS.md).
use Rattle.std.specs.Prelude.{cond, ℕ, ◌+◌, ◌*◌, ◌/◌, ◌%◌, List, eqb, Result, Ok, Err}
use Rattle.std.proofs.Math.Option.{Option, none, some}
use Rattle.laws.specs.Wrote.{filled}
use Rattle.text.specs.declared.Refusal.{Refusal}
use Rattle.text.specs.Lines.{refusal}
use Rattle.answers.specs.declared.Verdict.{Verdict}
use Rattle.answers.specs.declared.Verdict.TheVariants.{Free, Deadlock}

-- "one 64-bit number that carries all the numbers above": kind + 256 × a + 65,536 × b. Kind and a are below 256 in every answer that a call gives, so that the number can
-- be read back: `read_counted` and `read_verdict` below (theorems `counted-read`, `verdict-read`), and equal numbers mean equal answers (`counts-equal`, `verdicts-equal`)
abbrev pub answer_number : ℕ → ℕ → ℕ → ℕ
answer_number kind a b = kind + 256 * a + 65536 * b

-- ---- how much: the pairs of a list, "its count is returned"; the bytes of a copy, "Later calls that write .. return how much"; the entries that a schedule needs; the couples of two
-- threads, all of them, however many fit

-- how much, or "A refusal returns its number and a line"
unfoldable pub counted_of : Option Refusal → ℕ → Result ℕ Refusal
counted_of none n = Ok n
counted_of (some r) n = Err r

-- kind 0: b is how much; kind 2, refused: a is the rule, b the line
unfoldable pub counted_number : Result ℕ Refusal → ℕ
counted_number (Ok n) = answer_number 0 0 n
counted_number (Err x) = answer_number 2 x.rule x.line

-- the answer of a number
unfoldable pub read_counted : ℕ → Result ℕ Refusal
read_counted r = cond (eqb (r % 256) 0) (Ok (r / 65536)) (Err (refusal (r / 256 % 256) (r / 65536)))

-- the part b of the answer, which has to be below 2 to the power 40
unfoldable pub counted_high : Result ℕ Refusal → ℕ
counted_high (Ok n) = n
counted_high (Err x) = x.line

-- ---- the verdict

-- kind 0, free; kind 1, deadlock: a is the stuck set (bit t for thread t), b the number of entries; kind 2, refused: a is the rule, b the line
unfoldable pub verdict_number : Result Verdict Refusal → ℕ
verdict_number (Ok Free) = answer_number 0 0 0
verdict_number (Ok (Deadlock n S)) = answer_number 1 S n
verdict_number (Err x) = answer_number 2 x.rule x.line

-- the verdict of a number
unfoldable pub read_verdict : ℕ → Result Verdict Refusal
read_verdict r =
    cond (eqb (r % 256) 0) (Ok Free)
    (cond (eqb (r % 256) 1) (Ok (Deadlock (r / 65536) (r / 256 % 256)))
    (Err (refusal (r / 256 % 256) (r / 65536))))

-- the part b of the verdict
unfoldable pub verdict_high : Result Verdict Refusal → ℕ
verdict_high (Ok Free) = 0
verdict_high (Ok (Deadlock n S)) = n
verdict_high (Err x) = x.line

-- ---- what is written

-- "A refusal .. writes nothing"; what is given fills the buffer's start
abbrev pub written : Option Refusal → List ℕ → List ℕ → List ℕ
written none given before = filled given before
written (some r) given before = before
