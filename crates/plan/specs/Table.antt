-- A form as a code in a table: its kind plus 16 times its number. A form is read back from its code (theorem `form_of_code`).
use Rattle.std.specs.Prelude.{cond, ℕ, ◌+◌, ◌*◌, ◌/◌, ◌%◌, ◌≤◌, min, List, map, eqb, length, set, Result, Ok, Err}
use Rattle.limits.specs.Limits.{max_bytes}
use Rattle.text.specs.declared.Form.{Form}
use Rattle.text.specs.declared.Form.TheVariants.{Plan, Proc, Thread, Close, Skip, Call, Hold, Loop, Either, One, Two, Share}
use Rattle.text.specs.declared.Line.{Line}
use Rattle.text.specs.declared.Refusal.{Refusal}
use Rattle.text.specs.Forms.{kind_number, number_in}

-- the code of a form
unfoldable pub code_of : Form → ℕ
code_of f = kind_number f + 16 * number_in f

-- the number in a code
abbrev pub number_at : ℕ → ℕ
number_at w = w / 16 % 65536

-- the form of a code; a code of no form reads as `)`
unfoldable pub form_at : ℕ → Form
form_at w =
    cond (eqb (w % 16) 0) Plan
    (cond (eqb (w % 16) 1) Proc
    (cond (eqb (w % 16) 2) (Thread (number_at w))
    (cond (eqb (w % 16) 4) Skip
    (cond (eqb (w % 16) 5) (Call (number_at w))
    (cond (eqb (w % 16) 6) (Hold (number_at w))
    (cond (eqb (w % 16) 7) Loop
    (cond (eqb (w % 16) 8) Either
    (cond (eqb (w % 16) 9) One
    (cond (eqb (w % 16) 10) Two
    (cond (eqb (w % 16) 11) (Share (number_at w))
    Close))))))))))

-- the forms that a table holds
abbrev pub table_forms : List ℕ → List Form
table_forms ws = map form_at ws

-- a table with the form of a line at place n; of a refused line nothing is written
abbrev pub with_line : Result Line Refusal → ℕ → List ℕ → List ℕ
with_line (Ok line) n table = set table n (code_of line.form)
with_line (Err x) n table = table

-- a table with room for the forms of a text, as far as rule 2 lets it be read: a form's line has two bytes at least
pub record FormRoom (text table : List ℕ) : Type 0 where
  pub room : min (length text) max_bytes ≤ 2 * length table
