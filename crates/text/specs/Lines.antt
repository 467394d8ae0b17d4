-- The lines of a text, what is passed over of them, and what reading one gives. 01, "The plan text" and rule 3; 02, change 1.
use Rattle.std.specs.Prelude.{Bool, true, cond, ℕ, suc, ◌+◌, ◌-◌, ◌≡◌, List, [], ◌∷◌, ◌++◌, Option, Some, None, Result, Ok, Err, ◌==◌, eqb, ltb, length, take, drop, get_or}
use Rattle.std.specs.List.{position_or_len}
use Rattle.std.proofs.Math.Option.{Option as Maybe, none, some}
use Rattle.laws.specs.Choice.{pick}
use Rattle.text.specs.declared.Form.{Form}
use Rattle.text.specs.declared.Refusal.{Refusal}
use Rattle.text.specs.declared.Line.{Line}
use Rattle.text.specs.Forms.{write, IsForm}
use Rattle.text.specs.Kinds.{kind_of}

-- "each line ended by byte 10": how many bytes stand before the first byte 10, or all
unfoldable pub line_length : List ℕ → ℕ
line_length l = position_or_len (λ b. b == 10) l

-- the number of the rule broken, and the line
abbrev pub refusal : ℕ → ℕ → Refusal
refusal r l = record { rule = r; line = l }

-- "Reading a line gives either a form with its number or the refusal, never both." The cases of the answer, with 01's numbers: the form and the place of the next
-- line; rule 3, "Some line is none of the forms above", and the line's number
unfoldable pub line_answer : Option Form → ℕ → ℕ → Result Line Refusal
line_answer (Some f) next line = Ok (record { form = f; next = next })
line_answer None next line = Err (refusal 3 line)

-- What stands of a line from the place `at` on, where its spaces were passed over. A line that is not ended is refused. At or past the end of the text there is no
-- line, and the answer is the refusal too: the caller asks only before the end.
unfoldable pub line_at : List ℕ → ℕ → ℕ → Result Line Refusal
line_at text at line =
    let n = line_length (drop at text) in
    cond (ltb (at + n) (length text)) (line_answer (kind_of (take n (drop at text))) (at + n + 1) line) (Err (refusal 3 line))

-- A text cut at each byte 10: its ended lines, and what stands after the last of them.
pub record Split : Type 0 where
  pub ended : List (List ℕ)
  pub tail : List ℕ

-- one byte in front of a split text
abbrev pub push_byte : ℕ → List (List ℕ) → List ℕ → Split
push_byte b [] t = record { ended = []; tail = b ∷ t }
push_byte b (l ∷ ls) t = record { ended = (b ∷ l) ∷ ls; tail = t }

unfoldable pub split : List ℕ → Split
split [] = record { ended = []; tail = [] }
split (b ∷ bs) =
    cond (eqb b 10) (record { ended = [] ∷ (split bs).ended; tail = (split bs).tail })
    (push_byte b (split bs).ended (split bs).tail)

-- 02, change 1, "Spaces before a form .. are to be passed over": what remains of a line behind them. A space is byte 32 alone
unfoldable pub unindented : List ℕ → List ℕ
unindented [] = []
unindented (b ∷ bs) = cond (eqb b 32) (unindented bs) (b ∷ bs)

-- nothing remains of the line, or what remains begins with `;`
abbrev pub blank_or_remark : List ℕ → Bool
blank_or_remark [] = true
blank_or_remark (b ∷ bs) = eqb b 59

-- 02, change 1: "empty or all-space lines, and lines whose first non-space byte is `;` are to be passed over, anywhere"
unfoldable pub passed_over : List ℕ → Bool
passed_over l = blank_or_remark (unindented l)

-- line n of those that are ended, "lines from 1"
abbrev pub ended_line : List ℕ → ℕ → List ℕ
ended_line text n = get_or (split text).ended (n - 1) []

-- the form of a line that is one, in front of others
abbrev pub cons_form : Option Form → List Form → List Form
cons_form (Some f) fs = f ∷ fs
cons_form None fs = fs

-- the forms of lines, those that are none left out; a line that is passed over is none (theorem `passed-unknown`)
unfoldable pub forms_in : List (List ℕ) → List Form
forms_in [] = []
forms_in (l ∷ ls) = cons_form (kind_of (unindented l)) (forms_in ls)

-- the forms of a text
unfoldable pub forms_of : List ℕ → List Form
forms_of text = forms_in (split text).ended

-- "the last is not ended": a line of at least one byte without its byte 10
abbrev pub unended : ℕ → List ℕ → Maybe ℕ
unended line [] = none
unended line (b ∷ bs) = some line

-- the line where this one is no form, else what the lines after it say
abbrev pub unknown_or : ℕ → Option Form → Maybe ℕ → Maybe ℕ
unknown_or line (Some f) later = later
unknown_or line None later = some line

-- rule 3, "Some line is none of the forms above, or the last is not ended (first such line)", for lines from a number on. 02, change 1: it "judges what remains of each
-- line, and a last line not ended breaks it even if passed over"
unfoldable pub unreadable : ℕ → List (List ℕ) → List ℕ → Maybe ℕ
unreadable line [] tail = unended line tail
unreadable line (l ∷ ls) tail = pick (passed_over l) (unreadable (suc line) ls tail) (unknown_or line (kind_of (unindented l)) (unreadable (suc line) ls tail))

-- rule 3 of a whole text, "lines from 1"
unfoldable pub unreadable_line : List ℕ → Maybe ℕ
unreadable_line text = unreadable 1 (split text).ended (split text).tail

-- the line that is not passed over and has so many such lines before it, in lines from a number on; where there is none, one more than the last line
unfoldable pub line_for : ℕ → ℕ → List (List ℕ) → ℕ
line_for before line [] = line
line_for before line (l ∷ ls) = pick (passed_over l) (line_for before (suc line) ls) (cond (eqb before 0) line (line_for (before - 1) (suc line) ls))

-- 02, change 1, "Lines are still counted as they stand in the file": of a text that keeps rule 3 the line of form k, "lines from 1" and forms from 1 (theorem
-- `line-holds`). The number behind that of the last form stands for one more than the last line, lines that are passed over counted (theorem `line-past`)
unfoldable pub line_of : List ℕ → ℕ → ℕ
line_of text k = line_for (k - 1) 1 (split text).ended

-- the text of forms, document 01's bare form: each form's bytes, followed by byte 10
unfoldable pub text_of : List Form → List ℕ
text_of [] = []
text_of (f ∷ fs) = write f ++ 10 ∷ text_of fs

-- lines that spell forms, in order: each is passed over, or is spaces or none and then the bytes in which the next form is written
pub data Spells : List (List ℕ) → List Form → Type 0 where
  nothing : Spells [] []
  over : (l : List ℕ) (ls : List (List ℕ)) (fs : List Form) → passed_over l ≡ true → Spells ls fs → Spells (l ∷ ls) fs
  form : (l : List ℕ) (f : Form) (ls : List (List ℕ)) (fs : List Form) → IsForm (unindented l) f → Spells ls fs → Spells (l ∷ ls) (f ∷ fs)

-- a text is read as these forms exactly when its lines are all ended and spell them (theorem `text-written`)
pub record IsText (text : List ℕ) (fs : List Form) : Type 0 where
  pub all-ended : (split text).tail ≡ []
  pub spelled : Spells (split text).ended fs
