-- Forms by what holds of them, the first such form, and its line in the file. 01, "Rules, in checking order".
use Rattle.std.specs.Prelude.{ℕ, ◌+◌, ◌<◌, List, ◌∷◌, ◌++◌, ◌≡◌, length}
use Rattle.text.specs.declared.Form.{Form}
use Rattle.text.specs.Lines.{line_of}

-- "first such line", and first such form or procedure
pub record First (P : ℕ → Type 0) (n : ℕ) : Type 0 where
  pub here : P n
  pub none_before : (m : ℕ) → m < n → P m → ⊥

-- form n of the forms fs, counted from 1, of which P holds: P says something of the forms before it and of itself
pub record FormWhere (P : List Form → Form → Type 0) (fs : List Form) (n : ℕ) : Type 0 where
  pub before : List Form
  pub form : Form
  pub after : List Form
  pub split : fs ≡ before ++ form ∷ after
  pub number : n ≡ length before + 1
  pub holds : P before form

-- 02, change 1, "Lines are still counted as they stand in the file": P holds of a form's number, and line n of the text is that form's, or one more than the last
-- line for the number behind the last form's. Forms stand in the order of their lines, so the first such form stands in the first such line (theorem `line-apart`)
pub record InFile (text : List ℕ) (P : ℕ → Type 0) (n : ℕ) : Type 0 where
  pub number : ℕ
  pub holds : P number
  pub line : n ≡ line_of text number
