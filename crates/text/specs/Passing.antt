-- Passing over, at places of a text: what a step leaves, and where it stops. A place may stand within a line, behind spaces of it: what is left of the line there reads
-- as the whole line does. 02, change 1.
use Rattle.std.specs.Prelude.{ℕ, ◌+◌, ◌<◌, ◌≤◌, false, List, Option, Some, None, ◌≡◌, length, take, drop}
use Rattle.text.specs.declared.Place.{Place}
use Rattle.text.specs.Lines.{line_length, split, unindented, passed_over, forms_in, unreadable, line_for}

-- a place in the line `line`
abbrev pub place : ℕ → ℕ → Place
place at line = record { at = at; line = line }

-- What stands from two places of a text on is read alike: the same forms, the same unreadable line, and forms in the same lines. So it is where only spaces at the start of
-- a line, and lines that are passed over, stand between them. The line's number grows no faster than the place.
pub record ReadAlike (text : List ℕ) (p q : Place) : Type 0 where
  pub later : p.at ≤ q.at
  pub within : q.at ≤ length text
  pub counted : q.line + p.at ≤ p.line + q.at
  pub forms : forms_in (split (drop p.at text)).ended ≡ forms_in (split (drop q.at text)).ended
  pub readable : unreadable p.line (split (drop p.at text)).ended (split (drop p.at text)).tail
      ≡ unreadable q.line (split (drop q.at text)).ended (split (drop q.at text)).tail
  pub lines : (k : ℕ) → line_for k p.line (split (drop p.at text)).ended ≡ line_for k q.line (split (drop q.at text)).ended

-- the bytes of the line at a place, from there on
abbrev pub rest_of_line : List ℕ → ℕ → List ℕ
rest_of_line text at = take (line_length (drop at text)) (drop at text)

-- nothing is passed over at a place: the text ends there, or its last line stands there and is not ended, or a line that is to be read
unfoldable pub Stops : List ℕ → ℕ → Type 0
Stops text at = at + line_length (drop at text) < length text → (unindented (rest_of_line text at) ≡ rest_of_line text at) × (passed_over (rest_of_line text at) ≡ false)

-- the place q is behind the line at the place p, which is ended
pub record LineBehind (text : List ℕ) (p q : Place) : Type 0 where
  pub place : q.at ≡ p.at + line_length (drop p.at text) + 1
  pub within : q.at ≤ length text
  pub line : q.line ≡ p.line + 1

-- the cases of one step of passing over: to a later place that is read alike, or none
unfoldable pub PassedOne : List ℕ → Place → Option Place → Type 0
PassedOne text p (Some q) = ReadAlike text p q × (p.at < q.at)
PassedOne text p None = Stops text p.at
