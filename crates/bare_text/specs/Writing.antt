-- What the writers of a copy leave in the output that they were lent: at its start the lines of the forms that the copy retains. 02, change 1: "each nested part is written
-- into what is left of the lent output". A tidy copy retains all forms, a straightened one is without those of loops and eithers (change 8).
use Rattle.std.specs.Prelude.{ℕ, ◌+◌, ◌<◌, ◌≤◌, Bool, true, not, ◌&&◌, cond, List, [], ◌∷◌, ◌++◌, ◌≡◌, length, drop, get_or}
use Rattle.std.specs.Coded.{Π_prop, le_prop}
use Rattle.laws.specs.Wrote.{Wrote}
use Rattle.text.specs.declared.Form.{Form}
use Rattle.text.specs.declared.Form.TheVariants.{Plan, Proc, Hold, Loop, Either, One, Two, Share}
use Rattle.text.specs.Forms.{write, number_in, kind_in, is_close}
use Rattle.text.specs.Lines.{text_of}
use Rattle.plan.specs.Table.{form_at, table_forms}

-- a form's line, ended
unfoldable pub form_line : Form → List ℕ
form_line f = write f ++ (10 ∷ [])

-- the numbers of a table's forms are below 1,000: they have at most three digits
unfoldable pub SmallTable : List ℕ → Type 0
SmallTable ws = (k : ℕ) → k < length ws → number_in (form_at (get_or ws k 0)) < 1000

-- so it can be a ghost field
pub SmallTable-prop : (ws : List ℕ) → IsProp (SmallTable ws)
unfolding SmallTable
SmallTable-prop ws = Π_prop λ k. Π_prop λ _. le_prop

-- how many bytes the lines of a table's forms have from a place on
abbrev pub bytes_from : List ℕ → ℕ → ℕ
bytes_from ws at = length (text_of (drop at (table_forms ws)))

-- the output has room for them
abbrev pub RoomFor : List ℕ → ℕ → List ℕ → Type 0
RoomFor ws at out = bytes_from ws at ≤ length out

-- ---- the forms that a copy retains

-- forms that open a bracket, of the plan, of a procedure or within one
abbrev pub opens_block : Form → Bool
opens_block f = kind_in (Plan ∷ Proc ∷ Hold 0 ∷ Loop ∷ Either ∷ One ∷ Two ∷ Share 0 ∷ []) f

-- forms of loops and eithers, which straightening leaves out
abbrev pub left_out : Form → Bool
left_out f = kind_in (Loop ∷ Either ∷ One ∷ Two ∷ []) f

-- whether a copy, straightened or not, retains a form. A closing one it does if it retains the bracket around it, `enclosed`
unfoldable pub is_retained : Bool → Bool → Form → Bool
is_retained straighten enclosed f = cond (is_close f) enclosed (not (left_out f && straighten))

-- a form's line where the form is retained
abbrev pub line_if : Bool → Form → List ℕ
line_if retained f = cond retained (form_line f) []

-- Which of the brackets around a place a copy retains, innermost first. Where none is open a closing form is retained.
abbrev pub innermost : List Bool → Bool
innermost [] = true
innermost (k ∷ ks) = k

abbrev pub enclosing : List Bool → List Bool
enclosing [] = []
enclosing (k ∷ ks) = ks

-- the same behind a form
unfoldable pub around : Bool → List Bool → Form → List Bool
around straighten ks f = cond (opens_block f) (is_retained straighten (innermost ks) f ∷ ks) (cond (is_close f) (enclosing ks) ks)

-- the forms that a copy retains: of a plan's forms all, or those of the straightened plan (theorems `all_retained`, `straight_retained` in crate `copies`)
unfoldable pub retained_forms : Bool → List Bool → List Form → List Form
retained_forms straighten ks [] = []
retained_forms straighten ks (f ∷ fs) =
    let rest = retained_forms straighten (around straighten ks f) fs in
    cond (is_retained straighten (innermost ks) f) (f ∷ rest) rest

-- ---- what is written

-- lines at the output's start, for the forms from one place of the table up to another; they take no more bytes than all lines of these forms
pub record WroteLines (ws : List ℕ) (at : ℕ) (before after : List ℕ) (next used : ℕ) : Type 0 where
  pub lines : List ℕ
  pub wrote : Wrote before after 0 used lines
  pub most : used + bytes_from ws next ≤ bytes_from ws at
  pub later : at ≤ next
  pub within : next ≤ length ws

-- these lines are those of the forms that are retained: with the lines that follow from the other place on they are all from the first place on. ks is around the first place, ks'
-- around the other one
abbrev pub Precede : Bool → List ℕ → ℕ → List Bool → ℕ → List Bool → List ℕ → Type 0
Precede straighten ws at ks next ks' lines =
    lines ++ text_of (retained_forms straighten ks' (drop next (table_forms ws))) ≡ text_of (retained_forms straighten ks (drop at (table_forms ws)))

-- Items of a block, whatever is around it; `enclosed`: the copy retains the block's bracket. `closed`: behind the items the block is left, by its closing form or
-- because the table ends.
pub record WroteItems (straighten enclosed : Bool) (ws : List ℕ) (at : ℕ) (before after : List ℕ) (next used : ℕ) (closed : Bool) : Type 0 where
  pub written : WroteLines ws at before after next used
  pub precede : (ks : List Bool) → innermost ks ≡ enclosed → Precede straighten ws at ks next (cond closed (enclosing ks) ks) written.lines
