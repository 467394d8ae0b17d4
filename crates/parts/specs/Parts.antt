-- Parts of a text by the numbers of its lines, and by those of its forms.
use Rattle.std.specs.Prelude.{ℕ, suc, ◌+◌, ◌-◌, ◌&&◌, cond, List, [], ◌∷◌, ◌≡◌, eqb, take, drop}
use Rattle.std.specs.Borrow.{Bor}
use Rattle.text.specs.declared.Form.{Form}
use Rattle.text.specs.Lines.{line_of}
use Rattle.text.specs.Forms.{is_close, begins_other}
use Rattle.plan.specs.Limits.{depth_after}

-- the lines still to be passed after a byte: "each line ended by byte 10"
unfoldable pub left_after : ℕ → ℕ → ℕ
left_after byte lines = cond (eqb byte 10) (lines - 1) lines

-- how many bytes the first lines of a text have, their line ends included
unfoldable pub skip_lines : ℕ → List ℕ → ℕ
skip_lines lines [] = 0
skip_lines lines (b ∷ bs) = cond (eqb lines 0) 0 (suc (skip_lines (left_after b lines) bs))

-- a part of a text: the place at which it begins, and how many bytes it has
pub record Span : Type 0 where
  pub start : ℕ
  pub count : ℕ

abbrev pub span : ℕ → ℕ → Span
span s n = record { start = s; count = n }

-- its bytes
abbrev pub bytes_in : List ℕ → Span → List ℕ
bytes_in text part = take part.count (drop part.start text)

-- "the part of the caller's text": r lies in s, from that place on, and has those bytes. Where a reference lies is a block of memory and an offset in it (`ptr`)
pub record PartAt (s : Bor (List ℕ)) (part : Span) (r : Bor (List ℕ)) : Type 0 where
  pub lies : r.ref_ptr ≡ (s.ref_ptr.0, part.start + s.ref_ptr.1)
  pub bytes : r.now ≡ bytes_in s.now part

-- the lines from a (counted from 0) up to b, without it
unfoldable pub lines_span : List ℕ → ℕ → ℕ → Span
lines_span text a b = span (skip_lines a text) (skip_lines b text - skip_lines a text)

-- whole lines as they stand in the file, from that of form a to that of form b, forms counted from 1: with the spaces before the forms and what is passed over between
-- them
unfoldable pub forms_span : List ℕ → ℕ → ℕ → Span
forms_span text a b = lines_span text (line_of text a - 1) (line_of text b)

-- how many of the forms within a procedure stand up to its closing form, that too: up to the `)` that meets no open bracket of a hold, a share, a loop, an either, a one
-- or a two, of which `depth` are open before
unfoldable pub forms_to_closing : ℕ → List Form → ℕ
forms_to_closing depth [] = 0
forms_to_closing depth (f ∷ fs) = cond (is_close f && eqb depth 0) 1 (suc (forms_to_closing (depth_after f depth) fs))

-- how many forms stand before the first that does not stand within a procedure
unfoldable pub forms_before : List Form → ℕ
forms_before [] = 0
forms_before (f ∷ fs) = cond (begins_other f) 0 (suc (forms_before fs))
