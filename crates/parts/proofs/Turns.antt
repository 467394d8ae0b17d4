-- The definitions of the crate in the shape of its functions' needs: a loop's line or form is the next step of the definition over what is left.
use Prim.Native.Nat.{ℕ, zero, suc, ◌+◌, ◌-◌, ◌<◌, ◌≤◌}
use native.Mathlib.Numerals.{add-one}
use native.Mathlib.Omega.{arith}
use mathlib.Core.Path.{◌≡◌, refl, ap, ◌∙◌}
use mathlib.Core.Bool.{Bool, true, false, cond}
use mathlib.Core.List.{List, [], ◌∷◌}
use lib.ListN.{length, take, drop, get_or, drop_of_length-le}
use lib.Seq.{drop-cons}
use lib.Dec.{eqb, eqb-suc-zero}
use borrow.Author.Tests.{eq-eqb, ne_eqb}
use denote.Ref.{Bor}
use mir.Val.{bool_byte}
use Rattle.std.specs.List.{before_first}
use Rattle.text.specs.Forms.{begins_other}
use Rattle.plan.specs.Table.{form_at, table_forms}
use Rattle.text.specs.Lines.{line_of}
use Rattle.text.proofs.FormLines.{line_of-first, line_of-grows}
use Rattle.procs.proofs.Fronts.{before_first-cons}
use Rattle.parts.specs.Parts.{left_after, skip_lines, forms_before, PartAt, lines_span, forms_span}

module _ (text : List ℕ) (left i r : ℕ) where
  turn : i < length text → skip_lines left (drop i text) ≡ cond (eqb left 0) 0 (suc (skip_lines (left_after (get_or text i 0) left) (drop (i + 1) text)))
  unfolding skip_lines
  turn h = rw (add-one i, drop-cons text i 0)

  pub skip_stop : i < length text → left ≡ 0 → i + skip_lines left (drop i text) ≡ r → i ≡ r
  skip_stop h e p = let t = rw (eq-eqb left 0 e) at (turn h) in omega arith

  left_less : (b : Bool) → left - bool_byte b ≡ cond b (left - 1) left
  left_less true = refl
  left_less false = omega arith

  pub skip-again : (n : ℕ) → i < length text → (left ≡ 0 → ⊥) → n ≡ bool_byte (eqb (get_or text i 0) 10) → i + skip_lines left (drop i text) ≡ r
      → i + 1 + skip_lines (left - n) (drop (i + 1) text) ≡ r
  unfolding left_after
  skip-again n h e g p = let t = rw (ne_eqb left 0 e, ← left_less) at (turn h) in rw g (omega arith)

  pub skip-end : length text ≤ i → i + skip_lines left (drop i text) ≡ r → i ≡ r
  unfolding skip_lines
  skip-end h p = let t = rw (drop_of_length-le text h) at p in omega arith

-- no more bytes than there are
pub skip-within : (text : List ℕ) (lines : ℕ) → skip_lines lines text ≤ length text
unfolding skip_lines
skip-within [] lines = omega arith
skip-within (b ∷ bs) lines = go (eqb lines 0) (skip-within bs (left_after b lines))
  where
    go : (t : Bool) → skip_lines (left_after b lines) bs ≤ length bs → cond t 0 (suc (skip_lines (left_after b lines) bs)) ≤ suc (length bs)
    go true h = omega arith
    go false h = omega arith

-- the forms of a procedure from a place on
pub rest_counted : (ws : List ℕ) → length (before_first (λ w. begins_other (form_at w)) ws) ≡ forms_before (table_forms ws)
unfolding forms_before
rest_counted [] = refl
rest_counted (w ∷ ws) = rw (before_first-cons (λ v. begins_other (form_at v)) w ws) (go (begins_other (form_at w)) (rest_counted ws))
  where
    go : (b : Bool) → length (before_first (λ v. begins_other (form_at v)) ws) ≡ forms_before (table_forms ws)
        → length (cond b [] (w ∷ before_first (λ v. begins_other (form_at v)) ws)) ≡ cond b 0 (suc (forms_before (table_forms ws)))
    go true e = refl
    go false e = ap suc e

-- more lines, no fewer bytes
left-grows : (byte a b : ℕ) → a ≤ b → left_after byte a ≤ left_after byte b
unfolding left_after
left-grows byte a b h = go (eqb byte 10)
  where
    go : (t : Bool) → cond t (a - 1) a ≤ cond t (b - 1) b
    go true = omega arith
    go false = h

pub skip-grows : (text : List ℕ) (a b : ℕ) → a ≤ b → skip_lines a text ≤ skip_lines b text
unfolding skip_lines
skip-grows [] a b h = omega arith
skip-grows (byte ∷ bytes) a zero h = let z : a ≡ 0 = omega arith in rw z (omega arith)
skip-grows (byte ∷ bytes) a (suc b) h = rw (eqb-suc-zero b) (go (eqb a 0) (skip-grows bytes (left_after byte a) (left_after byte (suc b)) (left-grows byte a (suc b) h)))
  where
    go : (t : Bool) → skip_lines (left_after byte a) bytes ≤ skip_lines (left_after byte (suc b)) bytes
        → cond t 0 (suc (skip_lines (left_after byte a) bytes)) ≤ suc (skip_lines (left_after byte (suc b)) bytes)
    go true k = omega arith
    go false k = omega arith

-- the first line is not behind the last, and from any place up to its end on there are bytes up to the last line's end
module _ (text : List ℕ) (k first : ℕ) (f : first ≡ line_of text k) where
  pub part-first : 1 ≤ first
  part-first = omega (arith, line_of-first text k)

  pub part-ordered : (e last d start end : ℕ) → last ≡ line_of text e → k ≤ e → start ≡ skip_lines (first - d) text → end ≡ skip_lines last text → start ≤ end
  part-ordered e last d start end l h p q = omega (arith, skip-grows text (first - d) last (omega (arith, line_of-grows text k e h)))

pub part-within : (text : List ℕ) (last end : ℕ) → end ≡ skip_lines last text → end ≤ length text
part-within text last end q = omega (arith, skip-within text last)

-- the part that is returned, from form k to the end of the procedure's rest there
pub part_returned : (s r : Bor (List ℕ)) (table rest : List ℕ) (k first last start end : ℕ) → rest ≡ before_first (λ w. begins_other (form_at w)) (drop k table)
    → first ≡ line_of s.now k → last ≡ line_of s.now (k + length rest) → start ≡ skip_lines (first - 1) s.now → end ≡ skip_lines last s.now
    → r.ref_ptr ≡ (s.ref_ptr.0, start + s.ref_ptr.1) → r.now ≡ take (end - start) (drop start s.now)
    → PartAt s (forms_span s.now k (k + forms_before (table_forms (drop k table)))) r
unfolding forms_span lines_span
part_returned s r table rest k first last start end e f l p q a b =
    let n : length rest ≡ forms_before (table_forms (drop k table)) = ap length e ∙ rest_counted (drop k table) in
    rw (← n, ← f, ← l, ← p, ← q) (record { lies = a; bytes = b })

pub ruleset skipping = (skip_stop, skip-again, skip-end)

pub ruleset parting = (part-first, part-ordered, part-within)
