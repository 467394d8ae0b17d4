-- The line of a form is the line that holds it (`line-holds`), behind the last form one more than the last line (`line-past`); later forms stand in later lines
-- (`line-apart`), and none behind the end of the file (`line_of-most`). By induction on the lines, or on how they spell the forms.
use Prim.Native.Nat.{ℕ, zero, suc, ◌+◌, ◌-◌, ◌<◌, ◌≤◌}
use native.Mathlib.Omega.{arith}
use mathlib.Core.Path.{◌≡◌, refl, ap, ◌∙◌}
use mathlib.Core.Bool.{Bool, true, false, cond}
use mathlib.Core.Option.{none}
use mathlib.Core.List.{List, [], ◌∷◌}
use lib.ListN.{length, get_or}
use lib.Dec.{eqb, eqb-suc-zero}
use Rattle.laws.specs.Choice.{pick}
use Rattle.text.specs.declared.Form.{Form}
use Rattle.text.specs.declared.Form.TheVariants.{Close}
use Rattle.text.specs.Forms.{write}
use Rattle.text.specs.Lines.{split, ended_line, unindented, passed_over, forms_of, unreadable_line, line_for, line_of, Spells, nothing, over, form}
use Rattle.text.proofs.Passing.{spelled_kept}
use Rattle.text.proofs.Splits.{readable-written}

-- one line more in front
pub passed-line : (k line : ℕ) (l : List ℕ) (ls : List (List ℕ)) → passed_over l ≡ true → line_for k line (l ∷ ls) ≡ line_for k (suc line) ls
unfolding line_for pick
passed-line k line l ls h = rw h

pub first-line : (line : ℕ) (l : List ℕ) (ls : List (List ℕ)) → passed_over l ≡ false → line_for 0 line (l ∷ ls) ≡ line
unfolding line_for pick
first-line line l ls h = rw h

pub later-line : (k line : ℕ) (l : List ℕ) (ls : List (List ℕ)) → passed_over l ≡ false → line_for (suc k) line (l ∷ ls) ≡ line_for k (suc line) ls
unfolding line_for pick
later-line k line l ls h = let e : suc k - 1 ≡ k = omega arith in rw (h, eqb-suc-zero k, e)

one-line : (b c : Bool) (x y line n : ℕ) → suc line ≤ x → x ≤ suc line + n → suc line ≤ y → y ≤ suc line + n
    → (line ≤ pick b x (cond c line y)) × (pick b x (cond c line y) ≤ line + suc n)
unfolding pick
one-line b c x y line n h k i j = (grind arith, grind arith)

line-bounds : (ls : List (List ℕ)) (k line : ℕ) → (line ≤ line_for k line ls) × (line_for k line ls ≤ line + length ls)
unfolding line_for
line-bounds [] k line = (omega arith, omega arith)
line-bounds (l ∷ ls) k line =
    let p = line-bounds ls k (suc line) in
    let q = line-bounds ls (k - 1) (suc line) in
    one-line (passed_over l) (eqb k 0) (line_for k (suc line) ls) (line_for (k - 1) (suc line) ls) line (length ls) p.0 p.1 q.0 q.1

pub line-least : (ls : List (List ℕ)) (k line : ℕ) → line ≤ line_for k line ls
line-least ls k line = (line-bounds ls k line).0

pub line-most : (ls : List (List ℕ)) (k line : ℕ) → line_for k line ls ≤ line + length ls
line-most ls k line = (line-bounds ls k line).1

pub line-grows : (ls : List (List ℕ)) (j k line : ℕ) → j ≤ k → line_for j line ls ≤ line_for k line ls
line-grows [] j k line h = omega (arith, line-most [] j line, line-least [] k line)
line-grows (l ∷ ls) j k line h = go (passed_over l) refl j k h (line-grows ls j k (suc line) h) (λ i m g. line-grows ls i m (suc line) g)
  where
    go : (b : Bool) → passed_over l ≡ b → (j k : ℕ) → j ≤ k → line_for j (suc line) ls ≤ line_for k (suc line) ls
        → ((i m : ℕ) → i ≤ m → line_for i (suc line) ls ≤ line_for m (suc line) ls) → line_for j line (l ∷ ls) ≤ line_for k line (l ∷ ls)
    go true p j k h r s = omega (arith, passed-line j line l ls p, passed-line k line l ls p)
    go false p zero k h r s = omega (arith, first-line line l ls p, line-least (l ∷ ls) k line)
    go false p (suc j) zero h r s = absurd (omega arith)
    go false p (suc j) (suc k) h r s = omega (arith, later-line j line l ls p, later-line k line l ls p, s j k (omega arith))

-- ---- of a readable text

-- the line that is named holds the form
spelled_holds : (ls : List (List ℕ)) (fs : List Form) → Spells ls fs → (k line : ℕ) → k < length fs
    → unindented (get_or ls (line_for k line ls - line) []) ≡ write (get_or fs k Close)
spelled_holds _ _ nothing k line h = absurd (omega arith)
spelled_holds _ _ (over l ls fs p s) k line h =
    let i : line_for k line (l ∷ ls) - line ≡ suc (line_for k (suc line) ls - suc line) = omega (arith, passed-line k line l ls p, line-least ls k (suc line)) in
    ap (λ n. unindented (get_or (l ∷ ls) n [])) i ∙ spelled_holds ls fs s k (suc line) h
spelled_holds _ _ (form l f ls fs w s) zero line h =
    let i : line_for 0 line (l ∷ ls) - line ≡ 0 = omega (arith, first-line line l ls (spelled_kept l f w.written)) in
    ap (λ n. unindented (get_or (l ∷ ls) n [])) i ∙ w.written
spelled_holds _ _ (form l f ls fs w s) (suc k) line h =
    let i : line_for (suc k) line (l ∷ ls) - line ≡ suc (line_for k (suc line) ls - suc line) =
    omega (arith, later-line k line l ls (spelled_kept l f w.written), line-least ls k (suc line)) in
    ap (λ n. unindented (get_or (l ∷ ls) n [])) i ∙ spelled_holds ls fs s k (suc line) (omega arith)

spelled-past : (ls : List (List ℕ)) (fs : List Form) → Spells ls fs → (k line : ℕ) → length fs ≤ k → line_for k line ls ≡ line + length ls
unfolding line_for
spelled-past _ _ nothing k line h = omega arith
spelled-past _ _ (over l ls fs p s) k line h = omega (arith, passed-line k line l ls p, spelled-past ls fs s k (suc line) h)
spelled-past _ _ (form l f ls fs w s) zero line h = absurd (omega arith)
spelled-past _ _ (form l f ls fs w s) (suc k) line h =
    omega (arith, later-line k line l ls (spelled_kept l f w.written), spelled-past ls fs s k (suc line) (omega arith))

-- a later form stands in a later line
spelled-apart : (ls : List (List ℕ)) (fs : List Form) → Spells ls fs → (j k line : ℕ) → j < k → k ≤ length fs → line_for j line ls < line_for k line ls
spelled-apart _ _ nothing j k line h g = absurd (omega arith)
spelled-apart _ _ (over l ls fs p s) j k line h g =
    omega (arith, passed-line j line l ls p, passed-line k line l ls p, spelled-apart ls fs s j k (suc line) h g)
spelled-apart _ _ (form l f ls fs w s) j zero line h g = absurd (omega arith)
spelled-apart _ _ (form l f ls fs w s) zero (suc k) line h g =
    let kept = spelled_kept l f w.written in
    omega (arith, first-line line l ls kept, later-line k line l ls kept, line-least ls k (suc line))
spelled-apart _ _ (form l f ls fs w s) (suc j) (suc k) line h g =
    let kept = spelled_kept l f w.written in
    omega (arith, later-line j line l ls kept, later-line k line l ls kept, spelled-apart ls fs s j k (suc line) (omega arith) (omega arith))

module _ (text : List ℕ) where
  pub line_of-first : (k : ℕ) → 1 ≤ line_of text k
  unfolding line_of
  line_of-first k = line-least (split text).ended (k - 1) 1

  pub line_of-grows : (j k : ℕ) → j ≤ k → line_of text j ≤ line_of text k
  unfolding line_of
  line_of-grows j k h = line-grows (split text).ended (j - 1) (k - 1) 1 (omega arith)

  pub line_of-most : (k : ℕ) → line_of text k ≤ 1 + length (split text).ended
  unfolding line_of
  line_of-most k = line-most (split text).ended (k - 1) 1

  module _ (readable : unreadable_line text ≡ none) where
    spelled : Spells (split text).ended (forms_of text)
    spelled = (readable-written text readable).spelled

    -- "Lines are still counted as they stand in the file": line line_of text k of the file, counted from 1, is form k behind its spaces
    pub line-holds : (k : ℕ) → 1 ≤ k → k ≤ length (forms_of text) → unindented (ended_line text (line_of text k)) ≡ write (get_or (forms_of text) (k - 1) Close)
    unfolding line_of
    line-holds k a h = spelled_holds (split text).ended (forms_of text) spelled (k - 1) 1 (omega arith)

    -- "the text ends too early (one more than the last line)", lines that are passed over counted
    pub line-past : line_of text (length (forms_of text) + 1) ≡ 1 + length (split text).ended
    unfolding line_of
    line-past = spelled-past (split text).ended (forms_of text) spelled (length (forms_of text) + 1 - 1) 1 (omega arith)

    -- forms stand in the order of their lines, no two in one; behind the last stands the line that `line-past` names
    pub line-apart : (j k : ℕ) → 1 ≤ j → j < k → k ≤ length (forms_of text) + 1 → line_of text j < line_of text k
    unfolding line_of
    line-apart j k a h g = spelled-apart (split text).ended (forms_of text) spelled (j - 1) (k - 1) 1 (omega arith) (omega arith)
