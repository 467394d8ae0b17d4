-- A part of a text by the numbers of its forms spells those forms (`span-spelled`). The part is whole lines, and the lines from one form's to another's spell the forms
-- between, whatever is passed over among them.
use Prim.Native.Nat.{ℕ, zero, suc, ◌+◌, ◌-◌, ◌<◌, ◌≤◌}
use native.Mathlib.Omega.{arith}
use mathlib.Core.Path.{◌≡◌, refl, sym, ap, subst, ◌∙◌}
use mathlib.Core.Bool.{true}
use mathlib.Core.Option.{none}
use mathlib.Core.List.{List, [], ◌∷◌, ◌++◌}
use lib.ListN.{length, take, drop}
use lib.Seq.{drop_at, take-add, length-take-le}
use Rattle.text.specs.declared.Form.{Form}
use Rattle.std.specs.Prelude.{Option, Some, None}
use Rattle.text.specs.Kinds.{kind_of}
use Rattle.text.specs.Lines.{Split, split, unindented, passed_over, cons_form, forms_in, forms_of, unreadable_line, line_for, line_of, Spells, nothing, over, form, IsText}
use Rattle.text.proofs.Written.{kind-written}
use Rattle.text.proofs.Passing.{spelled_kept, passed-unknown}
use Rattle.text.proofs.Splits.{spelled-forms, readable-written}
use Rattle.text.proofs.FormLines.{line-least, line-grows, passed-line, first-line, later-line}
use Rattle.parts.specs.Parts.{bytes_in, lines_span, forms_span}
use Rattle.parts.proofs.WholeLines.{lines_cut}

-- ---- the forms between two lines

forms_append : (xs ys : List (List ℕ)) → forms_in (xs ++ ys) ≡ forms_in xs ++ forms_in ys
unfolding forms_in
forms_append [] ys = refl
forms_append (x ∷ xs) ys = go (kind_of (unindented x)) (forms_append xs ys)
  where
    go : (k : Option Form) → forms_in (xs ++ ys) ≡ forms_in xs ++ forms_in ys → cons_form k (forms_in (xs ++ ys)) ≡ cons_form k (forms_in xs) ++ forms_in ys
    go (Some f) h = ap (λ l. f ∷ l) h
    go None h = h

passed-forms : (l : List ℕ) (ls : List (List ℕ)) → passed_over l ≡ true → forms_in (l ∷ ls) ≡ forms_in ls
unfolding forms_in
passed-forms l ls h = rw (passed-unknown l h)

form-forms : (l : List ℕ) (f : Form) (ls : List (List ℕ)) → kind_of (unindented l) ≡ Some f → forms_in (l ∷ ls) ≡ f ∷ forms_in ls
unfolding forms_in
form-forms l f ls h = rw h

none-forms : forms_in [] ≡ []
unfolding forms_in
none-forms = refl

-- the lines before that of a form hold the forms before it, and with it the form too
record Up (ls : List (List ℕ)) (fs : List Form) (k line : ℕ) : Type 0 where
  before : forms_in (take (line_for k line ls - line) ls) ≡ take k fs
  with_it : forms_in (take (suc (line_for k line ls - line)) ls) ≡ take (suc k) fs

up_to : (ls : List (List ℕ)) (fs : List Form) → Spells ls fs → (k line : ℕ) → k < length fs → Up ls fs k line
up_to _ _ nothing k line h = absurd (omega arith)
up_to _ _ (over l ls fs p s) k line h =
    let i : line_for k line (l ∷ ls) - line ≡ suc (line_for k (suc line) ls - suc line) = omega (arith, passed-line k line l ls p, line-least ls k (suc line)) in
    let r = up_to ls fs s k (suc line) h in
    record {
      before = ap (λ n. forms_in (take n (l ∷ ls))) i ∙ passed-forms l _ p ∙ r.before;
      with_it = ap (λ n. forms_in (take (suc n) (l ∷ ls))) i ∙ passed-forms l _ p ∙ r.with_it;
    }
up_to _ _ (form l f ls fs w s) zero line h =
    let i : line_for 0 line (l ∷ ls) - line ≡ 0 = omega (arith, first-line line l ls (spelled_kept l f w.written)) in
    let kind = (kind-written (unindented l) f).1 w in
    record {
      before = ap (λ n. forms_in (take n (l ∷ ls))) i ∙ none-forms;
      with_it = ap (λ n. forms_in (take (suc n) (l ∷ ls))) i ∙ form-forms l f [] kind ∙ ap (λ gs. f ∷ gs) none-forms;
    }
up_to _ _ (form l f ls fs w s) (suc k) line h =
    let i : line_for (suc k) line (l ∷ ls) - line ≡ suc (line_for k (suc line) ls - suc line) =
    omega (arith, later-line k line l ls (spelled_kept l f w.written), line-least ls k (suc line)) in
    let kind = (kind-written (unindented l) f).1 w in
    let r = up_to ls fs s k (suc line) (omega arith) in
    record {
      before = ap (λ n. forms_in (take n (l ∷ ls))) i ∙ form-forms l f _ kind ∙ ap (λ gs. f ∷ gs) r.before;
      with_it = ap (λ n. forms_in (take (suc n) (l ∷ ls))) i ∙ form-forms l f _ kind ∙ ap (λ gs. f ∷ gs) r.with_it;
    }

-- a form's line is there
within-lines : (ls : List (List ℕ)) (fs : List Form) → Spells ls fs → (k line : ℕ) → k < length fs → line_for k line ls < line + length ls
within-lines _ _ nothing k line h = absurd (omega arith)
within-lines _ _ (over l ls fs p s) k line h = omega (arith, passed-line k line l ls p, within-lines ls fs s k (suc line) h)
within-lines _ _ (form l f ls fs w s) zero line h = omega (arith, first-line line l ls (spelled_kept l f w.written))
within-lines _ _ (form l f ls fs w s) (suc k) line h = omega (arith, later-line k line l ls (spelled_kept l f w.written), within-lines ls fs s k (suc line) (omega arith))

-- the lines from that of form j to that of form m, forms counted from 0
between : (ls : List (List ℕ)) (fs : List Form) → Spells ls fs → (j m : ℕ) → j ≤ m → m < length fs
    → forms_in (take (line_for m 1 ls - (line_for j 1 ls - 1)) (drop (line_for j 1 ls - 1) ls)) ≡ take (suc m - j) (drop j fs)
between ls fs s j m h k =
    let a = line_for j 1 ls - 1 in
    let x = up_to ls fs s j 1 (omega arith) in
    let y = up_to ls fs s m 1 k in
    let n = line_for m 1 ls - a in
    let to : suc (line_for m 1 ls - 1) ≡ a + n = omega (arith, line-least ls m 1, line-least ls j 1, line-grows ls j m 1 h) in
    let both : take j fs ++ forms_in (take n (drop a ls)) ≡ take (suc m) fs =
    ap (λ g. g ++ forms_in (take n (drop a ls))) (sym x.before) ∙ sym (forms_append (take a ls) (take n (drop a ls))) ∙ ap forms_in (sym (take-add a n ls))
    ∙ ap (λ i. forms_in (take i ls)) (sym to) ∙ y.with_it in
    let i : suc m ≡ j + (suc m - j) = omega arith in
    let size : length (take j fs) ≡ j = length-take-le j fs (omega arith) in
    sym (drop_at (take j fs) (forms_in (take n (drop a ls))) j size)
    ∙ ap (drop j) (both ∙ ap (λ q. take q fs) i ∙ take-add j (suc m - j) fs)
    ∙ drop_at (take j fs) (take (suc m - j) (drop j fs)) j size

-- ---- lines that spell forms, in parts: each part spells the forms that are read of it

spells_drop : (ls : List (List ℕ)) (fs : List Form) → Spells ls fs → (n : ℕ) → Spells (drop n ls) (forms_in (drop n ls))
unfolding forms_in
spells_drop ls fs s zero = subst (Spells ls) (sym (spelled-forms ls fs s)) s
spells_drop _ _ nothing (suc n) = nothing
spells_drop _ _ (over l ls fs p s) (suc n) = spells_drop ls fs s n
spells_drop _ _ (form l f ls fs w s) (suc n) = spells_drop ls fs s n

spells_take : (ls : List (List ℕ)) (fs : List Form) → Spells ls fs → (n : ℕ) → Spells (take n ls) (forms_in (take n ls))
unfolding forms_in
spells_take ls fs s zero = nothing
spells_take _ _ nothing (suc n) = nothing
spells_take _ _ (over l ls fs p s) (suc n) = rw (passed-unknown l p) (over l (take n ls) (forms_in (take n ls)) p (spells_take ls fs s n))
spells_take _ _ (form l f ls fs w s) (suc n) = rw ((kind-written (unindented l) f).1 w) (form l f (take n ls) (forms_in (take n ls)) w (spells_take ls fs s n))

-- a part by the numbers of its forms, counted from 1, spells those forms
pub span-spelled : (text : List ℕ) → unreadable_line text ≡ none → (j m : ℕ) → 1 ≤ j → j ≤ m → m ≤ length (forms_of text)
    → IsText (bytes_in text (forms_span text j m)) (take (m - (j - 1)) (drop (j - 1) (forms_of text)))
unfolding forms_span line_of
span-spelled text readable j m a h k =
    let ls = (split text).ended in
    let s = (readable-written text readable).spelled in
    let first = line_for (j - 1) 1 ls - 1 in
    let last = line_for (m - 1) 1 ls in
    let to : first + (last - first) ≡ last = omega (arith, line-grows ls (j - 1) (m - 1) 1 (omega arith)) in
    let fits : first + (last - first) ≤ length ls = omega (arith, within-lines ls (forms_of text) s (m - 1) 1 (omega arith)) in
    let lines = take (last - first) (drop first ls) in
    let cut : split (bytes_in text (lines_span text first last)) ≡ record { ended = lines; tail = [] } = rw to at (lines_cut text first (last - first) fits) in
    let e : suc (m - 1) - (j - 1) ≡ m - (j - 1) = omega arith in
    let forms : forms_in lines ≡ take (m - (j - 1)) (drop (j - 1) (forms_of text)) = rw e at (between ls (forms_of text) s (j - 1) (m - 1) (omega arith) (omega arith)) in
    let spelled : Spells lines (forms_in lines) = spells_take (drop first ls) (forms_in (drop first ls)) (spells_drop ls (forms_of text) s first) (last - first) in
    record { all-ended = ap (λ (p : Split). p.tail) cut; spelled = rw (cut, ← forms) spelled }
