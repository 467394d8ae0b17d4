-- A text without an unreadable line is ended and spells its forms, and the text of forms is read as those forms.
use Prim.Native.Nat.{ℕ, suc, ◌*◌, ◌<◌, ◌≤◌}
use native.Mathlib.Omega.{arith}
use mathlib.Core.Path.{◌≡◌, refl, ap, subst}
use mathlib.Core.Logic.{◌↔◌}
use mathlib.Core.Bool.{Bool, true, false}
use mathlib.Core.List.{List, [], ◌∷◌, ◌++◌, Memᴰ}
use mathlib.Core.Option.{none}
use lib.ListN.{length, length-append}
use Rattle.std.specs.Prelude.{Option, Some, None}
use Rattle.laws.specs.Choice.{pick}
use Rattle.text.specs.declared.Form.{Form}
use Rattle.text.specs.Forms.{write, number_in}
use Rattle.text.specs.Kinds.{kind_of}
use Rattle.text.specs.Lines.{split, unindented, passed_over, cons_form, forms_in, forms_of, unknown_or, unreadable, unreadable_line, text_of, Spells, nothing, over, form, IsText}
use Rattle.text.proofs.Written.{kind-written, write-some, write-unbroken}
use Rattle.text.proofs.Cuts.{split-unbroken, joined, split-joined}
use Rattle.text.proofs.Passing.{write-unindented, spelled_kept, known_kept, passed-unknown, unindented-length}

-- lines of which none is unreadable spell their forms
readable-spelled : (line : ℕ) (ls : List (List ℕ)) (t : List ℕ) → unreadable line ls t ≡ none → (t ≡ []) × Spells ls (forms_in ls)
unfolding unreadable forms_in pick
readable-spelled line [] [] e = (refl, nothing)
readable-spelled line [] (b ∷ bs) e = cc
readable-spelled line (l ∷ ls) t e = go (passed_over l) refl (kind_of (unindented l)) refl e (readable-spelled (suc line) ls t)
  where
    go : (b : Bool) → passed_over l ≡ b → (k : Option Form) → kind_of (unindented l) ≡ k
        → pick b (unreadable (suc line) ls t) (unknown_or line k (unreadable (suc line) ls t)) ≡ none
        → (unreadable (suc line) ls t ≡ none → (t ≡ []) × Spells ls (forms_in ls)) → (t ≡ []) × Spells (l ∷ ls) (cons_form k (forms_in ls))
    go true p None q e ih = let r = ih e in (r.0, over l ls (forms_in ls) p r.1)
    go true p (Some f) q e ih = cc (p, known_kept l f q)
    go false p None q e ih = cc
    go false p (Some f) q e ih = let r = ih e in let w = (kind-written (unindented l) f).0 q in (r.0, form l f ls (forms_in ls) w r.1)

-- and lines that spell forms are read as those
spelled-readable : (line : ℕ) (ls : List (List ℕ)) (fs : List Form) → Spells ls fs → (unreadable line ls [] ≡ none) × (forms_in ls ≡ fs)
unfolding unreadable forms_in pick
spelled-readable line _ _ nothing = (refl, refl)
spelled-readable line _ _ (over l ls fs p s) =
    let r = spelled-readable (suc line) ls fs s in
    (rw p r.0, rw (passed-unknown l p) r.1)
spelled-readable line _ _ (form l f ls fs w s) =
    let r = spelled-readable (suc line) ls fs s in
    let k = (kind-written (unindented l) f).1 w in
    (rw (spelled_kept l f w.written, k) r.0, rw k (ap (λ gs. f ∷ gs) r.1))

pub spelled-forms : (ls : List (List ℕ)) (fs : List Form) → Spells ls fs → forms_in ls ≡ fs
spelled-forms ls fs s = (spelled-readable 1 ls fs s).1

-- Rule 3 and the forms of a text, both ways
pub text-written : (text : List ℕ) (fs : List Form) → ((unreadable_line text ≡ none) × (forms_of text ≡ fs)) ↔ IsText text fs
unfolding unreadable_line forms_of
text-written text fs = (there, back)
  where
    there : (unreadable 1 (split text).ended (split text).tail ≡ none) × (forms_in (split text).ended ≡ fs) → IsText text fs
    there h =
        let r = readable-spelled 1 (split text).ended (split text).tail h.0 in
        record { all-ended = r.0; spelled = subst (Spells (split text).ended) h.1 r.1 }

    back : IsText text fs → (unreadable 1 (split text).ended (split text).tail ≡ none) × (forms_in (split text).ended ≡ fs)
    back w = rw w.all-ended (spelled-readable 1 (split text).ended fs w.spelled)

pub readable-written : (text : List ℕ) → unreadable_line text ≡ none → IsText text (forms_of text)
readable-written text e = (text-written text (forms_of text)).0 (e, refl)

-- the text of forms is read as those forms
lines-readable : (line : ℕ) (fs : List Form) → ((f : Form) → Memᴰ f fs → number_in f < 1000)
    → (forms_in (split (text_of fs)).ended ≡ fs) × (unreadable line (split (text_of fs)).ended (split (text_of fs)).tail ≡ none)
unfolding text_of forms_in unreadable split pick
lines-readable line [] h = (refl, refl)
lines-readable line (f ∷ fs) h =
    let s = split-unbroken (write f) (text_of fs) (write-unbroken f) in
    let k = (kind-written (write f) f).1 (record { small = h f (Memᴰ.head refl); written = refl }) in
    let r = lines-readable (suc line) fs (λ g m. h g (Memᴰ.tail m)) in
    (rw (s, write-unindented f, k) (ap (λ gs. f ∷ gs) r.0), rw (s, spelled_kept (write f) f (write-unindented f), write-unindented f, k) r.1)

pub written-readable : (fs : List Form) → ((f : Form) → Memᴰ f fs → number_in f < 1000) → (forms_of (text_of fs) ≡ fs) × (unreadable_line (text_of fs) ≡ none)
unfolding forms_of unreadable_line
written-readable fs h = lines-readable 1 fs h

-- the text of a readable text's forms is no longer than the text
spelled-length : (ls : List (List ℕ)) (fs : List Form) (t : List ℕ) → Spells ls fs → length (text_of fs) ≤ length (joined ls t)
unfolding joined text_of
spelled-length _ _ t nothing = omega arith
spelled-length _ _ t (over l ls fs p s) = omega (arith, length-append l (10 ∷ joined ls t), spelled-length ls fs t s)
spelled-length _ _ t (form l f ls fs w s) =
    omega (arith, length-append l (10 ∷ joined ls t), length-append (write f) (10 ∷ text_of fs), unindented-length l, ap length w.written, spelled-length ls fs t s)

pub written-shorter : (text : List ℕ) → unreadable_line text ≡ none → length (text_of (forms_of text)) ≤ length text
written-shorter text e =
    subst (λ l. length (text_of (forms_of text)) ≤ length l) (split-joined text) (spelled-length (split text).ended (forms_of text) (split text).tail (readable-written text e).spelled)

-- a form takes at least two bytes, its own and the line's end
few-joined : (ls : List (List ℕ)) (t : List ℕ) → length (forms_in ls) * 2 ≤ length (joined ls t)
unfolding forms_in joined
few-joined [] t = omega arith
few-joined (l ∷ ls) t = go (kind_of (unindented l)) refl (few-joined ls t)
  where
    go : (k : Option Form) → kind_of (unindented l) ≡ k → length (forms_in ls) * 2 ≤ length (joined ls t) → length (cons_form k (forms_in ls)) * 2 ≤ length (l ++ 10 ∷ joined ls t)
    go None p h = rw length-append (omega arith)
    go (Some f) p h = let w = (kind-written (unindented l) f).0 p in rw length-append (omega (arith, write-some f, ap length w.written, unindented-length l))

pub few-forms : (text : List ℕ) → length (forms_of text) * 2 ≤ length text
unfolding forms_of
few-forms text = subst (λ l. length (forms_in (split text).ended) * 2 ≤ length l) (split-joined text) (few-joined (split text).ended (split text).tail)
