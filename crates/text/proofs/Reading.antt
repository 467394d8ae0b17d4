-- A text read line after line: what one more line read says of the lines that are left. A line that is read is the first of them, and a line that is refused is the
-- unreadable one.
use Prim.Native.Nat.{ℕ, suc, ◌+◌, ◌-◌, ◌<◌, ◌≤◌}
use native.Mathlib.Numerals.{add-one}
use native.Mathlib.Omega.{arith}
use mathlib.Core.Path.{◌≡◌, refl, sym, ap, subst, ◌∙◌}
use mathlib.Core.Logic.{⊎_elim}
use mathlib.Core.Bool.{Bool, true, false, cond}
use mathlib.Core.List.{List, [], ◌∷◌}
use mathlib.Core.Option.{Option as Maybe, none, some}
use lib.ListN.{length, drop, length-drop, drop_of_length-le}
use lib.Seq.{drop-cons, length-take-le}
use lib.Dec.{eqb, ltb}
use borrow.Author.Tests.{ne_eqb, ltb-true, ltb-false}
use Rattle.std.specs.Prelude.{Option, Some, None, Result, Ok, Err}
use Rattle.laws.specs.Choice.{pick}
use Rattle.laws.proofs.Tests.{lt_or_le}
use Rattle.text.specs.declared.Form.{Form}
use Rattle.text.specs.declared.Refusal.{Refusal}
use Rattle.text.specs.declared.Line.{Line}
use Rattle.text.specs.declared.Place.{Place}
use Rattle.text.specs.Forms.{write, number_in}
use Rattle.text.specs.Kinds.{kind_of}
use Rattle.text.specs.Lines.{refusal, line_length, line_answer, line_at, Split, split, unindented, passed_over, cons_form, forms_in, unknown_or, unreadable, line_for, line_of}
use Rattle.text.specs.Passing.{place, ReadAlike, rest_of_line, Stops, LineBehind}
use Rattle.text.proofs.Written.{kind-written, write-some}
use Rattle.text.proofs.Cuts.{split-behind, split-tail}
use Rattle.text.proofs.Passing.{write-unindented, spelled_kept}

-- the lines of a text from a place on: their forms, and the first unreadable one of them where the line there has the number `line`
abbrev pub forms_from : List ℕ → ℕ → List Form
forms_from text at = forms_in (split (drop at text)).ended

abbrev pub unreadable_from : List ℕ → ℕ → ℕ → Maybe ℕ
unreadable_from text at line = unreadable line (split (drop at text)).ended (split (drop at text)).tail

-- what a line that was read says
pub record ReadForm (text : List ℕ) (at line : ℕ) (x : Line) : Type 0 where
  pub forms : forms_from text at ≡ x.form ∷ forms_from text x.next
  pub unreadable : unreadable_from text at line ≡ unreadable_from text x.next (suc line)
  pub later : at + 2 ≤ x.next
  pub within : x.next ≤ length text
  pub small : number_in x.form < 1000

-- what a line that was refused says
pub record ReadRefused (text : List ℕ) (at line : ℕ) (x : Refusal) : Type 0 where
  pub answer : x ≡ refusal 3 line
  pub unreadable : unreadable_from text at line ≡ some line

-- how many bytes the line at a place has, and the place after its end
abbrev extent : List ℕ → ℕ → ℕ
extent text at = line_length (drop at text)

abbrev after : List ℕ → ℕ → ℕ
after text at = at + extent text at + 1

module _ (text : List ℕ) (at line : ℕ) where
  -- an ended line, in front of the lines that follow it
  ended-cut : at + extent text at < length text
      → split (drop at text) ≡ record { ended = rest_of_line text at ∷ (split (drop (after text at) text)).ended; tail = (split (drop (after text at) text)).tail }
  ended-cut h = split-behind text at (after text at) refl (omega arith)

  -- an ended line that has no spaces in front and is not passed over, by its kind
  ended-line : (k : Option Form) → at + extent text at < length text → unindented (rest_of_line text at) ≡ rest_of_line text at → passed_over (rest_of_line text at) ≡ false
      → kind_of (rest_of_line text at) ≡ k
      → (forms_from text at ≡ cons_form k (forms_from text (after text at)))
      × (unreadable_from text at line ≡ unknown_or line k (unreadable_from text (after text at) (suc line)))
  unfolding forms_in unreadable pick
  ended-line k h b n e =
      let s = ended-cut h in
      (ap (λ (p : Split). forms_in p.ended) s ∙ rw (b, e), ap (λ (p : Split). unreadable line p.ended p.tail) s ∙ rw (n, b, e))

  -- a form with none before it stands in the line, and one with k before it behind the line with k - 1
  ended-number : at + extent text at < length text → passed_over (rest_of_line text at) ≡ false
      → (k : ℕ) → line_for k line (split (drop at text)).ended ≡ cond (eqb k 0) line (line_for (k - 1) (suc line) (split (drop (after text at) text)).ended)
  unfolding line_for pick
  ended-number h n k = ap (λ (p : Split). line_for k line p.ended) (ended-cut h) ∙ rw n

  known-line : (f : Form) → at + extent text at < length text → kind_of (rest_of_line text at) ≡ Some f → ReadForm text at line (record { form = f; next = after text at })
  known-line f h e =
      let w = (kind-written (rest_of_line text at) f).0 e in
      let b : unindented (rest_of_line text at) ≡ write f = ap unindented w.written ∙ write-unindented f in
      let r = ended-line (Some f) h (b ∙ sym w.written) (spelled_kept (rest_of_line text at) f b) e in
      let d = length-drop at text in
      let m : length (rest_of_line text at) ≡ extent text at = length-take-le (extent text at) (drop at text) (omega arith) in
      record { forms = r.0; unreadable = r.1; later = omega (arith, ap length w.written, write-some f); within = omega arith; small = w.small }

  -- a line that is not ended
  unended-line : at < length text → length text ≤ at + extent text at → unreadable_from text at line ≡ some line
  unfolding unreadable
  unended-line h g =
      let d = length-drop at text in
      ap (λ (p : Split). unreadable line p.ended p.tail)
      (split-tail (drop at text) (omega arith) ∙ ap (λ (t : List ℕ). record { ended = []; tail = t }) (drop-cons text at 0 h))

  pub read-form : (x : Line) → line_at text at line ≡ Ok x → ReadForm text at line x
  unfolding line_at line_answer
  read-form x = go (ltb (at + extent text at) (length text)) refl (kind_of (rest_of_line text at)) refl
    where
      go : (t : Bool) → ltb (at + extent text at) (length text) ≡ t → (k : Option Form) → kind_of (rest_of_line text at) ≡ k
          → cond t (line_answer k (after text at) line) (Err (refusal 3 line)) ≡ Ok x → ReadForm text at line x
      go false p k q e = cc
      go true p None q e = cc
      go true p (Some g) q e =
          let a : record { form = g; next = after text at } ≡ x = cc in
          subst (ReadForm text at line) a (known-line g (ltb-true (at + extent text at) (length text) p) q)

  pub read-refused : (x : Refusal) → at < length text → Stops text at → line_at text at line ≡ Err x → ReadRefused text at line x
  unfolding line_at line_answer Stops
  read-refused x h stops = go (ltb (at + extent text at) (length text)) refl (kind_of (rest_of_line text at)) refl
    where
      go : (t : Bool) → ltb (at + extent text at) (length text) ≡ t → (k : Option Form) → kind_of (rest_of_line text at) ≡ k
          → cond t (line_answer k (after text at) line) (Err (refusal 3 line)) ≡ Err x → ReadRefused text at line x
      go false p k q e = record { answer = cc; unreadable = unended-line h (ltb-false (at + extent text at) (length text) p) }
      go true p None q e =
          let k = ltb-true (at + extent text at) (length text) p in
          let s = stops k in
          record { answer = cc; unreadable = (ended-line None k s.0 s.1 q).1 }
      go true p (Some g) q e = cc

-- The same in the shape of a loop's needs: q is what `read_line` answered.

module _ (text : List ℕ) (at line : ℕ) (q : Result Line Refusal) (e : q ≡ line_at text at line) where
  -- a line was read
  module _ (x : Line) (g : q ≡ Ok x) where
    pub next-forms : (fs : List Form) → forms_from text at ≡ fs → x.form ∷ forms_from text x.next ≡ fs
    next-forms fs p = sym (read-form text at line x (sym e ∙ g)).forms ∙ p

    pub next-unreadable : (o : Maybe ℕ) → unreadable_from text at line ≡ o → unreadable_from text x.next (line + 1) ≡ o
    next-unreadable o p = rw (add-one line) (sym (read-form text at line x (sym e ∙ g)).unreadable ∙ p)

    pub next-later : at + 2 ≤ x.next
    next-later = (read-form text at line x (sym e ∙ g)).later

    pub next-within : x.next ≤ length text
    next-within = (read-form text at line x (sym e ∙ g)).within

    pub next_small : number_in x.form < 1000
    next_small = (read-form text at line x (sym e ∙ g)).small

  -- a line was refused
  module _ (x : Refusal) (h : at < length text) (s : Stops text at) (g : q ≡ Err x) where
    pub refused-answer : x ≡ refusal 3 line
    refused-answer = (read-refused text at line x h s (sym e ∙ g)).answer

    pub refused-line : (o : Maybe ℕ) → unreadable_from text at line ≡ o → some line ≡ o
    refused-line o p = sym (read-refused text at line x h s (sym e ∙ g)).unreadable ∙ p

-- the text is at its end
module _ (text : List ℕ) (at line : ℕ) (h : length text ≤ at) where
  read-end : split (drop at text) ≡ record { ended = []; tail = [] }
  unfolding split
  read-end = rw drop_of_length-le

  pub ended-forms : (fs : List Form) → forms_from text at ≡ fs → [] ≡ fs
  unfolding forms_in
  ended-forms fs p = rw read-end at p

  pub ended-readable : (o : Maybe ℕ) → unreadable_from text at line ≡ o → none ≡ o
  unfolding unreadable
  ended-readable o p = rw read-end at p

-- ---- the line of a form, sought from a place on

abbrev pub line_for_from : ℕ → List ℕ → Place → ℕ
line_for_from k text p = line_for k p.line (split (drop p.at text)).ended

pub sought_first : (text : List ℕ) (k : ℕ) (p : Place) → ReadAlike text (place 0 1) p → line_for_from (k - 1) text p ≡ line_of text k
unfolding line_of
sought_first text k p r = sym (r.lines (k - 1))

module _ (text : List ℕ) (p : Place) where
  -- no line is left that is ended
  pub sought_none : (k : ℕ) → p.at ≤ length text → length text ≤ p.at + line_length (drop p.at text) → line_for_from k text p ≡ p.line
  unfolding line_for
  sought_none k b h = ap (λ (c : Split). line_for k p.line c.ended) (split-tail (drop p.at text) (omega (arith, length-drop p.at text)))

  -- none before it: it stands here
  pub sought_here : p.at ≤ length text → Stops text p.at → line_for_from 0 text p ≡ p.line
  unfolding Stops
  sought_here b stops = ⊎_elim (λ (h : p.at + extent text p.at < length text). ended-number text p.at p.line h (stops h).1 0) (sought_none 0 b) (lt_or_le (p.at + extent text p.at) (length text))

  -- one less before it, behind the line here
  pub sought_next : (k j : ℕ) (next q : Place) → Stops text p.at → LineBehind text p next → ReadAlike text next q → k ≡ j + 1 → line_for_from j text q ≡ line_for_from k text p
  unfolding Stops
  sought_next k j next q stops b a e =
      let h : p.at + extent text p.at < length text = omega (arith, b.place, b.within) in
      let v : next.at ≡ after text p.at = omega (arith, b.place) in
      let w : next.line ≡ suc p.line = omega (arith, b.line) in
      let i : k - 1 ≡ j = omega arith in
      let n = rw (ne_eqb k 0 (λ z. omega arith), i) at (ended-number text p.at p.line h (stops h).1 k) in
      sym (a.lines j) ∙ rw (v, w) (sym n)

pub ruleset sought = (sought_first, sought_none, sought_here, sought_next)
