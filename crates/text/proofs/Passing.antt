-- What is passed over: spaces before a form and lines without one leave the forms, the unreadable line and the lines of the forms as they are. Each law is one step of
-- passing over, at a place of a text.
use Prim.Native.Nat.{ℕ, suc, ◌+◌, ◌<◌, ◌≤◌}
use native.Mathlib.Numerals.{add-one}
use native.Mathlib.Omega.{arith}
use mathlib.Core.Path.{◌≡◌, refl, sym, ap, ◌∙◌}
use mathlib.Core.Logic.{◌⊎◌, inl, inr}
use mathlib.Core.Bool.{Bool, true, false, cond}
use mathlib.Core.List.{List, [], ◌∷◌}
use lib.ListN.{length, drop, get_or, length-drop}
use lib.Seq.{drop-cons}
use lib.Dec.{eqb}
use borrow.Author.Tests.{ne_eqb}
use Rattle.std.specs.Prelude.{Option, Some, None, MatchOption}
use Rattle.laws.specs.Choice.{pick}
use Rattle.text.specs.declared.Form.{Form}
use Rattle.text.specs.declared.Form.TheVariants.{Plan}
use Rattle.text.specs.declared.Place.{Place}
use Rattle.text.specs.Forms.{write}
use Rattle.text.specs.Kinds.{kind_of}
use Rattle.text.specs.Lines.{line_length, Split, push_byte, split, unindented, blank_or_remark, passed_over, forms_in, unreadable, line_for}
use Rattle.text.specs.Passing.{place, ReadAlike, rest_of_line, Stops, LineBehind, PassedOne}
use Rattle.text.proofs.Written.{kind-written}
use Rattle.text.proofs.Cuts.{line_length-cons, split-behind, split-joined, joined}

-- ---- lines

-- a written form begins with no space and is no remark
written-kept : (f : Form) → (unindented (write f) ≡ write f) × (blank_or_remark (write f) ≡ false)
unfolding write unindented
written-kept Plan = (refl, refl)
written-kept f = (refl, refl)

pub write-unindented : (f : Form) → unindented (write f) ≡ write f
write-unindented f = (written-kept f).0

pub spelled_kept : (l : List ℕ) (f : Form) → unindented l ≡ write f → passed_over l ≡ false
unfolding passed_over
spelled_kept l f e = ap blank_or_remark e ∙ (written-kept f).1

-- a line that is a form is not passed over
pub known_kept : (l : List ℕ) (f : Form) → kind_of (unindented l) ≡ Some f → passed_over l ≡ false
known_kept l f e = spelled_kept l f ((kind-written (unindented l) f).0 e).written

-- so one that is passed over is none
pub passed-unknown : (l : List ℕ) → passed_over l ≡ true → kind_of (unindented l) ≡ None
passed-unknown l h = go (kind_of (unindented l)) refl
  where
    go : (k : Option Form) → kind_of (unindented l) ≡ k → k ≡ None
    go None e = refl
    go (Some f) e = cc (h, known_kept l f e)

pub unindented-length : (l : List ℕ) → length (unindented l) ≤ length l
unfolding unindented
unindented-length [] = omega arith
unindented-length (b ∷ bs) = go (eqb b 32) (unindented-length bs)
  where
    go : (t : Bool) → length (unindented bs) ≤ length bs → length (cond t (unindented bs) (b ∷ bs)) ≤ length (b ∷ bs)
    go true h = omega arith
    go false h = omega arith

-- ---- cut texts

-- two cut texts, from a line each, are read alike
record Alike (line : ℕ) (p : Split) (line' : ℕ) (q : Split) : Type 0 where
  forms : forms_in p.ended ≡ forms_in q.ended
  readable : unreadable line p.ended p.tail ≡ unreadable line' q.ended q.tail
  lines : (k : ℕ) → line_for k line p.ended ≡ line_for k line' q.ended

-- a space in front of a line
space_alike : (line : ℕ) (ls : List (List ℕ)) (t : List ℕ) → (ls ≡ [] → t ≡ [] → ⊥) → Alike line (push_byte 32 ls t) line (record { ended = ls; tail = t })
unfolding forms_in unreadable line_for unindented passed_over
space_alike line [] [] h = absurd (h refl refl)
space_alike line [] (b ∷ t) h = record { forms = refl; readable = refl; lines = λ k. refl }
space_alike line (l ∷ ls) t h = record { forms = refl; readable = refl; lines = λ k. refl }

-- a line that is passed over
over_alike : (line : ℕ) (l : List ℕ) (ls : List (List ℕ)) (t : List ℕ) → passed_over l ≡ true
    → Alike line (record { ended = l ∷ ls; tail = t }) (suc line) (record { ended = ls; tail = t })
unfolding forms_in unreadable line_for pick
over_alike line l ls t h = record {
  forms = rw (passed-unknown l h);
  readable = rw h;
  lines = λ k. rw h;
}

-- ---- at a place of a text

alike_places : (text : List ℕ) (p q : Place) → p.at ≤ q.at → q.at ≤ length text → q.line + p.at ≤ p.line + q.at
    → Alike p.line (split (drop p.at text)) q.line (split (drop q.at text)) → ReadAlike text p q
alike_places text p q a b c r = record { later = a; within = b; counted = c; forms = r.forms; readable = r.readable; lines = r.lines }

pub alike_none : (text : List ℕ) (p : Place) → p.at ≤ length text → ReadAlike text p p
alike_none text p h = alike_places text p p (omega arith) h (omega arith) (record { forms = refl; readable = refl; lines = λ k. refl })

pub alike_then : (text : List ℕ) (p q r : Place) → ReadAlike text p q → ReadAlike text q r → ReadAlike text p r
alike_then text p q r a b = record {
  later = omega (arith, a.later, b.later);
  within = b.within;
  counted = omega (arith, a.counted, b.counted);
  forms = a.forms ∙ b.forms;
  readable = a.readable ∙ b.readable;
  lines = λ k. a.lines k ∙ b.lines k;
}

-- a text that is cut into nothing is empty
cut-nothing : (l : List ℕ) → (split l).ended ≡ [] → (split l).tail ≡ [] → l ≡ []
unfolding joined
cut-nothing l e g = sym (split-joined l) ∙ rw (e, g)

module _ (text : List ℕ) (p : Place) (h : p.at < length text) where
  abbrev at : ℕ
  at = p.at

  here : (b : ℕ) → get_or text at 0 ≡ b → drop at text ≡ b ∷ drop (at + 1) text
  here b e = rw add-one (drop-cons text at 0 h ∙ ap (λ x. x ∷ drop (suc at) text) e)

  pub pass-space : get_or text at 0 ≡ 32 → at + 1 < length text → PassedOne text p (Some (place (at + 1) p.line))
  unfolding split PassedOne
  pass-space e g =
      let rest = split (drop (at + 1) text) in
      let some_left : rest.ended ≡ [] → rest.tail ≡ [] → ⊥ =
      λ x y. omega (arith, length-drop (at + 1) text, ap length (cut-nothing (drop (at + 1) text) x y)) in
      let r : Alike p.line (split (drop at text)) p.line rest = rw (here 32 e) (space_alike p.line rest.ended rest.tail some_left) in
      (alike_places text p (place (at + 1) p.line) (omega arith) (omega arith) (omega arith) r, omega arith)

  -- the first line where its first byte is b, which is not 10
  first-line : (b : ℕ) → get_or text at 0 ≡ b → (b ≡ 10 → ⊥) → rest_of_line text at ≡ b ∷ rest_of_line text (at + 1)
  first-line b e n = rw (here b e, line_length-cons, ne_eqb b 10 n)

  -- a line end, or a remark
  passed-here : (get_or text at 0 ≡ 10) ⊎ (get_or text at 0 ≡ 59) → passed_over (rest_of_line text at) ≡ true
  unfolding passed_over unindented
  passed-here (inl e) = rw (here 10 e, line_length-cons)
  passed-here (inr e) = ap passed_over (first-line 59 e (λ z. omega arith))

  behind_alike : (q : Place) → LineBehind text p q → passed_over (rest_of_line text at) ≡ true → ReadAlike text p q × (at < q.at)
  behind_alike q b o =
      let rest = split (drop q.at text) in
      let l : suc p.line ≡ q.line = omega (arith, b.line) in
      let r : Alike p.line (split (drop at text)) (suc p.line) rest = rw (split-behind text at q.at b.place b.within) (over_alike p.line (rest_of_line text at) rest.ended rest.tail o) in
      (alike_places text p q (omega (arith, b.place)) b.within (omega (arith, b.place, b.line)) (rw l at r), omega (arith, b.place))

  pub pass_line : (get_or text at 0 ≡ 10) ⊎ (get_or text at 0 ≡ 59) → (r : Option Place) → MatchOption r (length text ≤ at + line_length (drop at text)) (LineBehind text p) → PassedOne text p r
  unfolding Stops PassedOne
  pass_line k (Some q) h = behind_alike q h (passed-here k)
  pass_line k None h = λ z. absurd (omega (arith, h))

  -- nothing to pass over: a last line of one byte, and any byte but those that are passed over
  pub stops-last : (get_or text at 0 ≡ 10 → ⊥) → length text ≤ at + 1 → PassedOne text p None
  unfolding Stops PassedOne
  stops-last n k =
      let e : line_length (drop at text) ≡ suc (line_length (drop (at + 1) text)) = rw (here (get_or text at 0) refl, line_length-cons, ne_eqb (get_or text at 0) 10 n) in
      λ z. absurd (omega arith)

  pub stops_byte : (get_or text at 0 ≡ 10 → ⊥) → (get_or text at 0 ≡ 32 → ⊥) → (get_or text at 0 ≡ 59 → ⊥) → PassedOne text p None
  unfolding Stops PassedOne passed_over unindented
  stops_byte n s r = λ z. rw (first-line (get_or text at 0) refl n, ne_eqb (get_or text at 0) 32 s, ne_eqb (get_or text at 0) 59 r) (refl, refl)

-- nothing to pass over: the text's end
pub stops_end : (text : List ℕ) (p : Place) → length text ≤ p.at → PassedOne text p None
unfolding Stops PassedOne
stops_end text p h = λ z. absurd (omega arith)

-- the places that steps lead to, one after another
pub ruleset places = (alike_none, alike_then)

-- the ways out of one step
pub ruleset steps = (pass-space, pass_line, stops-last, stops_byte, stops_end)
