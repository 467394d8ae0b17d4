-- The table while it is filled: its first n codes are the forms read so far, and with the forms of the lines that are left they are the text's; what is passed over
-- changes neither.
use Prim.Native.Nat.{ℕ, ◌+◌, ◌-◌, ◌*◌, ◌<◌, ◌≤◌}
use native.Mathlib.Numerals.{add-one}
use native.Mathlib.Omega.{arith}
use mathlib.Core.Path.{◌≡◌, refl, sym, ap, ◌∙◌}
use mathlib.Core.List.{List, [], ◌∷◌, ◌++◌, map-append, append-nil}
use mathlib.Core.Option.{Option, none, some, none-ne-some, or_else}
use borrow.Author.Tests.{lt-ltb, le-ltb}
use lib.ListN.{length, take, set, length-map}
use lib.Seq.{length-take-le, take-suc-set, append_snoc}
use Rattle.limits.specs.Limits.{max_bytes}
use Rattle.text.specs.declared.Refusal.{Refusal}
use Rattle.text.specs.declared.Line.{Line}
use Rattle.text.specs.declared.Place.{Place}
use Rattle.text.specs.Lines.{refusal, line_at, forms_of, unreadable_line}
use Rattle.text.specs.Passing.{place, ReadAlike, Stops}
use Rattle.text.proofs.Reading.{forms_from, unreadable_from, ReadForm, read-form, ReadRefused, read-refused, ended-forms, ended-readable}
use Rattle.std.specs.Prelude.{Result, Ok, Err}
use Rattle.plan.specs.Table.{code_of, form_at, table_forms, FormRoom}
use Rattle.plan.specs.Rules.{refused_at, too_long, lines_refusal, in_file, reading_of, read_in_file, Tabled}
use Rattle.plan.proofs.Codes.{form_of_code}

-- the forms before the place p are in the table, n of them, each with a line end behind it; at p stands the next form, or the text's end
pub record Filling (text table : List ℕ) (p : Place) (n : ℕ) : Type 0 where
  pub pace : n * 2 ≤ p.at
  pub within : p.at ≤ length text
  pub counted : p.line ≤ p.at + 1
  pub stops : Stops text p.at
  pub read : table_forms (take n table) ++ forms_from text p.at ≡ forms_of text
  pub readable : unreadable_from text p.at p.line ≡ unreadable_line text

pub filling_none : (text table : List ℕ) (p : Place) → ReadAlike text (place 0 1) p → Stops text p.at → Filling text table p 0
unfolding forms_of unreadable_line
filling_none text table p a s =
    record { pace = omega arith; within = a.within; counted = omega (arith, a.counted); stops = s; read = sym a.forms; readable = sym a.readable }

module _ (text table : List ℕ) (p : Place) (n : ℕ) (s : Filling text table p n) where
  -- the line at p is read
  module _ (x : Line) (e : Ok x ≡ line_at text p.at p.line) where
    read : ReadForm text p.at p.line x
    read = read-form text p.at p.line x (sym e)

    pub next-within : (x.next ≤ length text) × (p.line + 1 ≤ x.next + 1)
    next-within = (read.within, omega (arith, s.counted, read.later))

    module _ (q : Place) (a : ReadAlike text (place x.next (p.line + 1)) q) where
      pub filling_more : (table₀ table₁ : List ℕ) → table₁ ≡ set table n (code_of x.form) → length text ≤ max_bytes → FormRoom text table₀ → length table ≡ length table₀
          → p.at < length text → Stops text q.at → Filling text table₁ q (n + 1)
      filling_more table₀ table₁ k b c d h stops =
          let room : n < length table = omega (arith, s.pace, c.room) in
          let form : form_at (code_of x.form) ≡ x.form = form_of_code x.form (omega (arith, read.small)) in
          let one : table_forms (take (n + 1) table₁) ≡ table_forms (take n table) ++ (x.form ∷ []) =
          rw (k, add-one, take-suc-set table n (code_of x.form) room, map-append form_at (take n table) (code_of x.form ∷ []), form) in
          record {
            pace = omega (arith, s.pace, read.later, a.later);
            within = a.within;
            counted = omega (arith, s.counted, read.later, a.counted);
            stops = stops;
            read = rw (one, append_snoc (table_forms (take n table)) x.form (forms_from text q.at), ← a.forms, ← read.forms) s.read;
            readable = sym a.readable ∙ rw (add-one p.line) (sym read.unreadable ∙ s.readable);
          }

      pub filling_less : length text - q.at < length text - p.at
      filling_less = omega (arith, read.later, a.later, a.within)

  -- or refused
  pub filling_refused : (x : Refusal) (table₁ : List ℕ) → Err x ≡ line_at text p.at p.line → p.at < length text → Tabled (refused_at 3 (unreadable_line text)) text (Err x) table₁
  unfolding reading_of
  filling_refused x table₁ e h =
      let y : ReadRefused text p.at p.line x = read-refused text p.at p.line x h s.stops (sym e) in
      let u : some p.line ≡ unreadable_line text = sym y.unreadable ∙ s.readable in
      record {
        answer = rw (y.answer, ← u);
        forms = λ none-refused. absurd (none-ne-some _ (sym (rw (← u) at none-refused)));
      }

pub filling_done : (text table table₀ : List ℕ) (p : Place) (n : ℕ) → Filling text table p n → length text ≤ p.at → length text ≤ max_bytes
    → FormRoom text table₀ → length table ≡ length table₀
    → Tabled (refused_at 3 (unreadable_line text)) text (Ok n) table
unfolding reading_of
filling_done text table table₀ p n s h a b c =
    let e : none ≡ unreadable_line text = ended-readable text p.at p.line h (unreadable_line text) s.readable in
    let f : table_forms (take n table) ≡ forms_of text =
    sym (append-nil (table_forms (take n table))) ∙ ap (λ l. table_forms (take n table) ++ l) (ended-forms text p.at p.line h (forms_from text p.at) refl) ∙ s.read in
    let k : length (forms_of text) ≡ n = ap length (sym f) ∙ length-map (take n table) form_at ∙ length-take-le n table (omega (arith, s.pace, s.within, b.room)) in
    record { answer = rw (← e, k); forms = λ _. rw k f }

-- an answer that accepts
pub accepted-none : (a : Option Refusal) (m n : ℕ) → reading_of a m ≡ Ok n → a ≡ none
unfolding reading_of
accepted-none none m n e = refl
accepted-none (some r) m n e = cc

pub accepted-count : (a : Option Refusal) (m n : ℕ) → reading_of a m ≡ Ok n → n ≡ m
unfolding reading_of
accepted-count none m n e = cc
accepted-count (some r) m n e = cc

-- an answer that refuses
pub refused-is : (a : Option Refusal) (m : ℕ) (x : Refusal) → reading_of a m ≡ Err x → a ≡ some x
unfolding reading_of
refused-is none m x e = cc
refused-is (some w) m x e = let k : w ≡ x = cc in ap {B = Option Refusal} some k

-- ---- the rules 2 and 3

pub lines_long : (text table : List ℕ) → max_bytes < length text → Tabled (lines_refusal text) text (Err (refusal 2 0)) table
unfolding lines_refusal too_long or_else reading_of
lines_long text table h = rw (lt-ltb max_bytes (length text) h) (record { answer = refl; forms = λ e. absurd (none-ne-some _ (sym e)) })

pub lines-read : (text table : List ℕ) (q : Result ℕ Refusal) → length text ≤ max_bytes → Tabled (refused_at 3 (unreadable_line text)) text q table → Tabled (lines_refusal text) text q table
unfolding lines_refusal too_long or_else
lines-read text table q h t = rw (le-ltb max_bytes (length text) h) t

-- ---- the line in the file

-- a refusal that names a form, as a reading, with the form's line
pub read-in_file : (text : List ℕ) (o : Option Refusal) (n : ℕ) → read_in_file text (reading_of o n) ≡ reading_of (in_file text o) n
unfolding reading_of
read-in_file text none n = refl
read-in_file text (some x) n = refl
