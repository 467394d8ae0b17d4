-- Worked lines, by what remains of them behind their spaces, worked texts, and the lines of their forms: a table of each, with one computed fact about it.
use Rattle.std.specs.Prelude.{ℕ, List, [], ◌∷◌, ◌++◌, Option, Some, None, map, ◌≡◌, refl}
use Rattle.std.proofs.Math.Option.{Option as Maybe, none, some}
use Rattle.laws.specs.Choice.{pick}
use Rattle.laws.specs.Bytes.{bytes}
use Rattle.text.specs.declared.Form.{Form}
use Rattle.text.specs.declared.Form.TheVariants.{Plan, Proc, Thread, Close, Skip, Call, Hold, Loop, Either, One, Two, Share}
use Rattle.text.specs.Kinds.{number_of, after_keyword, between_keyword, keyword_kind, kind_of}
use Rattle.text.specs.Lines.{split, unindented, passed_over, unreadable, unreadable_line, line_for, line_of}

record Example : Type 0 where
  rest : List ℕ
  kind : Option Form

examples : List Example
examples =
    record { rest = bytes "(plan"; kind = Some Plan } ∷
    record { rest = bytes "(proc"; kind = Some Proc } ∷
    record { rest = bytes "(thread 999)"; kind = Some (Thread 999) } ∷
    record { rest = bytes "(thread 999"; kind = None } ∷
    record { rest = bytes "(hold 12"; kind = Some (Hold 12) } ∷
    record { rest = bytes "(hold 0"; kind = Some (Hold 0) } ∷
    record { rest = bytes "(hold 012"; kind = None } ∷
    record { rest = bytes "(hold 00"; kind = None } ∷
    record { rest = bytes "(hold 1000"; kind = None } ∷
    record { rest = bytes "(hold "; kind = None } ∷
    record { rest = bytes "(hold 12)"; kind = None } ∷
    record { rest = bytes "(hold  1"; kind = None } ∷
    record { rest = bytes "(hold +1"; kind = None } ∷
    record { rest = bytes "(share 0"; kind = Some (Share 0) } ∷
    record { rest = bytes "(share 12"; kind = Some (Share 12) } ∷
    record { rest = bytes "(share 999"; kind = Some (Share 999) } ∷
    record { rest = bytes "(share 1000"; kind = None } ∷
    record { rest = bytes "(share 012"; kind = None } ∷
    record { rest = bytes "(share 12)"; kind = None } ∷
    record { rest = bytes "(share  1"; kind = None } ∷
    record { rest = bytes "(share"; kind = None } ∷
    record { rest = bytes "(shared 1"; kind = None } ∷
    record { rest = bytes "(s"; kind = None } ∷
    record { rest = bytes "(call 7)"; kind = Some (Call 7) } ∷
    record { rest = bytes "(call 7"; kind = None } ∷
    record { rest = bytes "(call )"; kind = None } ∷
    record { rest = bytes "(Call 7)"; kind = None } ∷
    record { rest = bytes "(skip)"; kind = Some Skip } ∷
    record { rest = bytes "(skip) "; kind = None } ∷
    record { rest = bytes " (skip)"; kind = None } ∷
    record { rest = bytes "(skip"; kind = None } ∷
    record { rest = bytes "(skip)" ++ (13 ∷ []); kind = None } ∷
    record { rest = bytes "(skip)" ++ (0 ∷ []); kind = None } ∷
    record { rest = 9 ∷ bytes "(skip)"; kind = None } ∷
    record { rest = bytes "(loop"; kind = Some Loop } ∷
    record { rest = bytes "(either"; kind = Some Either } ∷
    record { rest = bytes "(one"; kind = Some One } ∷
    record { rest = bytes "(two"; kind = Some Two } ∷
    record { rest = bytes "(two)"; kind = None } ∷
    record { rest = bytes ")"; kind = Some Close } ∷
    record { rest = bytes "))"; kind = None } ∷
    record { rest = 0 ∷ []; kind = None } ∷
    record { rest = 0 ∷ 0 ∷ []; kind = None } ∷
    record { rest = []; kind = None } ∷
    []

examples-right : map (λ e. kind_of e.rest) examples ≡ map (λ e. e.kind) examples
unfolding examples kind_of keyword_kind between_keyword after_keyword number_of
examples-right = refl

-- the first unreadable line of a text
record Reading : Type 0 where
  text : List ℕ
  unreadable : Maybe ℕ

-- the byte that ends a line
abbrev ended : List ℕ → List ℕ
ended l = l ++ (10 ∷ [])

readings : List Reading
readings =
    record { text = []; unreadable = none } ∷
    record { text = ended (bytes "(plan") ++ ended (bytes "(proc") ++ ended (bytes ")"); unreadable = none } ∷
    record { text = ended (bytes "(plan") ++ bytes "(proc"; unreadable = some 2 } ∷
    record { text = ended (bytes "(plan") ++ ended (bytes "(prod") ++ bytes ")"; unreadable = some 2 } ∷
    record { text = ended (bytes "(plan") ++ ended []; unreadable = none } ∷
    record { text = ended (bytes "  ; (prod") ++ ended (bytes "  (plan") ++ ended (bytes "   ") ++ ended (bytes ";"); unreadable = none } ∷
    record { text = ended []; unreadable = none } ∷
    record { text = ended (9 ∷ []); unreadable = some 1 } ∷
    record { text = ended (9 ∷ bytes "; x"); unreadable = some 1 } ∷
    record { text = ended [] ++ ended (13 ∷ []); unreadable = some 2 } ∷
    record { text = ended (bytes "(plan; x"); unreadable = some 1 } ∷
    record { text = ended (bytes "; x") ++ ended (bytes " (plan "); unreadable = some 2 } ∷
    record { text = ended (bytes "(plan") ++ bytes "; x"; unreadable = some 2 } ∷
    record { text = ended (bytes "(plan") ++ ended [] ++ bytes " "; unreadable = some 3 } ∷
    []

readings-right : map (λ r. unreadable_line r.text) readings ≡ map (λ r. r.unreadable) readings
unfolding readings unreadable_line unreadable split unindented passed_over kind_of keyword_kind pick
readings-right = refl

-- form k of a text, and its line
record Numbered : Type 0 where
  text : List ℕ
  k : ℕ
  line : ℕ

abbrev short_plan : List ℕ
short_plan = ended (bytes "; x") ++ ended (bytes "(plan") ++ ended [] ++ ended (bytes "  ;") ++ ended (bytes "   (proc") ++ ended (bytes ")") ++ ended (bytes "  ")

numbered_forms : List Numbered
numbered_forms =
    record { text = short_plan; k = 1; line = 2 } ∷
    record { text = short_plan; k = 2; line = 5 } ∷
    record { text = short_plan; k = 3; line = 6 } ∷
    record { text = short_plan; k = 4; line = 8 } ∷
    record { text = []; k = 1; line = 1 } ∷
    record { text = ended []; k = 1; line = 2 } ∷
    []

numbered-right : map (λ n. line_of n.text n.k) numbered_forms ≡ map (λ n. n.line) numbered_forms
unfolding numbered_forms line_of line_for split unindented passed_over pick
numbered-right = refl
