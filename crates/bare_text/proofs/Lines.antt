-- A form's line is its keyword, its number's digits and the rest of the line: a number below 1,000 has the same digits here as in the report. The check finds the laws of the
-- set `lines` by itself where a line is written.
use Prim.Native.Nat.{ℕ, ◌/◌, ◌<◌, ◌≤◌}
use native.Mathlib.Omega.{arith}
use mathlib.Core.Path.{◌≡◌, sym, ap, ◌∙◌}
use mathlib.Core.Logic.{⊎_elim}
use mathlib.Core.List.{[], ◌∷◌, ◌++◌, append_assoc}
use borrow.Author.Tests.{lt-ltb, le-ltb}
use Rattle.laws.specs.Bytes.{bytes}
use Rattle.laws.proofs.Tests.{lt_or_le}
use Rattle.text.specs.declared.Form.{Form}
use Rattle.text.specs.declared.Form.TheVariants.{Plan, Proc, Thread, Close, Skip, Call, Hold, Loop, Either, One, Two, Share}
use Rattle.text.specs.Forms.{decimal, write, number_in}
use Rattle.report_lines.specs.Lines.{digits}
use Rattle.report_lines.proofs.Digits.{digits-one, digits_more}
use Rattle.bare_text.specs.Writing.{form_line}

-- ---- the digits of a form's number

digits_decimal : (n : ℕ) → n < 1000 → digits n ≡ decimal n
unfolding decimal
digits_decimal n h = ⊎_elim one (λ (g : 10 ≤ n). ⊎_elim (two g) three (lt_or_le n 100)) (lt_or_le n 10)
  where
    one : n < 10 → digits n ≡ decimal n
    one k = rw (lt-ltb n 10 k) (digits-one n k)

    two : 10 ≤ n → n < 100 → digits n ≡ decimal n
    two g k = rw (le-ltb n 10 g, lt-ltb n 100 k, digits_more n g, digits-one (n / 10) (omega arith))

    three : 100 ≤ n → digits n ≡ decimal n
    three g =
        let d : n / 10 / 10 ≡ n / 100 = omega arith in
        rw (le-ltb n 10 (omega arith), le-ltb n 100 g, digits_more n (omega arith), digits_more (n / 10) (omega arith), digits-one (n / 10 / 10) (omega arith), d)

-- ---- a form's line, by its form

module _ (f : Form) where
  pub line-plan : f ≡ Plan → form_line f ≡ bytes "(plan\n"
  unfolding form_line write
  line-plan e = ap form_line e

  pub line-proc : f ≡ Proc → form_line f ≡ bytes "(proc\n"
  unfolding form_line write
  line-proc e = ap form_line e

  pub line-close : f ≡ Close → form_line f ≡ bytes ")\n"
  unfolding form_line write
  line-close e = ap form_line e

  pub line-skip : f ≡ Skip → form_line f ≡ bytes "(skip)\n"
  unfolding form_line write
  line-skip e = ap form_line e

  pub line-loop : f ≡ Loop → form_line f ≡ bytes "(loop\n"
  unfolding form_line write
  line-loop e = ap form_line e

  pub line-either : f ≡ Either → form_line f ≡ bytes "(either\n"
  unfolding form_line write
  line-either e = ap form_line e

  pub line-one : f ≡ One → form_line f ≡ bytes "(one\n"
  unfolding form_line write
  line-one e = ap form_line e

  pub line-two : f ≡ Two → form_line f ≡ bytes "(two\n"
  unfolding form_line write
  line-two e = ap form_line e

  module _ (small : number_in f < 1000) (n : ℕ) where
    pub line-thread : f ≡ Thread n → form_line f ≡ bytes "(thread " ++ digits n ++ bytes ")\n"
    unfolding form_line write number_in
    line-thread e = ap form_line e ∙ append_assoc (bytes "(thread " ++ decimal n) (bytes ")") (10 ∷ [])
        ∙ ap (λ d. bytes "(thread " ++ d ++ bytes ")\n") (sym (digits_decimal n (rw e at small)))

    pub line-call : f ≡ Call n → form_line f ≡ bytes "(call " ++ digits n ++ bytes ")\n"
    unfolding form_line write number_in
    line-call e = ap form_line e ∙ append_assoc (bytes "(call " ++ decimal n) (bytes ")") (10 ∷ [])
        ∙ ap (λ d. bytes "(call " ++ d ++ bytes ")\n") (sym (digits_decimal n (rw e at small)))

    pub line-hold : f ≡ Hold n → form_line f ≡ bytes "(hold " ++ digits n ++ bytes "\n"
    unfolding form_line write number_in
    line-hold e = ap form_line e ∙ ap (λ d. bytes "(hold " ++ d ++ bytes "\n") (sym (digits_decimal n (rw e at small)))

    pub line-share : f ≡ Share n → form_line f ≡ bytes "(share " ++ digits n ++ bytes "\n"
    unfolding form_line write number_in
    line-share e = ap form_line e ∙ ap (λ d. bytes "(share " ++ d ++ bytes "\n") (sym (digits_decimal n (rw e at small)))

pub ruleset lines = (line-plan, line-proc, line-close, line-skip, line-loop, line-either, line-one, line-two, line-thread, line-call, line-hold, line-share)
