-- The kind of what remains of a line, as a decision over its first letters and its digits. That it finds exactly the written forms is the theorem `kind-written`.
-- 01, "The plan text": "A line's kind follows from its bytes alone; its place is judged afterwards."
use Rattle.std.specs.Prelude.{Bool, ◌&&◌, cond, ℕ, ◌+◌, ◌-◌, ◌*◌, List, Option, Some, None, eqb, ltb, nat_eq, length, get_or, take, drop}
use Rattle.std.specs.Bool.{then_some}
use Rattle.std.specs.Option.{option_map}
use Rattle.std.specs.Cmp.Lexicographic.{pointwise}
use Rattle.laws.specs.Bytes.{bytes}
use Rattle.text.specs.declared.Form.{Form}
use Rattle.text.specs.declared.Form.TheVariants.{Plan, Proc, Thread, Close, Skip, Call, Hold, Loop, Either, One, Two, Share}

-- a digit, and one that may lead a number of several
abbrev pub digit_of : ℕ → Option ℕ
digit_of b = cond (ltb b 48) None (cond (ltb 57 b) None (Some (b - 48)))

abbrev pub leading_of : ℕ → Option ℕ
leading_of b = cond (ltb b 49) None (cond (ltb 57 b) None (Some (b - 48)))

-- a number of at most two digits with one digit more behind it
abbrev pub append_digit : Option ℕ → Option ℕ → Option ℕ
append_digit None b = None
append_digit (Some x) None = None
append_digit (Some x) (Some y) = cond (ltb 99 x) None (cond (ltb 9 y) None (Some (x * 10 + y)))

-- "one to three digits without a leading zero, or `0`"
unfoldable pub number_of : List ℕ → Option ℕ
number_of l =
    cond (eqb (length l) 1) (digit_of (get_or l 0 0))
    (cond (eqb (length l) 2) (append_digit (leading_of (get_or l 0 0)) (digit_of (get_or l 1 0)))
    (cond (eqb (length l) 3) (append_digit (append_digit (leading_of (get_or l 0 0)) (digit_of (get_or l 1 0))) (digit_of (get_or l 2 0)))
    None))

-- the number after a keyword
unfoldable pub after_keyword : List ℕ → List ℕ → Option ℕ
after_keyword l keyword = cond (pointwise nat_eq (take (length keyword) l) keyword) (number_of (drop (length keyword) l)) None

-- the number between a keyword and a closing bracket
unfoldable pub between_keyword : List ℕ → List ℕ → Option ℕ
between_keyword l keyword = cond (pointwise nat_eq (drop (length l - 1) l) (bytes ")")) (after_keyword (take (length l - 1) l) keyword) None

-- a form that is a keyword alone
unfoldable pub keyword_kind : List ℕ → List ℕ → Form → Option Form
keyword_kind l keyword f = then_some (pointwise nat_eq l keyword) f

-- whether the second letter is b, and the third c
abbrev second : List ℕ → ℕ → Bool
second l b = eqb (get_or l 1 0) b

abbrev third : List ℕ → ℕ → ℕ → Bool
third l b c = second l b && eqb (get_or l 2 0) c

-- by the second letter, and by the third where two forms have the same second
unfoldable pub kind_of : List ℕ → Option Form
kind_of l =
    cond (third l 115 107) (keyword_kind l (bytes "(skip)") Skip)
    (cond (third l 115 104) (option_map Share (after_keyword l (bytes "(share ")))
    (cond (second l 99) (option_map Call (between_keyword l (bytes "(call ")))
    (cond (second l 104) (option_map Hold (after_keyword l (bytes "(hold ")))
    (cond (second l 108) (keyword_kind l (bytes "(loop") Loop)
    (cond (second l 101) (keyword_kind l (bytes "(either") Either)
    (cond (second l 111) (keyword_kind l (bytes "(one") One)
    (cond (third l 116 119) (keyword_kind l (bytes "(two") Two)
    (cond (third l 116 104) (option_map Thread (between_keyword l (bytes "(thread ")))
    (cond (third l 112 108) (keyword_kind l (bytes "(plan") Plan)
    (cond (third l 112 114) (keyword_kind l (bytes "(proc") Proc)
    (keyword_kind l (bytes ")") Close)))))))))))
