-- The forms of a plan text and how each is written. 01, "The plan text"; 02, change 9, "Add `(share N`, block, `)`".
use Rattle.std.specs.Prelude.{Bool, false, ◌||◌, cond, ℕ, ◌+◌, ◌/◌, ◌%◌, ◌<◌, List, [], ◌∷◌, ◌++◌, ◌≡◌, eqb, ltb}
use Rattle.laws.specs.Bytes.{bytes}
use Rattle.text.specs.declared.Form.{Form}
use Rattle.text.specs.declared.Form.TheVariants.{Plan, Proc, Thread, Close, Skip, Call, Hold, Loop, Either, One, Two, Share}

-- "N is one to three digits without a leading zero, or `0`": the digits of a number below 1,000
unfoldable pub decimal : ℕ → List ℕ
decimal n =
    cond (ltb n 10) ((48 + n) ∷ [])
    (cond (ltb n 100) ((48 + n / 10) ∷ (48 + n % 10) ∷ [])
    ((48 + n / 100) ∷ (48 + n / 10 % 10) ∷ (48 + n % 10) ∷ []))

-- "One form a line, .. no other blanks than those shown": the bytes of a form, without spaces before it and the byte 10 that ends its line
unfoldable pub write : Form → List ℕ
write Plan = bytes "(plan"
write Proc = bytes "(proc"
write (Thread n) = bytes "(thread " ++ decimal n ++ bytes ")"
write Close = bytes ")"
write Skip = bytes "(skip)"
write (Call n) = bytes "(call " ++ decimal n ++ bytes ")"
write (Hold n) = bytes "(hold " ++ decimal n
write Loop = bytes "(loop"
write Either = bytes "(either"
write One = bytes "(one"
write Two = bytes "(two"
write (Share n) = bytes "(share " ++ decimal n

-- a form's number, or 0 where it has none
unfoldable pub number_in : Form → ℕ
number_in (Thread n) = n
number_in (Call n) = n
number_in (Hold n) = n
number_in (Share n) = n
number_in f = 0

-- ---- the kinds of forms

-- the number of a form's kind, whatever its own number is, in the order in which the forms are declared
abbrev pub kind_number : Form → ℕ
kind_number Plan = 0
kind_number Proc = 1
kind_number (Thread n) = 2
kind_number Close = 3
kind_number Skip = 4
kind_number (Call n) = 5
kind_number (Hold l) = 6
kind_number Loop = 7
kind_number Either = 8
kind_number One = 9
kind_number Two = 10
kind_number (Share l) = 11

-- whether a form is of the kind of one of the forms gs, whatever their numbers
unfoldable pub kind_in : List Form → Form → Bool
kind_in [] f = false
kind_in (g ∷ gs) f = eqb (kind_number g) (kind_number f) || kind_in gs f

-- `(proc`
abbrev pub is_proc : Form → Bool
is_proc f = kind_in (Proc ∷ []) f

-- `(thread N)`
abbrev pub is_thread : Form → Bool
is_thread f = kind_in (Thread 0 ∷ []) f

-- `)`
abbrev pub is_close : Form → Bool
is_close f = kind_in (Close ∷ []) f

-- `(call N)`
abbrev pub is_call : Form → Bool
is_call f = kind_in (Call 0 ∷ []) f

-- `(hold N`
abbrev pub is_hold : Form → Bool
is_hold f = kind_in (Hold 0 ∷ []) f

-- `(share N`
abbrev pub is_share : Form → Bool
is_share f = kind_in (Share 0 ∷ []) f

-- `(hold N` or `(share N`: the forms that take a lock, which rule 6 tests
abbrev pub takes_lock : Form → Bool
takes_lock f = kind_in (Hold 0 ∷ Share 0 ∷ []) f

-- "A statement is `(skip)`; `(call N)`; `(hold N` ..; `(loop` ..; or `(either` .."; 02, change 9: a share is "one statement and one bracket in rule 5"
abbrev pub is_statement : Form → Bool
is_statement f = kind_in (Skip ∷ Call 0 ∷ Hold 0 ∷ Loop ∷ Either ∷ Share 0 ∷ []) f

-- "brackets of hold, loop, either, one and two", and of share
abbrev pub is_bracket : Form → Bool
is_bracket f = kind_in (Hold 0 ∷ Loop ∷ Either ∷ One ∷ Two ∷ Share 0 ∷ []) f

-- forms that do not stand within a procedure: they begin the plan, a procedure or a thread
abbrev pub begins_other : Form → Bool
begins_other f = kind_in (Plan ∷ Proc ∷ Thread 0 ∷ []) f

-- what remains of a line is a form exactly when it is the bytes in which that form is written (theorem `kind-written`)
pub record IsForm (rest : List ℕ) (f : Form) : Type 0 where
  pub small : number_in f < 1000
  pub written : rest ≡ write f
