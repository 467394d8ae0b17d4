-- What the program `crossings` is asked for by its arguments: all crossings, where there is none; the couples of two threads, where there are two and both are numbers. The number of
-- a thread is decimal digits. 01: "Numbers in plan texts are decimal."; here leading zeros do no harm, and a number above 999 counts as 999: no thread
-- has either number, and rule 14 refuses both alike.
use Rattle.std.specs.Prelude.{ℕ, ◌+◌, ◌*◌, ◌-◌, min, Bool, true, false, ◌&&◌, cond, leb, eqb, Option, Some, None}
use mathlib.Core.List.{List, [], ◌∷◌, foldl}
use Rattle.couple_lines.specs.CoupleLines.{printed_couples}
use Rattle.crossings_text.specs.AllCrossings.{printed_crossings}
use Rattle.crossings_text.specs.declared.Request.{Request}
use Rattle.crossings_text.specs.declared.Request.TheVariants.{All, Two}

-- the most that a thread's number counts as
abbrev pub most_asked : ℕ
most_asked = 999

abbrev pub is_digit : ℕ → Bool
is_digit b = leb 48 b && leb b 57

-- every byte is a digit
unfoldable pub all_digits : List ℕ → Bool
all_digits [] = true
all_digits (b ∷ bs) = is_digit b && all_digits bs

-- and there is one
unfoldable pub is_decimal : List ℕ → Bool
is_decimal [] = false
is_decimal (b ∷ bs) = all_digits (b ∷ bs)

-- a digit behind those before it
unfoldable pub next_digit : ℕ → ℕ → ℕ
next_digit n b = min (10 * n + (b - 48)) most_asked

-- the number that the digits spell, 999 where it is above
unfoldable pub asked_number : List ℕ → ℕ
asked_number argument = foldl next_digit 0 argument

-- the number of a thread that an argument is, where it is one
unfoldable pub thread_number : List ℕ → Option ℕ
thread_number argument = cond (is_decimal argument) (Some (asked_number argument)) None

-- the couples of two threads, where both are known
abbrev pub two_asked : Option ℕ → Option ℕ → Option Request
two_asked (Some t) (Some u) = Some (Two t u)
two_asked (Some t) None = None
two_asked None u = None

-- what so many arguments ask for, of which these are the first two
unfoldable pub request_of : ℕ → List ℕ → List ℕ → Option Request
request_of arguments first second =
    cond (eqb arguments 0) (Some All)
    (cond (eqb arguments 2) (two_asked (thread_number first) (thread_number second)) None)

-- what is printed of a text on request, and nothing where it is not known what is asked for
unfoldable pub printed_request : Option Request → List ℕ → List ℕ
printed_request (Some All) text = printed_crossings text
printed_request (Some (Two t u)) text = printed_couples text t u
printed_request None text = []
