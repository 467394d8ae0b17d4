-- A form is read back from its code (`form_of_code`): the code's remainder by 16 is the form's kind, its quotient the form's number.
use Prim.Native.Nat.{ℕ, ◌+◌, ◌*◌, ◌%◌, ◌<◌}
use mathlib.Core.Path.{◌≡◌, refl}
use native.Mathlib.Omega.{arith}
use Rattle.text.specs.declared.Form.{Form}
use Rattle.text.specs.declared.Form.TheVariants.{Plan, Proc, Thread, Close, Skip, Call, Hold, Loop, Either, One, Two, Share}
use Rattle.text.specs.Forms.{number_in}
use Rattle.plan.specs.Table.{code_of, number_at, form_at}

-- the parts of a code
kind_at : (k n : ℕ) → k < 16 → (k + 16 * n) % 16 ≡ k
kind_at k n h = omega arith

number-at : (k n : ℕ) → k < 16 → n < 65536 → number_at (k + 16 * n) ≡ n
number-at k n h b = omega arith

pub form_of_code : (f : Form) → number_in f < 65536 → form_at (code_of f) ≡ f
unfolding form_at code_of number_in
form_of_code Plan h = refl
form_of_code Proc h = refl
form_of_code (Thread n) h = rw (kind_at 2 n (omega arith), number-at 2 n (omega arith) h)
form_of_code Close h = refl
form_of_code Skip h = refl
form_of_code (Call n) h = rw (kind_at 5 n (omega arith), number-at 5 n (omega arith) h)
form_of_code (Hold l) h = rw (kind_at 6 l (omega arith), number-at 6 l (omega arith) h)
form_of_code Loop h = refl
form_of_code Either h = refl
form_of_code One h = refl
form_of_code Two h = refl
form_of_code (Share l) h = rw (kind_at 11 l (omega arith), number-at 11 l (omega arith) h)
