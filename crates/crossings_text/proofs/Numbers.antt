-- The number that an argument is. What is left of the argument decides whether all are digits, and with the number so far which number they are. What is cut off at each digit is cut
-- off at the end: so the digits of n are the number n, or 999 where n is above it.
use Prim.Native.Nat.{ℕ, ◌+◌, ◌-◌, ◌*◌, ◌<◌, ◌≤◌, min}
use native.Mathlib.Numerals.{add-one}
use native.Mathlib.Nat.{not-suc-le-zero}
use native.Mathlib.Omega.{arith}
use mathlib.Core.Bool.{true, false, ◌&&◌}
use mathlib.Core.List.{List, [], ◌∷◌, foldl, Memᴰ}
use mathlib.Core.Path.{◌≡◌, refl, sym, ap, ◌∙◌}
use borrow.Author.Tests.{le-leb}
use Rattle.std.proofs.Common.{Some, None}
use lib.ListN.{length, drop, get_or, drop_of_length-le}
use lib.Seq.{drop-cons}
use Rattle.report_lines.specs.Lines.{digits}
use Rattle.report_lines.proofs.Digits.{value_of, digits_value, digits-some, digits-bytes}
use Rattle.crossings_text.specs.Request.{most_asked, is_digit, all_digits, is_decimal, next_digit, asked_number, thread_number}

number-some : (argument : List ℕ) → 0 < length argument → is_decimal argument ≡ all_digits argument
unfolding is_decimal
number-some [] h = absurd (not-suc-le-zero h)
number-some (b ∷ bs) h = refl

-- ---- the loop over an argument, in the shape of its needs

module _ (argument : List ℕ) (i : ℕ) (left : all_digits (drop i argument) ≡ all_digits argument) where
  module _ (h : i < length argument) where
    turn : all_digits argument ≡ (is_digit (get_or argument i 0) && all_digits (drop (i + 1) argument))
    unfolding all_digits
    turn = sym left ∙ rw (add-one, drop-cons argument i 0 h)

    pub digit-passed : is_digit (get_or argument i 0) ≡ true → all_digits (drop (i + 1) argument) ≡ all_digits argument
    digit-passed e = sym (rw e at turn)

    pub no-digit : is_digit (get_or argument i 0) ≡ false → None ≡ thread_number argument
    unfolding thread_number
    no-digit e = let f : all_digits argument ≡ false = rw e at turn in rw (number-some argument (omega arith), f)

  pub number-done : (n : ℕ) → length argument ≤ i → 0 < length argument → foldl next_digit n (drop i argument) ≡ asked_number argument → Some n ≡ thread_number argument
  unfolding all_digits thread_number
  number-done n h k e =
      let all : true ≡ all_digits argument = rw (drop_of_length-le argument h) at left in
      let number : n ≡ asked_number argument = rw (drop_of_length-le argument h) at e in
      rw (number-some argument k, ← all, number)

pub no_number : (argument : List ℕ) → length argument ≡ 0 → None ≡ thread_number argument
unfolding thread_number is_decimal
no_number [] h = refl
no_number (b ∷ bs) h = absurd (omega arith)

-- ---- the number of the digits of n

all_digits_lem : (l : List ℕ) → ((b : ℕ) → Memᴰ b l → (48 ≤ b) × (b ≤ 57)) → all_digits l ≡ true
unfolding all_digits
all_digits_lem [] h = refl
all_digits_lem (b ∷ l) h =
    let e = h b (Memᴰ.head refl) in
    rw (le-leb 48 b e.0, le-leb b 57 e.1) (all_digits_lem l (λ a m. h a (Memᴰ.tail m)))

cut_off : (l : List ℕ) (v n : ℕ) → n ≡ min v most_asked → foldl next_digit n l ≡ min (foldl (λ v b. v * 10 + (b - 48)) v l) most_asked
unfolding next_digit
cut_off [] v n e = e
cut_off (b ∷ l) v n e = cut_off l (v * 10 + (b - 48)) (min (10 * n + (b - 48)) most_asked) (omega arith)

pub decimal-digits : (n : ℕ) → is_decimal (digits n) ≡ true
decimal-digits n = number-some (digits n) (digits-some n) ∙ all_digits_lem (digits n) (digits-bytes n)

pub number_of-digits : (n : ℕ) → asked_number (digits n) ≡ min n most_asked
unfolding asked_number value_of
number_of-digits n = cut_off (digits n) 0 0 (omega arith) ∙ ap (λ v. min v most_asked) (digits_value n)
