-- The digits of a number: they do not depend on how many turns are allowed, so a number of several digits has those of its tenth part and its last one. Each is a
-- decimal digit, their value is the number, the first is not 0 unless the number is, and a number below 10 to the power k has at most k.
use Prim.Native.Nat.{ℕ, zero, suc, ◌+◌, ◌-◌, ◌*◌, ◌/◌, ◌%◌, ◌^◌, ◌<◌, ◌≤◌}
use native.Mathlib.Omega.{arith}
use mathlib.Core.Path.{◌≡◌, refl, sym, ap, ◌∙◌}
use mathlib.Core.List.Memᴰ
use mathlib.Core.List.{List, [], ◌∷◌, ◌++◌, Memᴰ, foldl}
use mathlib.Core.Logic.{⊎_elim}
use lib.ListN.{length, get_or, set, length-append, get_or-append}
use borrow.Author.Tests.{lt-ltb, le-ltb}
use Rattle.std.specs.Fmt.{decimal}
use Rattle.std.proofs.lemmas.Fmt.{decimal_digit, decimal_step}
use Rattle.laws.specs.Wrote.{Wrote}
use Rattle.laws.proofs.Tests.{lt_or_le}
use Rattle.laws.proofs.Wrote.{wrote_none, wrote_one, wrote-more, wrote-length}
use Rattle.report_lines.specs.Lines.{digits_in, digits}

turns : (j k n : ℕ) → n < j → n < k → digits_in j n ≡ digits_in k n
unfolding digits_in
turns zero k n h g = absurd (omega arith)
turns (suc j) zero n h g = absurd (omega arith)
turns (suc j) (suc k) n h g = ⊎_elim (λ (s : n < 10). rw (lt-ltb n 10 s))
    (λ (s : 10 ≤ n). rw (le-ltb n 10 s) (ap (λ l. l ++ ((48 + n % 10) ∷ [])) (turns j k (n / 10) (omega arith) (omega arith)))) (lt_or_le n 10)

pub digits-one : (n : ℕ) → n < 10 → digits n ≡ (48 + n) ∷ []
unfolding digits_in digits
digits-one n h = rw (lt-ltb n 10 h)

pub digits_more : (n : ℕ) → 10 ≤ n → digits n ≡ digits (n / 10) ++ ((48 + n % 10) ∷ [])
unfolding digits_in digits
digits_more n h = rw (le-ltb n 10 h) (ap (λ l. l ++ ((48 + n % 10) ∷ [])) (turns n (suc (n / 10)) (n / 10) (omega arith) (omega arith)))

-- what holds of the digits of every number holds of one digit, and of one more digit
by_digits : (P : ℕ → Type 0) → ((n : ℕ) → n < 10 → P n) → ((n : ℕ) → 10 ≤ n → P (n / 10) → P n) → (n : ℕ) → P n
by_digits P one more n = go (suc n) n (omega arith)
  where
    go : (k n : ℕ) → n < k → P n
    go zero n h = absurd (omega arith)
    go (suc k) n h = ⊎_elim (λ (s : n < 10). one n s) (λ (s : 10 ≤ n). more n s (go k (n / 10) (omega arith))) (lt_or_le n 10)

-- ---- the digits are right

-- the number that a text of digits denotes
unfoldable pub value_of : List ℕ → ℕ
value_of l = foldl (λ v b. v * 10 + (b - 48)) 0 l

fold_snoc : (f : ℕ → ℕ → ℕ) (s : ℕ) (l : List ℕ) (b : ℕ) → foldl f s (l ++ (b ∷ [])) ≡ f (foldl f s l) b
fold_snoc f s [] b = refl
fold_snoc f s (x ∷ l) b = fold_snoc f (f s x) l b

pub digits_value : (n : ℕ) → value_of (digits n) ≡ n
unfolding value_of
digits_value = by_digits (λ n. value_of (digits n) ≡ n) (λ n h. rw (digits-one n h) (omega arith))
    (λ n h e. rw (digits_more n h, fold_snoc (λ v b. v * 10 + (b - 48)) 0 (digits (n / 10)) (48 + n % 10), e) (omega arith))

pub digits-some : (n : ℕ) → 0 < length (digits n)
digits-some = by_digits (λ n. 0 < length (digits n)) (λ n h. rw (digits-one n h) (omega arith)) (λ n h e. rw (digits_more n h, length-append) (omega arith))

pub digits_lead : (n : ℕ) → 0 < n → 48 < get_or (digits n) 0 0
digits_lead = by_digits (λ n. 0 < n → 48 < get_or (digits n) 0 0) (λ n h p. rw (digits-one n h) (omega arith))
    (λ n h e p. rw (digits_more n h, get_or-append (digits (n / 10)) ((48 + n % 10) ∷ []) 0 0 (digits-some (n / 10))) (e (omega arith)))

pub digits-bytes : (n b : ℕ) → Memᴰ b (digits n) → (48 ≤ b) × (b ≤ 57)
digits-bytes = by_digits (λ n. (b : ℕ) → Memᴰ b (digits n) → (48 ≤ b) × (b ≤ 57))
    (λ n h b m. let e : b ≡ 48 + n = Memᴰ.eq_of_singleton (rw (digits-one n h) at m) in (omega arith, omega arith))
    (λ n h r b m. ⊎_elim (λ (k : Memᴰ b (digits (n / 10))). r b k)
    (λ (k : Memᴰ b ((48 + n % 10) ∷ [])). let e : b ≡ 48 + n % 10 = Memᴰ.eq_of_singleton k in (omega arith, omega arith))
    (Memᴰ.append_cases (digits (n / 10)) (rw (digits_more n h) at m)))

-- ---- how many there are

pub digits-short : (k n : ℕ) → n < 10 ^ suc k → length (digits n) ≤ suc k
digits-short zero n h = rw (digits-one n (omega arith)) (omega arith)
digits-short (suc k) n h = ⊎_elim (λ (s : n < 10). rw (digits-one n s) (omega arith))
    (λ (s : 10 ≤ n). let r = digits-short k (n / 10) (omega arith) in rw (digits_more n s, length-append) (omega arith)) (lt_or_le n 10)

-- for the numbers of a machine: these two are read by `omega` as rules
pub number_short : (n : ℕ) → n < 2 ^ 64 → length (digits n) ≤ 20
number_short n h = digits-short 19 n (omega arith)

pub byte_short : (n : ℕ) → n < 2 ^ 8 → length (digits n) ≤ 3
byte_short n h = digits-short 2 n (omega arith)

-- ---- a buffer where one digit is written, or two

pub first-room : (l : List ℕ) (at n : ℕ) → at + length (digits n) ≤ length l → at < length l
first-room l at n h = let s = digits-some n in omega arith

pub put_one : (l : List ℕ) (at n : ℕ) → at < length l → n < 10 → Wrote l (set l at (48 + n)) at (at + 1) (digits n)
put_one l at n room h = rw (digits-one n h) (wrote_one l l at at [] (48 + n) room (wrote_none l at (omega arith)))

module _ (l l₁ : List ℕ) (at i n : ℕ) (h : 10 ≤ n) (v : Wrote l l₁ at i (digits (n / 10))) where
  both : digits n ≡ digits (n / 10) ++ digits (n % 10)
  both = digits_more n h ∙ ap (λ l. digits (n / 10) ++ l) (sym (digits-one (n % 10) (omega arith)))

  pub second-room : at + length (digits n) ≤ length l → i < length l₁
  second-room room =
      let s = digits-some (n % 10) in
      omega (arith, ap length both, length-append (digits (n / 10)) (digits (n % 10)), v.place, wrote-length l l₁ at i _ v)

  pub put_two : (l₂ : List ℕ) (r : ℕ) → Wrote l₁ l₂ i r (digits (n % 10)) → Wrote l l₂ at r (digits n)
  put_two l₂ r w = rw both (wrote-more l l₁ l₂ at i r (digits (n / 10)) (digits (n % 10)) v w)

-- ---- they are those that std prints of a machine number

pub digits_decimal : (n : ℕ) → n < 2 ^ 64 → digits n ≡ decimal n
digits_decimal = by_digits (λ n. n < 2 ^ 64 → digits n ≡ decimal n) (λ n h f. digits-one n h ∙ sym (decimal_digit n h))
    (λ n h e f. digits_more n h ∙ ap (λ l. l ++ ((48 + n % 10) ∷ [])) (e (omega arith)) ∙ sym (decimal_step n h f))
