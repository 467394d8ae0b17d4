-- A mask has at most eight hexadecimal digits, so the eight that are asked for are all. A row is its four parts, one behind another; behind the rows of the locks below n comes that of n.
use Prim.Native.Nat.{ℕ, zero, suc, ◌+◌, ◌-◌, ◌^◌, ◌<◌, ◌≤◌}
use native.Mathlib.Nat.{pow-le-pow_right}
use native.Mathlib.Numerals.{add-one}
use native.Mathlib.Omega.{arith}
use mathlib.Core.List.{List, [], ◌∷◌, ◌++◌}
use mathlib.Core.Logic.{⊎_elim}
use mathlib.Core.Path.{◌≡◌, refl, ap, ◌∙◌}
use lib.Dec.{lit<}
use lib.ListN.{length, take, length-append}
use Rattle.io.specs.Digits.{hex_digit_ascii, IsDigitCount}
use Rattle.io.specs.Digits.{last_digits as digits_in_base}
use Rattle.limits.specs.Limits.{lock_count, mask_size}
use Rattle.laws.specs.Bytes.{bytes}
use Rattle.laws.specs.Wrote.{Wrote}
use Rattle.laws.proofs.Tests.{lt_or_le}
use Rattle.laws.proofs.Wrote.{wrote_none, wrote-length, wrote-more}
use Rattle.report_lines.specs.Lines.{digits}
use Rattle.report_lines.proofs.Writing.{wrote_four}
use Rattle.wiring_text.specs.Wiring.{hex_digits, wiring_row, wiring_rows, wiring_head, wiring_table, hex_count}

-- ---- hexadecimal digits

in_base : (b k n : ℕ) → length (digits_in_base b k n) ≡ k
in_base b zero n = refl
in_base b (suc k) n = rw (length-append (digits_in_base b k _) (hex_digit_ascii _ ∷ []), in_base b k) (add-one k)

hex_length : (n : ℕ) → length (hex_digits n) ≡ hex_count
unfolding hex_digits
hex_length n = in_base 16 hex_count n

-- a mask has no more than eight, so those that were asked for are all
module _ (n r : ℕ) (written : List ℕ) (h : n < mask_size) (f : IsDigitCount 16 hex_count n r) (e : take r written ≡ digits_in_base 16 r n) where
  count : r ≡ hex_count
  count = ⊎_elim (λ (s : r < 9). omega (arith, f.0)) (λ (s : 9 ≤ r). absurd (omega (arith, f.2 (omega arith), pow-le-pow_right {n = 16} (lit< tt) {i = hex_count} {j = r - 1} (omega arith)))) (lt_or_le r 9)

  taken : take r written ≡ hex_digits n
  unfolding hex_digits
  taken = e ∙ ap (λ k. digits_in_base 16 k n) count

  pub hex_room : (l l₁ : List ℕ) (at i : ℕ) (keyword : List ℕ) → at + length keyword + hex_count ≤ length l → Wrote l l₁ at i keyword → i + length (take r written) ≤ length l₁
  hex_room l l₁ at i keyword room w = omega (arith, ap length taken, hex_length n, w.place, wrote-length l l₁ at i keyword w)

  pub hex_whole : (l l₁ l₂ : List ℕ) (at i j : ℕ) (keyword : List ℕ) → Wrote l l₁ at i keyword → Wrote l₁ l₂ i j (take r written) → Wrote l l₂ at j (keyword ++ hex_digits n)
  hex_whole l l₁ l₂ at i j keyword v w = rw (← taken) (wrote-more l l₁ l₂ at i j keyword (take r written) v w)

  pub hex_end : (l l₁ l₂ : List ℕ) (at i j : ℕ) (keyword : List ℕ) → Wrote l l₁ at i keyword → Wrote l₁ l₂ i j (take r written) → j ≡ at + length keyword + hex_count
  hex_end l l₁ l₂ at i j keyword v w = omega (arith, ap length taken, hex_length n, v.place, w.place)

-- ---- a row

pub row-whole : (l l₁ l₂ l₃ l₄ : List ℕ) (at i j m r k b : ℕ) → b ≡ 2 ^ k → Wrote l l₁ at i (bytes "| " ++ digits k) → Wrote l₁ l₂ i j (bytes " | " ++ digits b)
    → Wrote l₂ l₃ j m (bytes " | 0x" ++ hex_digits b) → Wrote l₃ l₄ m r (bytes " |\n") → Wrote l l₄ at r (wiring_row k)
unfolding wiring_row
row-whole l l₁ l₂ l₃ l₄ at i j m r k b e t u v w = rw (← e) (wrote_four l l₁ l₂ l₃ l₄ at i j m r _ _ _ _ t u v w)

-- ---- the rows

pub rows_none : (l : List ℕ) (at : ℕ) → at ≤ length l → Wrote l l at at (wiring_rows 0)
unfolding wiring_rows
rows_none l at h = wrote_none l at h

pub rows_more : (l l₁ l₂ : List ℕ) (at i r n : ℕ) → Wrote l l₁ at i (wiring_rows n) → Wrote l₁ l₂ i r (wiring_row n) → Wrote l l₂ at r (wiring_rows (n + 1))
unfolding wiring_rows
rows_more l l₁ l₂ at i r n v w = rw (add-one n) (wrote-more l l₁ l₂ at i r (wiring_rows n) (wiring_row n) v w)

pub table-whole : (l l₁ l₂ : List ℕ) (i r n : ℕ) → Wrote l l₁ 0 i wiring_head → Wrote l₁ l₂ i r (wiring_rows n) → n ≤ lock_count → lock_count ≤ n → Wrote l l₂ 0 r wiring_table
unfolding wiring_table
table-whole l l₁ l₂ i r n v w h k = let e : n ≡ lock_count = omega arith in wrote-more l l₁ l₂ 0 i r wiring_head (wiring_rows lock_count) v (rw e at w)
