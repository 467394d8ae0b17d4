-- The lines from their parts, one behind another, in the shape of the needs of the functions that write them.
use Prim.Native.Nat.{ℕ, ◌+◌, ◌/◌, ◌%◌, ◌≤◌}
use mathlib.Core.Bool.{Bool, true, false}
use mathlib.Core.List.{List, [], ◌∷◌, ◌++◌, append-nil}
use mathlib.Core.Logic.{◌⊎◌, inl, inr}
use mathlib.Core.Path.{◌≡◌, refl, ap}
use native.Mathlib.Omega.{arith}
use borrow.Author.Tests.{eq-eqb, ne_eqb}
use lib.Bits.{or_lt}
use lib.ListN.{length, length-append}
use mir.Syntax.{w64}
use mir.Val.{Fits}
use Rattle.limits.specs.Limits.{lock_count, claim_count, mask_size}
use Rattle.laws.specs.Bytes.{bytes}
use Rattle.laws.specs.Mask.{in_mask}
use Rattle.laws.specs.Wrote.{Wrote}
use Rattle.laws.proofs.Wrote.{wrote_none, wrote-more, wrote-length, wrote-three}
use Rattle.columns.specs.Columns.{pair_number, pair_numbers}
use Rattle.columns.proofs.Numbers.{number-held, number-third}
use Rattle.report_lines.specs.Lines.{digits, members, behind_blank, wanted_text, claimed_text, had_locks, had_text, pair_form, step_line}
use Rattle.report_lines.proofs.Listings.{members-upto}

-- the wanted lock, with `s` for a share
module _ (l l₁ : List ℕ) (at i x : ℕ) (v : Wrote l l₁ at i (bytes "(pair " ++ digits (x / 2))) where
  pub wanted-share : (l₂ : List ℕ) (r : ℕ) → x % 2 ≡ 0 → Wrote l₁ l₂ i r (bytes "s") → Wrote l l₂ at r (wanted_text x)
  unfolding wanted_text
  wanted-share l₂ r e w = rw (eq-eqb (x % 2) 0 e) (wrote-more l l₁ l₂ at i r (bytes "(pair " ++ digits (x / 2)) (bytes "s") v w)

  pub wanted-hold : (x % 2 ≡ 0 → ⊥) → Wrote l l₁ at i (wanted_text x)
  unfolding wanted_text
  wanted-hold n = rw (ne_eqb (x % 2) 0 n, append-nil (digits (x / 2))) v

-- a lock where it is had: what is written is the text where the claim is there, and nothing where it is not
module _ (m c k : ℕ) (mark l : List ℕ) (at : ℕ) (q : Bool) (e : q ≡ in_mask m c) where
  module _ (f : q ≡ true) (room : at + length (claimed_text m c k mark) ≤ length l) where
    there : claimed_text m c k mark ≡ behind_blank k ++ mark
    there = rw (← e, f)

    pub claimed_room : at + length (behind_blank k) ≤ length l
    claimed_room = omega (arith, ap length there, length-append (behind_blank k) mark)

    module _ (l₁ : List ℕ) (i : ℕ) (v : Wrote l l₁ at i (behind_blank k)) where
      pub mark-room : i + length mark ≤ length l₁
      mark-room = omega (arith, ap length there, length-append (behind_blank k) mark, v.place, wrote-length l l₁ at i _ v)

      pub claimed-written : (l₂ : List ℕ) (r : ℕ) → Wrote l₁ l₂ i r mark → Wrote l l₂ at r (claimed_text m c k mark)
      claimed-written l₂ r w = rw there (wrote-more l l₁ l₂ at i r (behind_blank k) mark v w)

  pub claimed-not : q ≡ false → at + length (claimed_text m c k mark) ≤ length l → Wrote l l at at (claimed_text m c k mark)
  claimed-not f h = rw (← e, f) (wrote_none l at (omega arith))

-- the locks that are had are the members of a mask of 64 digits
pub had-listed : (m rest : ℕ) → Fits w64 m → rest ≡ had_locks m → members 64 rest ≡ members lock_count (had_locks m)
had-listed m rest f e = rw e (members-upto 64 lock_count (had_locks m) (omega arith) (or_lt 32 (m / mask_size) (m % mask_size) (omega (arith, f.fits)) (omega arith)))

module _ (l l₁ l₂ l₃ : List ℕ) (at i j r : ℕ) where
  pub pair-whole : (m k x : ℕ) → x ≡ k % claim_count → Wrote l l₁ at i (wanted_text x) → Wrote l₁ l₂ i j (had_text m)
      → Wrote l₂ l₃ j r (bytes ")") → Wrote l l₃ at r (pair_form (pair_number m k))
  unfolding pair_form
  pair-whole m k x e u v w =
      rw (number-third m k, number-held m k, ← e) (wrote-three l l₁ l₂ l₃ at i j r (wanted_text x) (had_text m) (bytes ")") u v w)

  pub step-whole : (x t k : ℕ) → t ≡ x % 8 → k ≡ x / 8 → Wrote l l₁ at i (bytes "(step " ++ digits t) → Wrote l₁ l₂ i j (bytes " " ++ digits k)
      → Wrote l₂ l₃ j r (bytes ")\n") → Wrote l l₃ at r (step_line x)
  unfolding step_line
  step-whole x t k e f u v w = rw (← e, ← f) (wrote-three l l₁ l₂ l₃ at i j r (bytes "(step " ++ digits t) (bytes " " ++ digits k) (bytes ")\n") u v w)

-- ---- the next of the pairs that are left in two columns, and their end

pub pairs_next : (ms ms' ks ks' : List ℕ) (m k : ℕ) → ms ≡ m ∷ ms' → ks ≡ k ∷ ks' → pair_numbers ms ks ≡ pair_number m k ∷ pair_numbers ms' ks'
unfolding pair_numbers
pairs_next ms ms' ks ks' m k e f = rw (e, f)

pub pairs-end : (ms ks : List ℕ) → (ms ≡ []) ⊎ (ks ≡ []) → pair_numbers ms ks ≡ []
unfolding pair_numbers
pairs-end ms ks (inl e) = rw e
pairs-end [] ks (inr e) = refl
pairs-end (m ∷ ms) ks (inr e) = rw e
