-- A couple's line is its parts, one behind another; there is one where the two pairs cross.
use Prim.Native.Nat.{ℕ, ◌+◌, ◌≤◌}
use native.Mathlib.Omega.{arith}
use mathlib.Core.Bool.{Bool, true, false}
use mathlib.Core.List.{List, ◌++◌}
use mathlib.Core.Path.{◌≡◌, sym, ◌∙◌}
use lib.ListN.{length}
use Rattle.laws.specs.Bytes.{bytes}
use Rattle.laws.specs.Wrote.{Wrote}
use Rattle.laws.proofs.Wrote.{wrote_none, wrote-three}
use Rattle.report_lines.specs.Lines.{pair_form}
use Rattle.couples.specs.Couples.{couple, crosses}
use Rattle.couple_lines.specs.CoupleLines.{couple_line, crossing_line, couple_line_room}

pub couple-whole : (o o₁ o₂ o₃ : List ℕ) (at i j r v w : ℕ) → Wrote o o₁ at i (bytes "(couple " ++ pair_form v) → Wrote o₁ o₂ i j (bytes " " ++ pair_form w)
    → Wrote o₂ o₃ j r (bytes ")\n") → Wrote o o₃ at r (couple_line (couple v w))
unfolding couple_line
couple-whole o o₁ o₂ o₃ at i j r v w a b c = wrote-three o o₁ o₂ o₃ at i j r _ _ _ a b c

module _ (v w at : ℕ) (out : List ℕ) (q : Bool) (e : q ≡ crosses v w) where
  pub crossing-there : (out' : List ℕ) (r : ℕ) → q ≡ true → Wrote out out' at r (couple_line (couple v w)) → Wrote out out' at r (crossing_line v w)
  unfolding crossing_line
  crossing-there out' r z x = let t : crosses v w ≡ true = sym e ∙ z in rw t x

  pub crossing-none : q ≡ false → at + couple_line_room ≤ length out → Wrote out out at at (crossing_line v w)
  unfolding crossing_line
  crossing-none z h = let t : crosses v w ≡ false = sym e ∙ z in rw t (wrote_none out at (omega arith))
