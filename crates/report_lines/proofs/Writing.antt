-- Four parts one behind another are three and one.
use Prim.Native.Nat.{ℕ}
use mathlib.Core.List.{List, ◌++◌}
use Rattle.laws.specs.Wrote.{Wrote}
use Rattle.laws.proofs.Wrote.{wrote-more, wrote-three}

pub wrote_four : (l l₁ l₂ l₃ l₄ : List ℕ) (at i j k r : ℕ) (a b c d : List ℕ) → Wrote l l₁ at i a → Wrote l₁ l₂ i j b → Wrote l₂ l₃ j k c → Wrote l₃ l₄ k r d
    → Wrote l l₄ at r (a ++ b ++ c ++ d)
wrote_four l l₁ l₂ l₃ l₄ at i j k r a b c d t u v w = wrote-more l l₃ l₄ at k r (a ++ b ++ c) d (wrote-three l l₁ l₂ l₃ at i j k a b c t u v) w
