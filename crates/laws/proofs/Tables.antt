-- The rule of a table: a test that is computed over the whole table, and what it says of each entry.
use Prim.Native.Nat.{ℕ, zero, suc, ◌<◌}
use native.Mathlib.Omega.{arith}
use mathlib.Core.Bool.{Bool, true, ◌&&◌}
use mathlib.Core.List.{List, [], ◌∷◌}
use lib.Dec.{T}
use lib.ListN.{length, get_or}
use Rattle.laws.proofs.Tests.{T_and}

module _ {A : Type 0} where
  -- whether each entry passes a test of its place and itself
  abbrev pub each_entry : (ℕ → A → Bool) → List A → Bool
  each_entry f [] = true
  each_entry f (x ∷ xs) = f 0 x && each_entry (λ k. f (suc k)) xs

  pub entry_passes : (f : ℕ → A → Bool) (xs : List A) (d : A) → T (each_entry f xs) → (k : ℕ) → k < length xs → T (f k (get_or xs k d))
  entry_passes f [] d t k h = absurd (omega arith)
  entry_passes f (x ∷ xs) d t zero h = (T_and (f 0 x) (each_entry (λ k. f (suc k)) xs) t).0
  entry_passes f (x ∷ xs) d t (suc k) h = entry_passes (λ k. f (suc k)) xs d (T_and (f 0 x) (each_entry (λ k. f (suc k)) xs) t).1 k (omega arith)
