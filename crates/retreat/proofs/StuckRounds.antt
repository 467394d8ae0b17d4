-- The largest stuck set by rounds: the threads that want a claim, and then round by round those that are left.
use Prim.Native.Nat.{ℕ, ◌+◌}
use native.Mathlib.Numerals.{add-one}
use mathlib.Core.Path.{◌≡◌}
use mathlib.Core.List.{List}
use Rattle.semantics.specs.StuckRounds.{wanting, stuck_round, stuck_rounds}

module _ (wanted masks : List ℕ) (n : ℕ) where
  pub rounds-first : (r : ℕ) → r ≡ wanting n wanted → r ≡ stuck_rounds 0 n wanted masks
  unfolding stuck_rounds
  rounds-first r e = e

  pub rounds-more : (i m r : ℕ) → m ≡ stuck_rounds i n wanted masks → r ≡ stuck_round n wanted masks m → r ≡ stuck_rounds (i + 1) n wanted masks
  unfolding stuck_rounds
  rounds-more i m r e h = rw (add-one, ← e) h
