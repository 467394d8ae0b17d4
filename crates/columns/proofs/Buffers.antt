-- The words of the first pairs of two columns at the start of a buffer, one pair more at each turn.
use Prim.Native.Nat.{ℕ, zero, suc, ◌+◌, ◌*◌, ◌<◌, ◌≤◌}
use native.Mathlib.Numerals.{add-one}
use native.Mathlib.Omega.{arith}
use mathlib.Core.List.{List, [], ◌∷◌, ◌++◌, flat_map}
use mathlib.Core.Path.{◌≡◌, refl, ap}
use lib.ListN.{length, take, get_or}
use Rattle.laws.specs.Wrote.{Wrote}
use Rattle.laws.proofs.Wrote.{wrote_none, wrote-more}
use Rattle.semantics.specs.Pairs.{pair_words, words_of}
use Rattle.columns.specs.Columns.{pair_numbers}
use Rattle.columns.proofs.Numbers.{numbers-length}

words_snoc : (ws : List ℕ) (i : ℕ) → i < length ws → words_of (take (suc i) ws) ≡ words_of (take i ws) ++ pair_words (get_or ws i 0)
unfolding flat_map
words_snoc [] i h = absurd (omega arith)
words_snoc (w ∷ ws) zero h = refl
words_snoc (w ∷ ws) (suc i) h = ap (λ l. pair_words w ++ l) (words_snoc ws i (omega arith))

pub words_none : (ws out : List ℕ) → Wrote out out 0 (3 * 0) (words_of (take 0 ws))
unfolding flat_map
words_none ws out = wrote_none out 0 (omega arith)

module _ (ms ks : List ℕ) (n i : ℕ) (a : n ≤ length ms) (b : n ≤ length ks) (h : i < n) where
  pub words_more : (out out₁ out₂ : List ℕ) (w : ℕ) → Wrote out out₁ 0 (3 * i) (words_of (take i (pair_numbers ms ks))) → w ≡ get_or (pair_numbers ms ks) i 0
      → Wrote out₁ out₂ (3 * i) (3 * i + 3) (pair_words w) → Wrote out out₂ 0 (3 * (i + 1)) (words_of (take (i + 1) (pair_numbers ms ks)))
  words_more out out₁ out₂ w v e x =
      let step : 3 * (i + 1) ≡ 3 * i + 3 = omega arith in
      let more : words_of (take (i + 1) (pair_numbers ms ks)) ≡ words_of (take i (pair_numbers ms ks)) ++ pair_words w = rw (add-one, e) (words_snoc (pair_numbers ms ks) i (omega (arith, numbers-length ms ks))) in
      rw (step, more) (wrote-more out out₁ out₂ 0 (3 * i) (3 * i + 3) (words_of (take i (pair_numbers ms ks))) (pair_words w) v x)
