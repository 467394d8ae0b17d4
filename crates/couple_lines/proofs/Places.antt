-- The parts by their places: the opening, then one for each pair of the first thread, then the closing line, and nothing behind it; so there are two more than pairs.
use Prim.Native.Nat.{ℕ, zero, suc, ◌+◌, ◌-◌, ◌/◌, ◌<◌, ◌≤◌}
use native.Mathlib.Omega.{arith}
use mathlib.Core.List.{List, [], ◌∷◌, map}
use mathlib.Core.Path.{◌≡◌, refl, ◌∙◌}
use lib.ListN.{length, get_or, length-append, length-map, get_or-append, get_or-eq_default}
use lib.Seq.{get_or_at}
use Rattle.laws.specs.Bytes.{bytes}
use Rattle.laws.specs.Wrote.{Wrote}
use Rattle.laws.proofs.Folds.{map_at}
use Rattle.laws.proofs.Wrote.{wrote_none}
use Rattle.report_lines.specs.Lines.{closing}
use Rattle.couples.specs.Couples.{couples_of}
use Rattle.couples.specs.Records.{pairs_from}
use Rattle.couples.proofs.Records.{from-length}
use Rattle.couple_lines.specs.CoupleLines.{cross_open, couples_part, couples_parts}

pub parts_count : (t u : ℕ) (vs ws : List ℕ) → length (couples_parts t u vs ws) ≡ length vs + 2
unfolding couples_parts
parts_count t u vs ws = omega (arith, length-append (map (couples_part ws) vs) (closing ∷ []), length-map vs (couples_part ws))

-- the part of a pair
part_at : (t u : ℕ) (vs ws : List ℕ) (k : ℕ) → (k ≡ 0 → ⊥) → k ≤ length vs → get_or (couples_parts t u vs ws) k [] ≡ couples_part ws (get_or vs (k - 1) 0)
unfolding couples_parts
part_at t u vs ws zero h b = absurd (h refl)
part_at t u vs ws (suc m) h b =
    let c : suc m - 1 ≡ m = omega arith in
    rw c (get_or-append (map (couples_part ws) vs) (closing ∷ []) [] m (omega (arith, length-map vs (couples_part ws))) ∙ map_at (couples_part ws) vs m 0 [] (omega arith))

-- in the shape of the needs, where the pairs of the first thread are read from a list of words
module _ (t u : ℕ) (one ws out out' : List ℕ) (k i : ℕ) where
  pub place_open : (n : ℕ) → k ≡ 0 → n ≡ length (couples_of (pairs_from one) ws) → Wrote out out' 0 i (cross_open t u n)
      → Wrote out out' 0 i (get_or (couples_parts t u (pairs_from one) ws) k [])
  unfolding couples_parts
  place_open n e f w = rw (e, ← f) w

  pub place-pair : (v : ℕ) → (k ≡ 0 → ⊥) → k ≤ length one / 3 → v ≡ get_or (pairs_from one) (k - 1) 0 → Wrote out out' 0 i (couples_part ws v)
      → Wrote out out' 0 i (get_or (couples_parts t u (pairs_from one) ws) k [])
  place-pair v h b e w = rw (part_at t u (pairs_from one) ws k h (omega (arith, from-length one)), ← e) w

  pub place-closing : k ≡ length one / 3 + 1 → Wrote out out' 0 i (bytes ")\n") → Wrote out out' 0 i (get_or (couples_parts t u (pairs_from one) ws) k [])
  unfolding couples_parts closing
  place-closing e w =
      let f : k ≡ suc (length (pairs_from one)) = omega (arith, from-length one) in
      rw (f, get_or_at (map (couples_part ws) (pairs_from one)) closing [] [] (length (pairs_from one)) (length-map (pairs_from one) (couples_part ws))) w

  pub place-past : length one / 3 < k → (k ≡ length one / 3 + 1 → ⊥) → Wrote out out 0 0 (get_or (couples_parts t u (pairs_from one) ws) k [])
  place-past b d =
      rw (get_or-eq_default (couples_parts t u (pairs_from one) ws) [] {n = k} (omega (arith, d, from-length one, parts_count t u (pairs_from one) ws)))
      (wrote_none out 0 (omega arith))
