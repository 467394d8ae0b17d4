-- The lines of the couples of one pair: those of its couples with the first pairs of a list, and behind them that of its couple with the next, if the two cross. The parts that
-- are printed, joined, are the whole (`parts_joined`), and of two threads of a text what is printed of them (`printed-joined`).
use Prim.Native.Nat.{ℕ, ◌+◌, ◌/◌, ◌<◌, ◌≤◌}
use native.Mathlib.Numerals.{add-one}
use native.Mathlib.Omega.{arith}
use mathlib.Core.Bool.{Bool, true, false, cond}
use mathlib.Core.List.{List, [], ◌∷◌, ◌++◌, append-nil, append_assoc, map, flat_map, flatten}
use mathlib.Core.Option.{none}
use mathlib.Core.Path.{◌≡◌, refl, sym, ap, ◌∙◌}
use lib.ListN.{length, take, get_or}
use lib.Seq.{take-suc, take-length}
use Rattle.laws.specs.Wrote.{Wrote}
use Rattle.laws.proofs.Wrote.{wrote_none, wrote-more}
use Rattle.plan.specs.Rules.{plan_of, crossings_refusal}
use Rattle.report_lines.specs.Lines.{closing}
use Rattle.couples.specs.Couples.{Couple, couple, crosses, couples_with, couples_of, thread_pairs, couples}
use Rattle.couples.specs.Records.{pairs_from}
use Rattle.couples.proofs.Records.{from-length}
use Rattle.couple_lines.specs.CoupleLines.{cross_open, couple_line, couple_lines, printed_couples, crossing_line, couples_part, couples_parts}

lines_append : (cs ds : List Couple) → couple_lines (cs ++ ds) ≡ couple_lines cs ++ couple_lines ds
unfolding flat_map
lines_append [] ds = refl
lines_append (c ∷ cs) ds = rw (lines_append cs ds) (sym (append_assoc (couple_line c) (couple_lines cs) (couple_lines ds)))

-- ---- one pair

with_append : (v : ℕ) (ws xs : List ℕ) → couples_with v (ws ++ xs) ≡ couples_with v ws ++ couples_with v xs
unfolding couples_with
with_append v [] xs = refl
with_append v (w ∷ ws) xs = rw (with_append v ws xs) (go (crosses v w))
  where
    go : (b : Bool) → cond b (couple v w ∷ (couples_with v ws ++ couples_with v xs)) (couples_with v ws ++ couples_with v xs)
        ≡ cond b (couple v w ∷ couples_with v ws) (couples_with v ws) ++ couples_with v xs
    go true = refl
    go false = refl

part-one : (v w : ℕ) → couples_part (w ∷ []) v ≡ crossing_line v w
unfolding couples_part couples_with crossing_line flat_map
part-one v w = go (crosses v w)
  where
    go : (b : Bool) → couple_lines (cond b (couple v w ∷ []) []) ≡ cond b (couple_line (couple v w)) []
    go true = append-nil (couple_line (couple v w))
    go false = refl

part_snoc : (v w : ℕ) (ws : List ℕ) → couples_part (ws ++ (w ∷ [])) v ≡ couples_part ws v ++ crossing_line v w
unfolding couples_part
part_snoc v w ws =
    ap couple_lines (with_append v ws (w ∷ [])) ∙ lines_append (couples_with v ws) (couples_with v (w ∷ [])) ∙ ap (λ l. couple_lines (couples_with v ws) ++ l) (part-one v w)

-- the loop over a list, in the shape of its needs

pub part_none : (v : ℕ) (ws out : List ℕ) → Wrote out out 0 0 (couples_part (take 0 ws) v)
unfolding couples_part couples_with flat_map
part_none v ws out = wrote_none out 0 (omega arith)

module _ (v : ℕ) (ws out₀ out : List ℕ) (i k : ℕ) (part : Wrote out₀ out 0 i (couples_part (take k (pairs_from ws)) v)) where
  pub part-more : (w : ℕ) (out' : List ℕ) (i' : ℕ) → k < length ws / 3 → w ≡ get_or (pairs_from ws) k 0 → Wrote out out' i i' (crossing_line v w)
      → Wrote out₀ out' 0 i' (couples_part (take (k + 1) (pairs_from ws)) v)
  part-more w out' i' h e x =
      let t : take (k + 1) (pairs_from ws) ≡ take k (pairs_from ws) ++ (w ∷ []) = rw (e, add-one) (take-suc (pairs_from ws) k 0 (omega (arith, from-length ws))) in
      rw (t, part_snoc v w (take k (pairs_from ws))) (wrote-more out₀ out out' 0 i i' _ _ part x)

  pub part-done : k ≤ length ws / 3 → length ws / 3 ≤ k → Wrote out₀ out 0 i (couples_part (pairs_from ws) v)
  part-done h g =
      let e : k ≡ length (pairs_from ws) = omega (arith, from-length ws) in
      let t : take k (pairs_from ws) ≡ pairs_from ws = ap (λ n. take n (pairs_from ws)) e ∙ take-length (pairs_from ws) in
      rw t at part

-- ---- all parts

flatten_snoc : (ls : List (List ℕ)) (l : List ℕ) → flatten (ls ++ (l ∷ [])) ≡ flatten ls ++ l
unfolding flatten
flatten_snoc [] l = append-nil l
flatten_snoc (x ∷ ls) l = rw (flatten_snoc ls l) (sym (append_assoc x (flatten ls) l))

lists_joined : (vs ws : List ℕ) → flatten (map (couples_part ws) vs) ≡ couple_lines (couples_of vs ws)
unfolding flatten flat_map couples_part
lists_joined [] ws = refl
lists_joined (v ∷ vs) ws = rw (lists_joined vs ws) (sym (lines_append (couples_with v ws) (couples_of vs ws)))

pub parts_joined : (t u : ℕ) (vs ws : List ℕ)
    → flatten (couples_parts t u vs ws) ≡ cross_open t u (length (couples_of vs ws)) ++ couple_lines (couples_of vs ws) ++ closing
unfolding flatten couples_parts
parts_joined t u vs ws =
    rw (flatten_snoc (map (couples_part ws) vs) closing, lists_joined vs ws)
    (sym (append_assoc (cross_open t u (length (couples_of vs ws))) (couple_lines (couples_of vs ws)) closing))

pub printed-joined : (text : List ℕ) (t u : ℕ) → crossings_refusal text t u ≡ none
    → flatten (couples_parts t u (thread_pairs (plan_of text) t) (thread_pairs (plan_of text) u)) ≡ printed_couples text t u
unfolding printed_couples couples
printed-joined text t u e = rw e (parts_joined t u (thread_pairs (plan_of text) t) (thread_pairs (plan_of text) u))
