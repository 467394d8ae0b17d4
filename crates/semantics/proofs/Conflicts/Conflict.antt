-- Source 000's deadlock condition over critical pairs, and what it says of the threads that stand at the pairs: their counts are compatible, and each
-- is excluded from the claim that it wants by another. A pair gives back its two parts.
use Prim.Native.Nat.{ℕ, ◌<◌}
use mathlib.Core.List.{List, [], ◌∷◌}
use mathlib.Core.Bool.{Bool}
use mathlib.Core.Logic.{◌≢◌}
use mathlib.Core.Path.{◌≡◌, ap, ◌∙◌}
use native.Mathlib.Omega.{arith}
use lib.ListN.{get_or}
use lib.Dec.{T}
use Rattle.limits.specs.Limits.{claim_count}
use Rattle.semantics.specs.Plan.{Block, hold, body_in, Plain}
use Rattle.semantics.specs.Run.{thread, compatible, start}
use Rattle.semantics.specs.Pairs.{had_of, wanted_of, Critical, had}
use Rattle.semantics.specs.Conflict.{Conflict}
use Rattle.semantics.proofs.Ground.Claims.{pair-had, pair-wants}
use Rattle.semantics.proofs.Thread.Remainders.{Remainder}
use Rattle.semantics.proofs.Thread.Balance.{Balanced}
use Rattle.semantics.proofs.Gateway.Compatible.{excludes_held, Excludes, compatible-held}
use Rattle.semantics.proofs.Gateway.Invariant.{start_invariant, run_invariant}

pub conflict-two : {ps : List Block} {ns : List ℕ} {S : ℕ → Bool} → Conflict ps ns S → (t : ℕ) × (u : ℕ) × (u ≢ t) × T (S t) × T (S u)
conflict-two c = let (t, s) = c.member in let (u, d, r, _) = c.wanted t s in (t, u, d, s, r)

-- ---- the parts of a pair

module _ (ps : List Block) (bodies : (p : ℕ) → Plain (body_in ps p)) where
  -- the thread at a critical pair is as any thread of a run
  critical-balanced : (p w : ℕ) (c : Critical ps p w) → Balanced (hold c.claim c.inside c.after) c.count
  critical-balanced p w c =
      (run_invariant ps bodies (start ps (p ∷ [])) (thread (hold c.claim c.inside c.after) c.count ∷ []) c.steps c.reached
      (start_invariant ps bodies (p ∷ []))).balanced
      0 (omega arith)

  pub critical-claim : (p w : ℕ) (c : Critical ps p w) → c.claim < claim_count
  unfolding Remainder
  critical-claim p w c = (critical-balanced p w c).remainder.0

  pub pair_held : (p w : ℕ) (c : Critical ps p w) → had_of w ≡ had c.count
  pair_held p w c = ap had_of c.pair ∙ pair-had (had c.count) c.claim (critical-claim p w c)

  pub pair-claim : (p w : ℕ) (c : Critical ps p w) → wanted_of w ≡ c.claim
  pair-claim p w c = ap wanted_of c.pair ∙ pair-wants (had c.count) c.claim (critical-claim p w c)

-- ---- from a conflict to the counts of its threads

module _ (ps : List Block) (bodies : (p : ℕ) → Plain (body_in ps p)) (ns : List ℕ) (S : ℕ → Bool) (c : Conflict ps ns S) where
  abbrev mask : (t : ℕ) (s : T (S t)) → had_of (c.pair t) ≡ had (c.critical t s).count
  mask t s = pair_held ps bodies (get_or ns t 0) (c.pair t) (c.critical t s)

  pub conflict-apart : (t u : ℕ) (s : T (S t)) (r : T (S u)) → t ≢ u → T (compatible (c.critical t s).count (c.critical u r).count)
  conflict-apart t u s r d = compatible-held (c.critical t s).count (c.critical u r).count (rw (← mask t s, ← mask u r) (c.disjoint t u s r d))

  pub conflict_excludes : (t : ℕ) (s : T (S t)) → (u : ℕ) × (u ≢ t) × (r : T (S u)) × Excludes (c.critical u r).count (c.critical t s).claim
  conflict_excludes t s =
      let (u, d, r, e) = c.wanted t s in (
        u,
        d,
        r,
        (excludes_held (c.critical u r).count (c.critical t s).claim).1
            (rw (← mask u r, ← pair-claim ps bodies (get_or ns t 0) (c.pair t) (c.critical t s)) e),
      )
