-- A procedure has fewer pairs than half its size: each hold gives at most one pair, has size 2, and has a statement inside.
use Prim.Native.Nat.{ℕ, zero, suc, ◌+◌, ◌*◌, ◌<◌, ◌≤◌}
use mathlib.Core.List.{List, [], ◌∷◌}
use mathlib.Core.Bool.{Bool, true, false, cond}
use mathlib.Core.Logic.{⊎_elim}
use native.Mathlib.Omega.{arith}
use lib.ListN.{length, length-append}
use Rattle.laws.proofs.Tests.{lt_or_le}
use Rattle.laws.proofs.Ascending.{ascending-length}
use Rattle.semantics.specs.Plan.{Block, done, skip, call, hold, loop, either, end, body_in, WellFormed, Sound}
use Rattle.semantics.specs.Sizes.{size_with, size_at, size_of}
use Rattle.semantics.specs.Run.{up, down, unlocked}
use Rattle.semantics.specs.Pairs.{pair_of, had, fresh, pairs_with, pairs_at, pairs, pair_list}
use Rattle.semantics.proofs.Thread.Remainders.{absent-body}

-- the number of holds, those of called procedures at each call; h p is that of procedure p
unfoldable pub holds_with : (ℕ → ℕ) → Block → ℕ
holds_with h done = 0
holds_with h (skip r) = holds_with h r
holds_with h (call p r) = h p + holds_with h r
holds_with h (hold l b r) = 1 + holds_with h b + holds_with h r
holds_with h (loop b r) = holds_with h b + holds_with h r
holds_with h (either a b r) = holds_with h a + holds_with h b + holds_with h r
holds_with h (end l r) = holds_with h r

unfoldable pub holds_at : ℕ → List Block → ℕ → ℕ
holds_at zero ps p = 0
holds_at (suc d) ps p = holds_with (holds_at d ps) (body_in ps p)

one : (x : ℕ) (t : Bool) → length (cond t (x ∷ []) []) ≤ 1
one x true = omega arith
one x false = omega arith

-- at most one pair for each hold
pub pairs-le-holds : (f : ℕ → List ℕ → List ℕ) (h : ℕ → ℕ) → ((p : ℕ) (cs : List ℕ) → length (f p cs) ≤ h p) → (cs : List ℕ) (b : Block)
    → length (pairs_with f cs b) ≤ holds_with h b
unfolding pairs_with holds_with
pairs-le-holds f h e cs done = omega arith
pairs-le-holds f h e cs (skip r) = pairs-le-holds f h e cs r
pairs-le-holds f h e cs (call p r) = simp length-append (omega (arith, e p cs, pairs-le-holds f h e cs r))
pairs-le-holds f h e cs (hold l b r) =
    simp length-append (omega (arith, one (pair_of (had cs) l) (fresh cs l), pairs-le-holds f h e (up l cs) b, pairs-le-holds f h e cs r))
pairs-le-holds f h e cs (loop b r) = simp length-append (omega (arith, pairs-le-holds f h e cs b, pairs-le-holds f h e cs r))
pairs-le-holds f h e cs (either a b r) = simp length-append
    (omega (arith, pairs-le-holds f h e cs a, pairs-le-holds f h e cs b, pairs-le-holds f h e cs r))
pairs-le-holds f h e cs (end l r) = pairs-le-holds f h e (down l cs) r

pub pairs-le-holds_at : (d : ℕ) (ps : List Block) (p : ℕ) (cs : List ℕ) → length (pairs_at d ps p cs) ≤ holds_at d ps p
unfolding pairs_at holds_at
pairs-le-holds_at zero ps p cs = omega arith
pairs-le-holds_at (suc d) ps p cs = pairs-le-holds (pairs_at d ps) (holds_at d ps) (pairs-le-holds_at d ps) cs (body_in ps p)

-- 1 for a block that is not empty
abbrev least : Bool → ℕ
least empty = cond empty 0 1

least-le : (e : Bool) → least e ≤ 1
least-le true = omega arith
least-le false = omega arith

-- twice the holds, and one more unless the block may be empty
pub holds-size : (h s : ℕ → ℕ) → ((p : ℕ) → 2 * h p ≤ s p) → (e : Bool) (b : Block) → WellFormed e b → 2 * holds_with h b + least e ≤ size_with s b
unfolding holds_with size_with WellFormed
holds-size h s k true done w = omega arith
holds-size h s k false done w = absurd w
holds-size h s k e (skip r) w = omega (arith, least-le e, holds-size h s k true r w)
holds-size h s k e (call p r) w = omega (arith, least-le e, k p, holds-size h s k true r w)
holds-size h s k e (hold l b r) w = omega (arith, least-le e, holds-size h s k false b w.0, holds-size h s k true r w.1)
holds-size h s k e (loop b r) w = omega (arith, least-le e, holds-size h s k false b w.0, holds-size h s k true r w.1)
holds-size h s k e (either a b r) w = omega (
  arith,
  least-le e,
  holds-size h s k false a w.0,
  holds-size h s k false b
      w.1,
  holds-size h s k true r w.2,
)
holds-size h s k e (end l r) f = absurd f

module _ (ps : List Block) (rank : ℕ → ℕ) (s : Sound ps rank) where
  holds-size_at : (d p : ℕ) → 2 * holds_at d ps p ≤ size_at d ps p
  unfolding holds_at size_at holds_with size_with
  holds-size_at zero p = omega arith
  holds-size_at (suc d) p =
      ⊎_elim (λ (b : p < length ps). omega (arith, holds-size (holds_at d ps) (size_at d ps) (holds-size_at d) false (body_in ps p) (s.filled p b)))
      (λ (b : length ps ≤ p). rw (absent-body ps p b) (omega arith))
      (lt_or_le p (length ps))

  pub pairs_bound : (d p : ℕ) → p < length ps → 0 < d → 2 * length (pairs d ps p) < size_at d ps p
  unfolding holds_at size_at
  pairs_bound zero p b z = absurd (omega arith)
  pairs_bound (suc d) p b z = omega (
    arith,
    pairs-le-holds_at (suc d) ps p unlocked,
    holds-size (holds_at d ps) (size_at d ps) (holds-size_at d) false
        (body_in ps p) (s.filled p b),
  )

  -- 2 × pairs + 1 ≤ size
  pub pair_list_bound : (p : ℕ) → p < length ps → 2 * length (pair_list ps p) + 1 ≤ size_of ps p
  unfolding pair_list size_of
  pair_list_bound p b = omega (arith, pairs_bound (length ps) p b (omega arith), ascending-length (pairs (length ps) ps p))
