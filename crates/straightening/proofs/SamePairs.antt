-- The pairs of a block's holds are listed in text order, both blocks of an either and a loop's block once: as those of the straightened block. So each procedure has the same list
-- of pairs (`straight-pair_list`), and both plans are free of deadlocks by the same test over the same lists (`straight-free`).
use Prim.Native.Nat.{ℕ, zero, suc, ◌<◌}
use native.Mathlib.Omega.{arith}
use mathlib.Core.List.{List, map, map_congr_left}
use mathlib.Core.Logic.Iff
use mathlib.Core.Logic.{◌↔◌}
use mathlib.Core.Path.{◌≡◌, refl, ap, ◌∙◌}
use lib.Dec.{T}
use lib.ListN.{length}
use Rattle.laws.specs.Ascending.{ascending}
use Rattle.semantics.specs.Plan.{Block, done, skip, call, hold, loop, either, end, ◌⨾◌, LockPlan, body_in, Written, Sound, Ranks, AnyCall, Plain}
use Rattle.semantics.specs.Run.{up, unlocked}
use Rattle.semantics.specs.Pairs.{pairs_with, pairs_at, pair_list}
use Rattle.semantics.specs.Conflict.{conflicting}
use Rattle.semantics.specs.Stuck.{DeadlockFree}
use Rattle.semantics.proofs.Thread.Remainders.{plain_body}
use Rattle.semantics.proofs.Critical.PairsComplete.{pairs_⨾}
use Rattle.semantics.proofs.Conflicts.Characterisation.{Ranked, plan-characterisation}
use Rattle.straightening.specs.Straight.{straight, straight_plan}
use Rattle.straightening.proofs.Blocks.{straight-length, straight-body, straight-written, straight-bodies-written, straight-bodies-formed}

-- ---- pairs

-- where the procedures that are called have the same pairs
module _ (f g : ℕ → List ℕ → List ℕ) (same : (p : ℕ) (cs : List ℕ) → f p cs ≡ g p cs) where
  pairs_with_lem : (b : Block) (cs : List ℕ) → Plain b → pairs_with f cs (straight b) ≡ pairs_with g cs b
  unfolding Written straight pairs_with
  pairs_with_lem done cs w = refl
  pairs_with_lem (skip r) cs w = pairs_with_lem r cs w
  pairs_with_lem (call p r) cs w = cc (same p cs, pairs_with_lem r cs w.1)
  pairs_with_lem (hold l b r) cs w = cc (pairs_with_lem b (up l cs) w.1, pairs_with_lem r cs w.2)
  pairs_with_lem (loop b r) cs w =
      pairs_⨾ AnyCall f cs (straight b) (straight r) (straight-written AnyCall b w.0) ∙ cc (pairs_with_lem b cs w.0, pairs_with_lem r cs w.1)
  pairs_with_lem (either a b r) cs w = cc (
    pairs_⨾ AnyCall f cs (straight a) (straight b ⨾ straight r) (straight-written AnyCall a w.0),
    pairs_⨾ AnyCall f cs (straight b) (straight r) (straight-written AnyCall b w.1),
    pairs_with_lem a cs w.0,
    pairs_with_lem b cs w.1,
    pairs_with_lem r cs w.2,
  )
  pairs_with_lem (end l r) cs w = absurd w

-- blocks as they are read, in which no hold has begun
module _ (ps : List Block) (plain : (p : ℕ) → Plain (body_in ps p)) where
  pairs-at : (d p : ℕ) (cs : List ℕ) → pairs_at d (map straight ps) p cs ≡ pairs_at d ps p cs
  unfolding pairs_at
  pairs-at zero p cs = refl
  pairs-at (suc d) p cs = rw (straight-body ps p) (pairs_with_lem (pairs_at d (map straight ps)) (pairs_at d ps) (pairs-at d) (body_in ps p) cs (plain p))

  -- 02, change 8: "its pairs, procedure by procedure, .. are equal to the original's"
  pub straight-pair_list : (p : ℕ) → pair_list (map straight ps) p ≡ pair_list ps p
  unfolding pair_list
  straight-pair_list p = ap ascending (rw (straight-length ps) (pairs-at (length ps) p unlocked))

-- ---- free or deadlock

straight-sound : (ps : List Block) (rank : ℕ → ℕ) → Sound ps rank → Sound (map straight ps) rank
straight-sound ps rank s = record {
  body = λ p. straight-bodies-written (λ q. rank q < rank p) ps p (s.body p);
  filled = straight-bodies-formed ps s.filled;
}

-- by the same ranks
straight-ranks : (ps : List Block) → Ranks ps → Ranks (map straight ps)
straight-ranks ps r = record {
  rank = r.rank;
  sound = straight-sound ps r.rank r.sound;
  below = λ p h. omega (arith, straight-length ps, r.below p (omega (arith, straight-length ps)));
}

straight-ranked : (plan : LockPlan) → Ranked plan → Ranked (straight_plan plan)
unfolding straight_plan
straight-ranked plan r = record {
  ranks = straight-ranks plan.procs r.ranks;
  there = λ t h. omega (arith, straight-length plan.procs, r.there t h);
  few = r.few;
}

-- "and its free or deadlock are equal to the original's"
pub straight-free : (plan : LockPlan) → Ranked plan
    → DeadlockFree (straight_plan plan).procs (straight_plan plan).threads ↔ DeadlockFree plan.procs plan.threads
unfolding straight_plan
straight-free plan r =
    let ps = plan.procs in
    let ns = plan.threads in
    let same : map (pair_list (map straight ps)) ns ≡ map (pair_list ps) ns =
    map_congr_left {l = ns} (λ p m. straight-pair_list ps (plain_body r.ranks.sound) p) in
    let test : (T (conflicting (map (pair_list ps) ns)) → ⊥) ↔ DeadlockFree (map straight ps) ns =
    rw same at (plan-characterisation (straight_plan plan) (straight-ranked plan r)).free in
    Iff.trans (Iff.symm test) (plan-characterisation plan r).free
