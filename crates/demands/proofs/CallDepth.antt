-- Calls go to lower ranks, and ranks are below the number of procedures: so that depth cuts off no call (`ranks_follow`), in a plan that rules 4 to 8 and 12 let pass
-- (`follows-calls`) and in every accepted one (`accepted-follows-calls`).
use Prim.Native.Nat.{ℕ, zero, suc, ◌<◌}
use mathlib.Core.List.{List}
use mathlib.Core.Path.{◌≡◌, ◌∙◌}
use native.Mathlib.Omega.{arith}
use lib.ListN.{length}
use Rattle.semantics.specs.Plan.{Block, LockPlan, body_in, Ranks}
use Rattle.semantics.specs.Calls.{Recursive}
use Rattle.semantics.specs.Sizes.{size_with, size_at, size_of}
use Rattle.semantics.proofs.Ground.SizeDepth.{size-agree, size-depth, size_of-body}
use Rattle.semantics.proofs.Critical.PairsComplete.{pairs_unfolds, pairs-depth}
use Rattle.semantics.proofs.Calls.Ranks.{acyclic-ranks}
use Rattle.plan.specs.Settled.{Settled}
use Rattle.plan.specs.Rules.{plan_of}
use Rattle.demands.specs.Broken.{AcceptedText}
use Rattle.demands.specs.CallDepth.{FollowsCalls}
use Rattle.demands.proofs.Accepted.{accepted-plan}

module _ (ps : List Block) (r : Ranks ps) where
  -- s solves the sizes' equations
  module _ (s : ℕ → ℕ) (solves : (p : ℕ) → s p ≡ size_with s (body_in ps p)) where
    only-size : (d p : ℕ) → r.rank p < d → s p ≡ size_at d ps p
    unfolding size_at
    only-size zero p h = absurd (omega arith)
    only-size (suc d) p h =
        solves p ∙ size-agree (λ q. r.rank q < r.rank p) s (size_at d ps) (λ q l. only-size d q (omega arith)) (body_in ps p) (r.sound.body p)

  ranks_follow : FollowsCalls ps
  unfolding size_of
  ranks_follow =
      let n = length ps in
      record {
        size_of-block = λ p h. size_of-body ps r.rank r.sound p (r.below p h);
        size-unique = λ s solves p h. only-size s solves n p (r.below p h);
        size-deeper = λ d p k h. size-depth ps r.rank r.sound d n p (omega (arith, r.below p h)) (r.below p h);
        pairs_of-block = λ p h. pairs_unfolds ps r.rank r.sound n p (r.below p h);
        pairs-deeper = λ d p k h. pairs-depth ps r.rank r.sound d n p (omega (arith, r.below p h)) (r.below p h);
      }

-- what rules 4 to 8 settle, and rule 12
pub follows-calls : (plan : LockPlan) → Settled plan → ((p : ℕ) → Recursive plan.procs p → ⊥) → FollowsCalls plan.procs
follows-calls plan s acyclic = ranks_follow plan.procs (acyclic-ranks plan.procs acyclic s.callees_present s.filled)

pub accepted-follows-calls : (text : List ℕ) → AcceptedText text → FollowsCalls (plan_of text).procs
accepted-follows-calls text x = rw (accepted-plan text x) (follows-calls x.plan x.settled x.acyclic)
