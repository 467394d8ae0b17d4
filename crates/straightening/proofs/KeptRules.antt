-- Rules 12, 13 and 9, over the forms of a settled plan, speak of the plan itself, since it is the tree of its forms. The straightened plan is settled too; its procedures reach
-- the same ones, the same are reachable, and no size is greater: so it keeps each of these rules that the plan keeps.
use Prim.Native.Nat.{ℕ, ◌<◌, ◌≤◌}
use native.Mathlib.Omega.{arith}
use mathlib.Core.Logic.{◌↔◌}
use mathlib.Core.Option.{none}
use mathlib.Core.Path.{◌≡◌, subst}
use borrow.Author.Tests.{le-ltb}
use lib.Dec.{ltb}
use lib.ListN.{length}
use Rattle.limits.specs.Limits.{max_size}
use Rattle.semantics.specs.Plan.{LockPlan}
use Rattle.semantics.specs.Calls.{Recursive, Reachable}
use Rattle.semantics.specs.Sizes.{size_of}
use Rattle.plan.specs.Grammar.{forms, plan_in}
use Rattle.plan.specs.Settled.{Settled}
use Rattle.plan.specs.Rules.{recursive, idle, too_large}
use Rattle.plan.proofs.Trees.{plan_of-forms}
use Rattle.plan.proofs.Allowed.{settled-grammatical}
use Rattle.plan.proofs.Lowest.{none-proc_refusal}
use Rattle.plan.proofs.Ranked.{recursive-exactly}
use Rattle.plan.proofs.ReachableProcs.{idle-exactly}
use Rattle.plan.proofs.WithinSize.{sizes-within}
use Rattle.straightening.specs.Straight.{straight_plan}
use Rattle.straightening.proofs.Blocks.{straight-length}
use Rattle.straightening.proofs.Calls.{straight-recursive, straight-reachable}
use Rattle.straightening.proofs.Measures.{straight-settled, straight-size}

-- what the rules say of a settled plan
module _ (plan : LockPlan) (s : Settled plan) where
  whole : plan_in (forms plan) ≡ plan
  whole = plan_of-forms plan (settled-grammatical plan s)

  acyclic : (recursive (forms plan) ≡ none) ↔ ((p : ℕ) → Recursive plan.procs p → ⊥)
  acyclic = subst (λ (x : LockPlan). (recursive (forms plan) ≡ none) ↔ ((p : ℕ) → Recursive x.procs p → ⊥)) whole (recursive-exactly (forms plan))

  none-idle : (idle (forms plan) ≡ none) ↔ ((p : ℕ) → p < length plan.procs → Reachable plan p)
  none-idle = subst (λ (x : LockPlan). (idle (forms plan) ≡ none) ↔ ((p : ℕ) → p < length x.procs → Reachable x p)) whole (idle-exactly (forms plan))

  none-large : (too_large (forms plan) ≡ none) ↔ ((p : ℕ) → p < length plan.procs → size_of plan.procs p ≤ max_size)
  unfolding too_large
  none-large =
      let fs = forms plan in
      subst (λ (x : LockPlan). (too_large fs ≡ none) ↔ ((p : ℕ) → p < length x.procs → size_of x.procs p ≤ max_size)) whole
      (sizes-within fs, λ h. none-proc_refusal 9 fs (λ q. ltb max_size (size_of (plan_in fs).procs q)) (λ p b. le-ltb max_size (size_of (plan_in fs).procs p) (h p b)))

-- 02, change 8: "it is accepted whenever the original is". Rules 4 to 8 are kept by `straight-settled`, for they accept the forms of every settled plan
module _ (plan : LockPlan) (s : Settled plan) where
  pub straight-acyclic : recursive (forms plan) ≡ none → recursive (forms (straight_plan plan)) ≡ none
  unfolding straight_plan
  straight-acyclic e = (acyclic (straight_plan plan) (straight-settled plan s)).1 (λ p x. (acyclic plan s).0 e p ((straight-recursive plan.procs p).0 x))

  pub straight-none-idle : idle (forms plan) ≡ none → idle (forms (straight_plan plan)) ≡ none
  unfolding straight_plan
  straight-none-idle e = (none-idle (straight_plan plan) (straight-settled plan s)).1
      (λ p h. (straight-reachable plan p).1 ((none-idle plan s).0 e p (omega (arith, straight-length plan.procs))))

  pub straight-sizes : too_large (forms plan) ≡ none → too_large (forms (straight_plan plan)) ≡ none
  unfolding straight_plan
  straight-sizes e = (none-large (straight_plan plan) (straight-settled plan s)).1
      (λ p h. omega (arith, straight-size plan.procs p, (none-large plan s).0 e p (omega (arith, straight-length plan.procs))))
