-- Rule 13 by the mask of the reachable procedures: what the test of a procedure says.
use Prim.Native.Nat.{ℕ, ◌<◌}
use mathlib.Core.Path.{◌≡◌, ap, subst, ◌∙◌}
use mathlib.Core.Bool.{Bool, not}
use mathlib.Core.List.{List}
use lib.ListN.{length, take}
use Rattle.laws.specs.Mask.{in_mask}
use Rattle.laws.proofs.Tests.{same_test}
use Rattle.laws.proofs.Members.{mem-get_or}
use Rattle.semantics.specs.CallMasks.{reachable_mask, reachable}
use Rattle.semantics.proofs.Calls.Reachable.{reachable_by, reachable-is}
use Rattle.plan.specs.Settled.{PlanTable, table_plan}
use Rattle.procs.specs.declared.Layout.{Layout}
use Rattle.procs.specs.Laid.{Laid}
use Rattle.reach.specs.Reached.{ReachTable}

-- "a procedure that no thread names or reaches through calls"
abbrev pub idles : List ℕ → ℕ → Bool
idles table p = not (reachable (table_plan table) p)

pub idle_tested : (table masks : List ℕ) (l : Layout) (m p : ℕ) (q r : Bool) → PlanTable table → Laid table l → ReachTable table masks
    → m ≡ reachable_mask masks (take l.threads l.runs) → q ≡ in_mask m p → r ≡ not q → r ≡ idles table p
idle_tested table masks l m p q r plan d s u g e =
    let by = reachable_by (table_plan table) masks p (λ n member.
    let (t, b, z) = mem-get_or (table_plan table).threads n member in
    s.exact n (subst (λ k. k < length (table_plan table).procs) z (plan.settled.threads-present t b)) p) in
    let is = reachable-is (table_plan table) p in
    let same : in_mask m p ≡ in_mask (reachable_mask masks (table_plan table).threads) p = ap (λ k. in_mask k p) (u ∙ ap (reachable_mask masks) d.runs_are) in
    e ∙ ap not (g ∙ same ∙ same_test _ (reachable (table_plan table) p) (λ t. is.1 (by.0 t)) (λ t. by.1 (is.0 t)))
