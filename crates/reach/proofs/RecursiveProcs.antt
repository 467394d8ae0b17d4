-- Rule 12 by the masks: what the test of a procedure's mask says.
use Prim.Native.Nat.{ℕ, ◌<◌}
use native.Mathlib.Omega.{arith}
use mathlib.Core.Path.{◌≡◌, ◌∙◌}
use mathlib.Core.Bool.{Bool}
use mathlib.Core.List.{List}
use lib.ListN.{get_or}
use Rattle.laws.specs.Mask.{in_mask}
use Rattle.laws.proofs.Tests.{same_test}
use Rattle.semantics.specs.CallMasks.{reaches}
use Rattle.semantics.proofs.Calls.Closure.{reaches-is}
use Rattle.plan.specs.Settled.{table_plan}
use Rattle.procs.specs.declared.Layout.{Layout}
use Rattle.procs.specs.Laid.{Laid}
use Rattle.reach.specs.Reached.{ReachTable}

-- "a procedure that reaches itself"
abbrev pub recurs : List ℕ → ℕ → Bool
recurs table p = reaches (table_plan table).procs p p

module _ (table masks : List ℕ) (l : Layout) (d : Laid table l) (s : ReachTable table masks) (p : ℕ) (h : p < l.procs) where
  pub recursion_tested : (q : Bool) → q ≡ in_mask (get_or masks p 0) p → q ≡ recurs table p
  recursion_tested q g =
      let ps = (table_plan table).procs in
      let exact = s.exact p (omega (arith, d.procs-all)) p in
      g ∙ same_test (in_mask (get_or masks p 0) p) (recurs table p) (λ t. (reaches-is ps p p).1 (exact.0 t)) (λ t. exact.1 ((reaches-is ps p p).0 t))
