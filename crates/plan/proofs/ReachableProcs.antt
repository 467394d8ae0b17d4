-- Rule 13 refuses nothing exactly where some thread names or reaches each procedure.
use Prim.Native.Nat.{ℕ, ◌<◌}
use mathlib.Core.Bool.{not}
use mathlib.Core.List.{List}
use mathlib.Core.Logic.{◌↔◌}
use mathlib.Core.Option.{none}
use mathlib.Core.Path.{◌≡◌, sym, ap, subst}
use lib.Dec.{T}
use lib.ListN.{length}
use borrow.Author.Tests.{not-false}
use Rattle.laws.proofs.Tests.{T_true}
use Rattle.text.specs.declared.Form.{Form}
use Rattle.semantics.specs.Calls.{Reachable}
use Rattle.semantics.specs.CallMasks.{reachable}
use Rattle.semantics.proofs.Calls.Reachable.{reachable-is}
use Rattle.plan.specs.Grammar.{plan_in}
use Rattle.plan.specs.Rules.{idle}
use Rattle.plan.proofs.Lowest.{proc_refusal-none, none-proc_refusal}

pub idle-exactly : (fs : List Form) → (idle fs ≡ none) ↔ ((p : ℕ) → p < length (plan_in fs).procs → Reachable (plan_in fs) p)
unfolding idle
idle-exactly fs =
    let plan = plan_in fs in (
      λ e p h. (reachable-is plan p).0 (subst T (sym (not-false (reachable plan p) (proc_refusal-none 13 fs (λ q. not (reachable plan q)) e p h))) tt),
      λ h. none-proc_refusal 13 fs (λ q. not (reachable plan q)) (λ p b. ap not (T_true (reachable plan p) ((reachable-is plan p).1 (h p b)))),
    )
