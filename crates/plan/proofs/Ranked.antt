-- Rule 12 refuses nothing exactly where no procedure reaches itself (`recursive-exactly`); then the procedures have ranks (`rules-ranks`), which is what the theory asks of a plan
-- (`settled-ranked`).
use Prim.Native.Nat.{ℕ}
use mathlib.Core.List.{List}
use mathlib.Core.Logic.{◌↔◌}
use mathlib.Core.Option.{none}
use mathlib.Core.Path.{◌≡◌, subst}
use native.Mathlib.Omega.{arith}
use lib.Dec.{T}
use Rattle.laws.proofs.Tests.{T_false}
use Rattle.text.specs.declared.Form.{Form}
use Rattle.semantics.specs.Plan.{LockPlan, Ranks}
use Rattle.semantics.specs.Calls.{Recursive}
use Rattle.semantics.specs.CallMasks.{reaches}
use Rattle.semantics.proofs.Calls.Closure.{reaches-is, reacher_present}
use Rattle.semantics.proofs.Calls.Ranks.{acyclic-ranks}
use Rattle.semantics.proofs.Conflicts.Characterisation.{Ranked}
use Rattle.plan.specs.Grammar.{plan_in}
use Rattle.plan.specs.Rules.{recursive}
use Rattle.plan.specs.Settled.{Settled, table_plan, RulesKept}
use Rattle.plan.proofs.Lowest.{proc_refusal-none, none-proc_refusal}

pub settled-ranked : (plan : LockPlan) → Settled plan → Ranks plan.procs → Ranked plan
settled-ranked plan s r = record { ranks = r; there = s.threads-present; few = omega (arith, s.few-threads) }

module _ (fs : List Form) where
  pub recursive-exactly : (recursive fs ≡ none) ↔ ((p : ℕ) → Recursive (plan_in fs).procs p → ⊥)
  unfolding recursive
  recursive-exactly =
      let ps = (plan_in fs).procs in (
        λ e p x. subst T (proc_refusal-none 12 fs (λ q. reaches ps q q) e p (reacher_present ps x)) ((reaches-is ps p p).1 x),
        λ h. none-proc_refusal 12 fs (λ q. reaches ps q q) (λ p b. T_false (reaches ps p p) (λ t. h p ((reaches-is ps p p).0 t))),
      )

  pub rules-ranks : Settled (plan_in fs) → recursive fs ≡ none → Ranks (plan_in fs).procs
  rules-ranks s e = acyclic-ranks (plan_in fs).procs (recursive-exactly.0 e) s.callees_present s.filled

-- of a table that keeps the rules
pub table-ranks : (ws : List ℕ) → RulesKept ws → Ranks (table_plan ws).procs
table-ranks ws k = rules-ranks _ k.plan.settled k.acyclic
