-- Free, deadlock or refused, computed. 01, "What a reader may rely on", 1: "each part that these rules settle by an equation with a definition". Which of the three a verdict is, is
-- settled; which schedule is left open. Of every verdict that is promised the theorem `demand_3` says that its kind is the one computed here.
use Rattle.std.specs.Prelude.{ℕ, Bool, cond, map, Result, Ok, Err}
use Rattle.std.proofs.Math.Option.{Option, none, some}
use Rattle.text.specs.declared.Refusal.{Refusal}
use Rattle.semantics.specs.Plan.{LockPlan}
use Rattle.semantics.specs.Pairs.{pair_list}
use Rattle.semantics.specs.Conflict.{conflicting}
use Rattle.answers.specs.declared.Verdict.{Verdict}
use Rattle.answers.specs.declared.Verdict.TheVariants.{Free, Deadlock}

-- source 000, Theorem 5.5, stage (iii): "verify that Xᵢ ∩ ⋃ Xⱼ = ∅ and ℓᵢ ∈ ⋃ Xⱼ" (j ≠ i), by change 9's rule of what may stand together, tested over the lists
-- of the critical pairs of the plan's threads
unfoldable pub conflict_in : LockPlan → Bool
conflict_in plan = conflicting (map (pair_list plan.procs) plan.threads)

-- the kind of a verdict, as docs/ANSWERS.md numbers it: 0, free; 1, deadlock; 2, refused
unfoldable pub verdict_kind : Result Verdict Refusal → ℕ
verdict_kind (Ok Free) = 0
verdict_kind (Ok (Deadlock n S)) = 1
verdict_kind (Err x) = 2

-- the kind by what the rules say and whether pairs conflict
unfoldable pub computed_kind : Option Refusal → Bool → ℕ
computed_kind none conflict = cond conflict 1 0
computed_kind (some x) conflict = 2
