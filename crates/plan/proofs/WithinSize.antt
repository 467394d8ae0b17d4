-- Where rule 9 refuses nothing, no procedure's size exceeds the limit (`sizes-within`) and no thread's (`thread-within`), so that the sum over six threads at most is that of a
-- schedule's entries at most (`sum-within`); and no procedure has more pairs than the limit, since 2 × pairs + 1 ≤ size (`pairs-within`).
use Prim.Native.Nat.{ℕ, ◌<◌, ◌≤◌}
use native.Mathlib.Omega.{arith}
use mathlib.Core.Path.{◌≡◌}
use mathlib.Core.List.{List}
use mathlib.Core.Option.{none}
use borrow.Author.Tests.{ltb-false}
use lib.Dec.{ltb}
use lib.ListN.{length, get_or}
use Rattle.limits.specs.Limits.{max_size, max_pairs, max_entries}
use Rattle.laws.proofs.Sums.{total-most}
use Rattle.text.specs.declared.Form.{Form}
use Rattle.semantics.specs.Sizes.{size_of, thread_size, thread_sizes}
use Rattle.semantics.specs.Pairs.{pair_list}
use Rattle.semantics.proofs.Critical.PairBound.{pair_list_bound}
use Rattle.plan.specs.Grammar.{plan_in}
use Rattle.plan.specs.Settled.{Settled, table_plan, RulesKept}
use Rattle.plan.specs.Rules.{recursive, too_large}
use Rattle.plan.proofs.Lowest.{proc_refusal-none}
use Rattle.plan.proofs.Ranked.{rules-ranks}

pub sizes-within : (fs : List Form) → too_large fs ≡ none → (p : ℕ) → p < length (plan_in fs).procs → size_of (plan_in fs).procs p ≤ max_size
unfolding too_large
sizes-within fs e p h = omega (arith, ltb-false, proc_refusal-none 9 fs (λ q. ltb max_size (size_of (plan_in fs).procs q)) e p h)

pub thread-within : (fs : List Form) → Settled (plan_in fs) → too_large fs ≡ none → (t : ℕ) → t < length (plan_in fs).threads → thread_size (plan_in fs) t ≤ max_size
unfolding thread_size
thread-within fs s e t h = sizes-within fs e (get_or (plan_in fs).threads t 0) (s.threads-present t h)

pub sum-within : (fs : List Form) → Settled (plan_in fs) → too_large fs ≡ none → thread_sizes (plan_in fs) ≤ max_entries
unfolding thread_sizes
sum-within fs s e =
    let plan = plan_in fs in
    omega (arith, total-most (length plan.threads) max_size (thread_size plan) (thread-within fs s e), s.few-threads)

pub pairs-within : (fs : List Form) → Settled (plan_in fs) → recursive fs ≡ none → too_large fs ≡ none → (p : ℕ) → p < length (plan_in fs).procs
    → length (pair_list (plan_in fs).procs p) ≤ max_pairs
pairs-within fs s a e p h =
    let ranks = rules-ranks fs s a in
    omega (arith, pair_list_bound (plan_in fs).procs ranks.rank ranks.sound p h, sizes-within fs e p h)

-- of a table that keeps the rules
pub few-pairs : (ws : List ℕ) → RulesKept ws → (p : ℕ) → p < length (table_plan ws).procs → length (pair_list (table_plan ws).procs p) ≤ max_pairs
few-pairs ws k = pairs-within _ k.plan.settled k.acyclic k.sizes
