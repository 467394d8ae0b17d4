-- What each procedure reaches, computed: a mask of procedures for each, closed over the calls by Warshall's algorithm. Digit q of p's mask says whether p reaches q (theorem
-- `reaches-is`). From these masks the one of the procedures that are reachable from the threads (theorem `reachable-is`).
use Rattle.std.specs.Prelude.{ℕ, zero, suc, ◌^◌, Bool, cond, length, get_or}
use mathlib.Core.List.{List, foldl, map}
use Rattle.std.specs.Int.Bits.{bit_or}
use Rattle.laws.specs.Mask.{in_mask}
use Rattle.semantics.specs.Plan.{Block, done, skip, call, hold, loop, either, end, LockPlan}

-- the procedures that a block calls
unfoldable pub call_mask : Block → ℕ
call_mask done = 0
call_mask (skip r) = call_mask r
call_mask (call p r) = bit_or (2 ^ p) (call_mask r)
call_mask (hold l b r) = bit_or (call_mask b) (call_mask r)
call_mask (loop b r) = bit_or (call_mask b) (call_mask r)
call_mask (either a b r) = bit_or (call_mask a) (bit_or (call_mask b) (call_mask r))
call_mask (end l r) = call_mask r

-- a mask with `reached`, the mask of procedure k, joined to it if it has k
unfoldable pub join_through : ℕ → ℕ → ℕ → ℕ
join_through k reached mask = cond (in_mask mask k) (bit_or mask reached) mask

-- one round: what k reaches is joined to what each procedure that reaches k reaches
unfoldable pub warshall_round : ℕ → List ℕ → List ℕ
warshall_round k masks = map (join_through k (get_or masks k 0)) masks

-- for each procedure those that it reaches by calls with only procedures below k in between
unfoldable pub reach_masks : ℕ → List Block → List ℕ
reach_masks zero ps = map call_mask ps
reach_masks (suc k) ps = warshall_round k (reach_masks k ps)

-- the procedures that p reaches
unfoldable pub reach_mask : List Block → ℕ → ℕ
reach_mask ps p = get_or (reach_masks (length ps) ps) p 0

-- whether p reaches q (theorem `reaches-is`)
abbrev pub reaches : List Block → ℕ → ℕ → Bool
reaches ps p q = in_mask (reach_mask ps p) q

-- a procedure n and, by the masks, those that it reaches, joined to m
unfoldable pub join_reached : List ℕ → ℕ → ℕ → ℕ
join_reached masks m n = bit_or m (bit_or (2 ^ n) (get_or masks n 0))

-- the procedures ns and those that they reach
abbrev pub reachable_mask : List ℕ → List ℕ → ℕ
reachable_mask masks ns = foldl (join_reached masks) 0 ns

-- whether some thread of a plan names p or reaches it (theorem `reachable-is`)
abbrev pub reachable : LockPlan → ℕ → Bool
reachable plan p = in_mask (reachable_mask (reach_masks (length plan.procs) plan.procs) plan.threads) p
