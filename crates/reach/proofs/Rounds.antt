-- One turn of the loops that make the masks, and their end: the entries made so far are those of the calls, or of a round; the masks after k rounds become those after k + 1,
-- and after all rounds they have what is reached (`reaches-is`).
use Prim.Native.Nat.{ℕ, suc, ◌+◌, ◌<◌, ◌≤◌}
use native.Mathlib.Numerals.{add-one}
use native.Mathlib.Omega.{arith}
use mathlib.Core.Path.{◌≡◌, sym, ap, ◌∙◌}
use mathlib.Core.List.{List, ◌++◌, map}
use lib.ListN.{length, take, drop, get_or, set, length-map, length-take}
use lib.Seq.{take_at, take_all, length-take-le}
use Rattle.std.proofs.lemmas.List.{get_or_default}
use Rattle.std.proofs.lemmas.List.Edits.{map_over_more}
use Rattle.limits.specs.Limits.{max_procs}
use Rattle.laws.proofs.Places.{front_at}
use Rattle.semantics.specs.Plan.{Block}
use Rattle.semantics.specs.CallMasks.{call_mask, join_through, warshall_round, reach_masks, reach_mask}
use Rattle.semantics.proofs.Calls.Closure.{reaches-is}
use Rattle.plan.specs.Settled.{PlanTable, table_plan}
use Rattle.procs.specs.declared.Layout.{Layout}
use Rattle.procs.specs.Laid.{Laid}
use Rattle.procs.proofs.Places.{starts_map}
use Rattle.reach.specs.Passes.{calls_from}
use Rattle.reach.specs.Reached.{ReachTable}
use Rattle.reach.proofs.Called.{start-calls}

-- ---- the masks of the calls

pub calls-all : (table starts masks : List ℕ) (p : ℕ) → p ≤ length starts → length starts ≤ p → take p masks ≡ map (calls_from table) (take p starts)
    → take (length starts) masks ≡ map (calls_from table) starts
calls-all table starts masks p h k e =
    let z : p ≡ length starts = omega arith in
    ap (λ n. take n masks) (sym z) ∙ e ∙ ap (map (calls_from table)) (take_all p starts k)

-- ---- a round

pub joins-more : (masks now : List ℕ) (k i x reached v : ℕ) → i < length masks → i < length now → reached ≡ get_or masks k 0 → x ≡ get_or now i 0 → v ≡ join_through k reached x
    → now ≡ map (join_through k (get_or masks k 0)) (take i masks) ++ drop i masks
    → set now i v ≡ map (join_through k (get_or masks k 0)) (take (i + 1) masks) ++ drop (i + 1) masks
joins-more masks now k i x reached v h room is at joined e =
    rw (joined, is) (map_over_more (join_through k (get_or masks k 0)) masks now i x h e (at ∙ get_or_default now i 0 x room))

-- ---- rounds

module _ (table : List ℕ) (l : Layout) (t : PlanTable table) (d : Laid table l) where
  abbrev ps : List Block
  ps = (table_plan table).procs

  pub proc-few : (p : ℕ) → p < l.procs → p < max_procs
  proc-few p h = omega (arith, d.procs-all, t.settled.few-procs)

  pub procs-within : (xs : List ℕ) → max_procs ≡ length xs → l.procs ≤ length xs
  procs-within xs h = omega (arith, d.procs-all, t.settled.few-procs)

  starts_length : length (take l.procs l.starts) ≡ l.procs
  starts_length = length-take-le l.procs l.starts (omega (arith, d.procs-all, d.starts_there.room))

  pub starts-few : length (take l.procs l.starts) ≤ max_procs
  starts-few = omega (arith, starts_length, d.procs-all, t.settled.few-procs)

  -- no round yet: the calls alone
  pub rounds-none : (masks : List ℕ) → take (length (take l.procs l.starts)) masks ≡ map (calls_from table) (take l.procs l.starts)
      → take l.procs masks ≡ reach_masks 0 (table_plan table).procs
  unfolding reach_masks
  rounds-none masks e =
      ap (λ n. take n masks) (sym starts_length) ∙ e ∙ ap (λ n. map (calls_from table) (take n l.starts)) d.procs-all
      ∙ starts_map (calls_from table) call_mask ps l.starts d.starts_there.room (start-calls table l.starts t d.starts_there)

  rounds-length : (k : ℕ) → length (reach_masks k ps) ≡ l.procs
  unfolding reach_masks warshall_round
  rounds-length ℕ.zero = length-map ps call_mask ∙ sym d.procs-all
  rounds-length (suc k) = length-map (reach_masks k ps) _ ∙ rounds-length k

  module _ (masks : List ℕ) (k : ℕ) (e : take l.procs masks ≡ reach_masks k (table_plan table).procs) where
    pub round-there : k < l.procs → k < length (take l.procs masks)
    round-there h = omega (arith, ap length e, rounds-length k)

    pub rounds-more : (next : List ℕ) → next ≡ warshall_round k (take l.procs masks) → take l.procs (next ++ drop l.procs masks) ≡ reach_masks (k + 1) (table_plan table).procs
    unfolding reach_masks
    rounds-more next g =
        let n : next ≡ reach_masks (suc k) ps = g ∙ ap (warshall_round k) e in
        rw (add-one k) (take_at next (drop l.procs masks) l.procs (ap length n ∙ rounds-length (suc k)) ∙ n)

    pub rounds-done : k ≤ l.procs → l.procs ≤ k → ReachTable table masks
    unfolding reach_mask
    rounds-done h i =
        let z : k ≡ length ps = omega (arith, d.procs-all) in
        let at : (p : ℕ) → p < length ps → get_or masks p 0 ≡ reach_mask ps p =
        λ p b. front_at l.procs masks (reach_masks k ps) e p 0 (omega (arith, d.procs-all)) ∙ ap (λ n. get_or (reach_masks n ps) p 0) z in
        record {
          room = omega (arith, length-take l.procs masks, ap length e, rounds-length k, d.procs-all);
          exact = λ p b q. rw (at p b) (reaches-is ps p q);
        }

pub ruleset rounds = (proc-few, procs-within, starts-few, rounds-none, round-there, rounds-more)
