-- Source 000, Remark 2.1. A thread's own steps in a run are an execution of it alone, and an execution of one thread is a run of the gateway that has
-- only this thread. So critical pairs are those of executions.
use Prim.Native.Nat.{ℕ, ◌*◌, ◌/◌, ◌%◌}
use mathlib.Core.List.{List, [], ◌∷◌, map}
use mathlib.Core.Bool.{true, false, cond}
use mathlib.Core.Logic.{⊎_elim, ◌≢◌}
use mathlib.Core.Option.{Option, some, some-injective, bind}
use mathlib.Core.Path.{◌≡◌, sym, ap, ◌∙◌, subst}
use native.Mathlib.Nat.{mul-mod_right, mul-div_cancel_left}
use native.Mathlib.Omega.{arith}
use lib.ListN.{set}
use lib.Seq.{get_or-set_same, get_or-set_other}
use lib.Dec.{T, eqb}
use Rattle.laws.proofs.Tests.{bind_inv, eqb-cases}
use Rattle.semantics.specs.Plan.{Block, hold}
use Rattle.semantics.specs.Run.{ThreadState, thread, with_all, move, apart, everyone, step, run, start, initial, nth, absent_thread}
use Rattle.semantics.specs.Pairs.{pair_of, Critical, fresh, had}
use Rattle.semantics.specs.Execution.{exec}
use Rattle.semantics.proofs.Gateway.Steps.{move_of, step-some, step_inv}

-- thread t's own choices in a schedule
unfoldable pub projection : ℕ → List ℕ → List ℕ
projection t [] = []
projection t (e ∷ es) = cond (eqb (e % 8) t) (e / 8 ∷ projection t es) (projection t es)

-- each thread's own steps are an execution of it alone
pub projection-execution : (ps : List Block) (ts ts' : List ThreadState) (es : List ℕ) → run ps ts es ≡ some ts' → (t : ℕ)
    → exec ps (nth ts t) (projection t es) ≡ some (nth ts' t)
unfolding run step exec projection bind
projection-execution ps ts ts' [] h t = ap {B = Option ThreadState} (λ us. some (nth us t)) (some-injective ts ts' h)
projection-execution ps ts ts' (e ∷ es) h t =
    let p = bind_inv (step ps ts e) (λ us. run ps us es) ts' h in
    let q = step_inv everyone ps ts (e % 8) (e / 8) p.0 p.1 in
    let r = projection-execution ps p.0 ts' es p.2 t in
    ⊎_elim
    (λ (d : (e % 8 ≡ t) × (eqb (e % 8) t ≡ true)).
    let m : move_of ps ts t (e / 8) ≡ some q.0 = subst (λ k. move_of ps ts k (e / 8) ≡ some q.0) d.0 q.2 in
    let n : nth p.0 t ≡ q.0 =
    ap (λ us. nth us t) q.4 ∙ ap (λ k. nth (set ts (e % 8) q.0) k) (sym d.0) ∙ get_or-set_same ts (e % 8) q.0 absent_thread q.1 in
    ap (λ b. exec ps (nth ts t) (cond b (e / 8 ∷ projection t es) (projection t es))) d.1 ∙ ap (λ o. bind o (λ z. exec ps z (projection t es))) m
    ∙ ap (λ z. exec ps z (projection t es)) (sym n) ∙ r)
    (λ (d : (e % 8 ≢ t) × (eqb (e % 8) t ≡ false)).
    let n : nth p.0 t ≡ nth ts t = ap (λ us. nth us t) q.4 ∙ get_or-set_other ts (e % 8) t q.0 absent_thread (λ f. d.0 (sym f)) in
    ap (λ b. exec ps (nth ts t) (cond b (e / 8 ∷ projection t es) (projection t es))) d.1 ∙ ap (λ z. exec ps z (projection t es)) (sym n) ∙ r)
    (eqb-cases (e % 8) t)

apart_solo : (x : ThreadState) → T (apart everyone (x ∷ []))
unfolding apart with_all
apart_solo x = tt

solo_step : (ps : List Block) (x y : ThreadState) (c : ℕ) → move ps c x.rest x.count ≡ some y → step ps (x ∷ []) (8 * c) ≡ some (y ∷ [])
unfolding step
solo_step ps x y c h =
    rw (mul-mod_right 8 c, mul-div_cancel_left c {n = 8} (omega arith)) (step-some everyone ps (x ∷ []) 0 c y (omega arith) h (apart_solo y))

-- an execution of one thread is a run of the gateway that has this thread alone
pub execution-run : (ps : List Block) (x y : ThreadState) (cs : List ℕ) → exec ps x cs ≡ some y → run ps (x ∷ []) (map (λ c. 8 * c) cs) ≡ some (y ∷ [])
unfolding exec run step bind
execution-run ps x y [] h = ap {B = Option (List ThreadState)} (λ z. some (z ∷ [])) (some-injective x y h)
execution-run ps x y (c ∷ cs) h =
    let p = bind_inv (move ps c x.rest x.count) (λ z. exec ps z cs) y h in
    ap (λ o. bind o (λ us. run ps us (map (λ c. 8 * c) cs))) (solo_step ps x p.0 c p.1) ∙ execution-run ps p.0 y cs p.2

-- ---- a critical pair and its execution

pub critical-exec : (ps : List Block) (p w : ℕ) (c : Critical ps p w)
    → exec ps (initial ps p) (projection 0 c.steps) ≡ some (thread (hold c.claim c.inside c.after) c.count)
unfolding start
critical-exec ps p w c = projection-execution ps (start ps (p ∷ [])) (thread (hold c.claim c.inside c.after) c.count ∷ []) c.steps
    c.reached 0

unfoldable pub exec-critical : (ps : List Block) (p w : ℕ) (cs : List ℕ) (l : ℕ) (b r : Block) (count : List ℕ)
    → exec ps (initial ps p) cs ≡ some (thread (hold l b r) count)
    → T (fresh count l) → w ≡ pair_of (had count) l → Critical ps p w
unfolding start
exec-critical ps p w cs l b r count h z e =
    record {
      steps = map (λ c. 8 * c) cs;
      claim = l;
      inside = b;
      after = r;
      count = count;
      reached = execution-run ps (initial ps p) (thread (hold l b r) count) cs h;
      free = z;
      pair = e;
    }
