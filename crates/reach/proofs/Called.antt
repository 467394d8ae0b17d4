-- The pass over the forms of a procedure's block gives the mask of the procedures that the block calls (`start-calls`): what follows its closing line is a procedure, a thread
-- or the plan's end, where the pass stops.
use Prim.Native.Nat.{ℕ, ◌^◌, ◌<◌, ◌≤◌}
use native.Mathlib.Omega.{arith}
use mathlib.Core.Path.{◌≡◌, refl, sym, ap, ◌∙◌}
use mathlib.Core.Bool.{Bool, true, false, cond}
use mathlib.Core.List.{List, [], ◌∷◌}
use borrow.Author.Tests.{lt-ltb}
use lib.Bits.{bit_or, or_zero_r}
use lib.Dec.{eqb}
use lib.ListN.{length, drop, get_or}
use Rattle.std.specs.List.{fold, before_first}
use Rattle.limits.specs.Limits.{max_procs}
use Rattle.laws.specs.Mask.{in_mask}
use Rattle.laws.proofs.Bits.{or_assoc}
use Rattle.laws.proofs.Masks.{in_power}
use Rattle.text.specs.declared.Form.{Form}
use Rattle.text.specs.declared.Form.TheVariants.{Close, Two}
use Rattle.text.specs.Forms.{number_in, kind_in, begins_other}
use Rattle.semantics.specs.Plan.{Block, done, skip, call, hold, loop, either, end, body_in, Written}
use Rattle.semantics.specs.CallMasks.{call_mask}
use Rattle.plan.specs.Grammar.{block_forms, proc_forms, thread_forms}
use Rattle.plan.specs.Table.{form_at, table_forms}
use Rattle.plan.specs.Settled.{PlanTable, table_plan}
use Rattle.plan.specs.Starts.{Starts}
use Rattle.plan.proofs.ClaimForms.{by_claim}
use Rattle.procs.proofs.Places.{map-drop, places-numbers, table_placed}
use Rattle.procs.proofs.Fronts.{before_first-cons}
use Rattle.reach.specs.Passes.{proc_bit, called_by, calls_in, calls_from}

-- ---- a form

-- the one member of a procedure's bit
pub in_proc_bit : (p b k : ℕ) → p < max_procs → b ≡ proc_bit p → in_mask b k ≡ eqb k p
unfolding proc_bit
in_proc_bit p b k h e = rw (e, lt-ltb p max_procs h) (in_power p k)

-- ---- the pass

-- the masks of the forms joined one after another
pub calls_folded : (ws : List ℕ) (m : ℕ) → fold (λ n w. bit_or n (called_by (form_at w))) m (before_first (λ w. begins_other (form_at w)) ws) ≡ bit_or m (calls_in (table_forms ws))
unfolding calls_in
calls_folded [] m = sym (or_zero_r m)
calls_folded (w ∷ ws) m =
    let rest = before_first (λ v. begins_other (form_at v)) ws in
    let more = calls_folded ws (bit_or m (called_by (form_at w))) ∙ or_assoc m (called_by (form_at w)) (calls_in (table_forms ws)) in
    rw (before_first-cons (λ v. begins_other (form_at v)) w ws) (go (begins_other (form_at w)) rest (calls_in (table_forms ws)) more)
  where
    go : (b : Bool) (rest : List ℕ) (n : ℕ) → fold (λ k v. bit_or k (called_by (form_at v))) (bit_or m (called_by (form_at w))) rest ≡ bit_or m (bit_or (called_by (form_at w)) n)
        → fold (λ k v. bit_or k (called_by (form_at v))) m (cond b [] (w ∷ rest)) ≡ bit_or m (cond b 0 (bit_or (called_by (form_at w)) n))
    go true rest n e = sym (or_zero_r m)
    go false rest n e = e

pub all_called : (ws rest : List ℕ) (k r : ℕ) → rest ≡ before_first (λ w. begins_other (form_at w)) (drop k ws)
    → r ≡ fold (λ n w. bit_or n (called_by (form_at w))) 0 rest → r ≡ calls_from ws k
unfolding calls_from
all_called ws rest k r e g = g ∙ ap (fold (λ n w. bit_or n (called_by (form_at w))) 0) e ∙ calls_folded (drop k ws) 0

-- ---- the forms of a procedure

module _ (n : ℕ) (few : n ≤ max_procs) where
  calls-block : (b : Block) → Written (λ q. q < n) b → (fs : List Form) → calls_in (block_forms b fs) ≡ bit_or (call_mask b) (calls_in fs)
  unfolding calls_in called_by proc_bit kind_in number_in block_forms call_mask Written
  calls-block done w fs = refl
  calls-block (skip r) w fs = calls-block r w fs
  calls-block (call p r) w fs = rw (lt-ltb p max_procs (omega (arith, w.0)), calls-block r w.1 fs) (sym (or_assoc (2 ^ p) (call_mask r) (calls_in fs)))
  calls-block (hold a b r) w fs =
      let e = calls-block b w.1 (Close ∷ block_forms r fs) ∙ ap (bit_or (call_mask b)) (calls-block r w.2 fs)
      ∙ sym (or_assoc (call_mask b) (call_mask r) (calls_in fs)) in
      by_claim (λ f. calls_in (f ∷ block_forms b (Close ∷ block_forms r fs)) ≡ bit_or (bit_or (call_mask b) (call_mask r)) (calls_in fs)) a e e
  calls-block (loop b r) w fs =
      calls-block b w.0 (Close ∷ block_forms r fs) ∙ ap (bit_or (call_mask b)) (calls-block r w.1 fs)
      ∙ sym (or_assoc (call_mask b) (call_mask r) (calls_in fs))
  calls-block (either a b r) w fs =
      calls-block a w.0 (Close ∷ Two ∷ block_forms b (Close ∷ Close ∷ block_forms r fs))
      ∙ ap (bit_or (call_mask a)) (calls-block b w.1 (Close ∷ Close ∷ block_forms r fs) ∙ ap (bit_or (call_mask b)) (calls-block r w.2 fs)
      ∙ sym (or_assoc (call_mask b) (call_mask r) (calls_in fs)))
      ∙ sym (or_assoc (call_mask a) (bit_or (call_mask b) (call_mask r)) (calls_in fs))
  calls-block (end l r) w fs = absurd w

calls-behind : (rest : List Block) (ns : List ℕ) → calls_in (Close ∷ proc_forms rest (thread_forms ns (Close ∷ []))) ≡ 0
unfolding calls_in called_by kind_in proc_forms thread_forms
calls-behind [] [] = refl
calls-behind [] (n ∷ ns) = refl
calls-behind (b ∷ bs) ns = refl

pub start-calls : (ws starts : List ℕ) → PlanTable ws → Starts ws starts → (p : ℕ) → p < length (table_plan ws).procs
    → calls_from ws (get_or starts p 0) ≡ call_mask (body_in (table_plan ws).procs p)
unfolding calls_from
start-calls ws starts t k p h =
    let b = body_in (table_plan ws).procs p in
    let x = table_placed ws t p h in
    ap calls_in (map-drop form_at (get_or starts p 0) ws ∙ ap (λ n. drop n (table_forms ws)) (k.numbers p h ∙ sym (places-numbers (table_forms ws) 0 p)) ∙ x.written)
    ∙ calls-block (length (table_plan ws).procs) t.settled.few-procs b (t.settled.callees_present p) (Close ∷ proc_forms x.rest (thread_forms (table_plan ws).threads (Close ∷ [])))
    ∙ ap (bit_or (call_mask b)) (calls-behind x.rest (table_plan ws).threads) ∙ or_zero_r (call_mask b)
