-- Sizes as a pass over forms makes them. The forms of a block cost the block's size (`cost_block`), and what follows a procedure's closing line is a
-- procedure, a thread or the plan's end, so from a procedure's start on the pass gives the size of its block (`start_cost`).
use Prim.Native.Nat.{ℕ, ◌+◌, ◌<◌}
use native.Mathlib.Omega.{arith}
use mathlib.Core.Path.{◌≡◌, refl, sym, ap, ◌∙◌}
use mathlib.Core.List.{List, [], ◌∷◌}
use lib.ListN.{length, drop, get_or}
use Rattle.text.specs.declared.Form.{Form}
use Rattle.text.specs.declared.Form.TheVariants.{Close, Two}
use Rattle.text.specs.Forms.{number_in, kind_in}
use Rattle.semantics.specs.Plan.{Block, done, skip, call, hold, loop, either, end, body_in, Written}
use Rattle.semantics.specs.Sizes.{size_with}
use Rattle.plan.specs.Grammar.{block_forms, proc_forms, thread_forms}
use Rattle.plan.specs.Table.{form_at, table_forms}
use Rattle.plan.specs.Settled.{PlanTable, table_plan}
use Rattle.plan.specs.Starts.{Starts}
use Rattle.plan.proofs.ClaimForms.{by_claim}
use Rattle.procs.proofs.Places.{map-drop, PlacedBlock, places-numbers, table_placed}
use Rattle.sizes.specs.Passes.{cost_of, cost_from}

module _ (s : ℕ → ℕ) where
  pub cost_block : (C : ℕ → Type 0) (b : Block) → Written C b → (fs : List Form) → cost_from s (block_forms b fs) ≡ size_with s b + cost_from s fs
  unfolding cost_from cost_of kind_in block_forms size_with Written number_in
  cost_block C done w fs = omega arith
  cost_block C (skip r) w fs = omega (arith, cost_block C r w fs)
  cost_block C (call p r) w fs = omega (arith, cost_block C r w.1 fs)
  cost_block C (hold a b r) w fs =
      let gs = block_forms b (Close ∷ block_forms r fs) in
      let e : 2 + cost_from s gs ≡ 2 + size_with s b + size_with s r + cost_from s fs = omega (arith, cost_block C b w.1 (Close ∷ block_forms r fs), cost_block C r w.2 fs) in
      by_claim (λ f. cost_from s (f ∷ gs) ≡ 2 + size_with s b + size_with s r + cost_from s fs) a e e
  cost_block C (loop b r) w fs = omega (arith, cost_block C b w.0 (Close ∷ block_forms r fs), cost_block C r w.1 fs)
  cost_block C (either a b r) w fs =
      omega (
        arith,
        cost_block C a w.0 (Close ∷ Two ∷ block_forms b (Close ∷ Close ∷ block_forms r fs)),
        cost_block C b w.1 (Close ∷ Close ∷ block_forms r fs),
        cost_block C r w.2 fs,
      )
  cost_block C (end l r) w fs = absurd w

  cost_behind : (rest : List Block) (ns : List ℕ) → cost_from s (Close ∷ proc_forms rest (thread_forms ns (Close ∷ []))) ≡ 0
  unfolding cost_from cost_of kind_in proc_forms thread_forms number_in
  cost_behind [] [] = refl
  cost_behind [] (n ∷ ns) = refl
  cost_behind (b ∷ bs) ns = refl

  cost_placed : (C : ℕ → Type 0) (whole : List Form) (ns : List ℕ) (k : ℕ) (b : Block) → Written C b → PlacedBlock whole (thread_forms ns (Close ∷ [])) k b
      → cost_from s (drop k whole) ≡ size_with s b
  cost_placed C whole ns k b w x = rw (x.written, cost_block C b w _, cost_behind x.rest ns) (omega arith)

module _ (ws starts : List ℕ) (t : PlanTable ws) (k : Starts ws starts) where
  pub start_cost : (s : ℕ → ℕ) (p : ℕ) → p < length (table_plan ws).procs
      → cost_from s (table_forms (drop (get_or starts p 0) ws)) ≡ size_with s (body_in (table_plan ws).procs p)
  start_cost s p h =
      ap (cost_from s) (map-drop form_at (get_or starts p 0) ws ∙ ap (λ n. drop n (table_forms ws)) (k.numbers p h ∙ sym (places-numbers (table_forms ws) 0 p)))
      ∙ cost_placed s _ (table_forms ws) (table_plan ws).threads _ _ (t.settled.callees_present p) (table_placed ws t p h)
