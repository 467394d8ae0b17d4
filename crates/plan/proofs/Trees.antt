-- A plan is the tree of its own forms (`plan_of-forms`): read from the back, the forms of a block put that block in front of the innermost open one.
use Prim.Native.Nat.{ℕ, suc, ◌<◌}
use mathlib.Core.Bool.{Bool, true, false}
use mathlib.Core.List.{List, [], ◌∷◌}
use mathlib.Core.Path.{◌≡◌, refl, ap, ◌∙◌}
use native.Mathlib.Omega.{arith}
use lib.ListN.{length}
use Rattle.text.specs.declared.Form.{Form}
use Rattle.text.specs.declared.Form.TheVariants.{Proc, Thread, Close, Skip, Call, Loop, Either, Two}
use Rattle.semantics.specs.Plan.{Block, done, skip, call, hold, loop, either, end, ◌⨾◌, LockPlan, body_in, WellFormed}
use Rattle.semantics.proofs.Thread.Remainders.{⨾-done}
use Rattle.plan.specs.Grammar.{block_forms, proc_forms, thread_forms, forms, Grammatical, claim_form, Behind, in_front, behind, plan_in}
use Rattle.plan.proofs.ClaimForms.{claim-front}

-- what stands behind a place, part by part
abbrev rest : List Block → List Block → List ℕ → Behind
rest bs ps ts = record { blocks = bs; procs = ps; threads = ts }

module _ (ps : List Block) (ts : List ℕ) where
  -- the forms of b put b in front of the innermost open block
  abbrev InFront : Block → Type 0
  InFront b = (fs : List Form) (t : Block) (bs : List Block) → behind fs ≡ rest (t ∷ bs) ps ts → behind (block_forms b fs) ≡ rest ((b ⨾ t) ∷ bs) ps ts

  -- so with its closing line they open b
  opened : (b : Block) → InFront b → (fs : List Form) (bs : List Block) → behind fs ≡ rest bs ps ts
      → behind (block_forms b (Close ∷ fs)) ≡ rest (b ∷ bs) ps ts
  unfolding behind in_front
  opened b front fs bs e = front (Close ∷ fs) done bs (ap (in_front Close) e) ∙ ap (λ x. rest (x ∷ bs) ps ts) (⨾-done b)

  behind-block : (empty : Bool) (b : Block) → WellFormed empty b → InFront b
  unfolding behind block_forms in_front WellFormed ◌⨾◌
  behind-block empty done w fs t bs e = e
  behind-block empty (skip r) w fs t bs e = ap (in_front Skip) (behind-block true r w fs t bs e)
  behind-block empty (call n r) w fs t bs e = ap (in_front (Call n)) (behind-block true r w fs t bs e)
  behind-block empty (hold a b r) w fs t bs e =
      ap (in_front (claim_form a)) (opened b (behind-block false b w.0) (block_forms r fs) _ (behind-block true r w.1 fs t bs e)) ∙ claim-front a _
  behind-block empty (loop b r) w fs t bs e =
      ap (in_front Loop) (opened b (behind-block false b w.0) (block_forms r fs) _ (behind-block true r w.1 fs t bs e))
  behind-block empty (either a b r) w fs t bs e =
      let r' = behind-block true r w.2 fs t bs e in
      let b' = opened b (behind-block false b w.1) (Close ∷ block_forms r fs) _ (ap (in_front Close) r') in
      ap (in_front Either) (opened a (behind-block false a w.0) (Two ∷ block_forms b (Close ∷ Close ∷ block_forms r fs)) _ b')
  behind-block empty (end l r) w fs t bs e = absurd w

-- the blocks of procedures from one on
pub later-blocks : (b : Block) (bs : List Block) → ((p : ℕ) → p < length (b ∷ bs) → WellFormed false (body_in (b ∷ bs) p))
    → (p : ℕ) → p < length bs → WellFormed false (body_in bs p)
unfolding body_in
later-blocks b bs w p h = w (suc p) (omega arith)

behind-procs : (bs : List Block) (ts : List ℕ) (fs : List Form) → ((p : ℕ) → p < length bs → WellFormed false (body_in bs p))
    → behind fs ≡ rest (done ∷ []) [] ts → behind (proc_forms bs fs) ≡ rest (done ∷ []) bs ts
unfolding behind in_front proc_forms body_in
behind-procs [] ts fs w e = e
behind-procs (b ∷ bs) ts fs w e =
    let bs' = behind-procs bs ts fs (later-blocks b bs w) e in
    ap (in_front Proc) (opened bs ts b (behind-block bs ts false b (w 0 (omega arith))) (proc_forms bs fs) (done ∷ []) bs')

behind-threads : (ns : List ℕ) → behind (thread_forms ns (Close ∷ [])) ≡ rest (done ∷ []) [] ns
unfolding behind in_front thread_forms
behind-threads [] = refl
behind-threads (n ∷ ns) = ap (in_front (Thread n)) (behind-threads ns)

pub plan_of-forms : (plan : LockPlan) → Grammatical plan → plan_in (forms plan) ≡ plan
unfolding behind in_front plan_in forms
plan_of-forms plan g =
    ap (λ x. record { procs = x.procs; threads = x.threads }) (behind-procs plan.procs plan.threads _ g.blocks (behind-threads plan.threads))
