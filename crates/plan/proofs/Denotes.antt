-- The machine of rule 4 accepts exactly the forms of plans that the grammar has (`structure_plan`). What it accepts from a state on is what a
-- plan's text has from there on (`Rest`), and each step backwards extends it.
use Prim.Native.Nat.{ℕ, zero, suc, ◌<◌, ◌≤◌}
use mathlib.Core.Bool.{Bool, true, false}
use mathlib.Core.List.{List, [], ◌∷◌}
use mathlib.Core.Logic.{⊎_elim, ◌↔◌}
use mathlib.Core.Option.{none, some, some-ne-none}
use mathlib.Core.Path.{◌≡◌, refl, ap, sym, subst, ◌∙◌}
use native.Mathlib.Omega.{arith}
use lib.ListN.{length}
use Rattle.text.specs.declared.Form.{Form}
use Rattle.text.specs.declared.Form.TheVariants.{Plan, Proc, Thread, Close, Skip, Call, Hold, Loop, Either, One, Two, Share}
use Rattle.semantics.specs.Plan.{Block, done, skip, call, hold, loop, either, LockPlan, body_in, WellFormed}
use Rattle.plan.specs.Grammar.{claim_form, block_forms, proc_forms, thread_forms, forms, Grammatical, plan_in}
use Rattle.plan.specs.Structure.{misplaced, misplaced_form}
use Rattle.plan.specs.Places.{IsPlan}
use Rattle.semantics.specs.Claims.{by_share, by_hold}
use Rattle.plan.proofs.ClaimForms.{hold-form, share-form}
use Rattle.plan.proofs.Trees.{plan_of-forms}
use Rattle.plan.specs.declared.Bracket.{Bracket}
use Rattle.plan.specs.declared.Bracket.TheVariants.{OfStatement as statement, OfOne as one, OfTwo as two}
use Rattle.plan.proofs.States.{State, initial, first-proc, next-proc, next-thread, finished, in_block, awaits_one, awaits_two, ends-either}
use Rattle.plan.proofs.States.{mode_of, stack_of, misplaced_from, after-step, step_or_refused}
use Rattle.plan.proofs.States.{Step, begins-plan, first, next, first-thread, more-threads, ends-plan, skips, calls, holds, shares, loops, chooses}
use Rattle.plan.proofs.States.{begins-one, begins-two, ends-proc, ends-statement, ends-one, ends-two, ends-choice}
use Rattle.plan.proofs.Accepts.{forms-accepted}

-- f, and then what K says
record Follows (f : Form) (K : List Form → Type 0) (fs : List Form) : Type 0 where
  later : List Form
  split : fs ≡ f ∷ later
  goes_on : K later

-- a block, its closing line, and then what K says
record BlockThen (empty : Bool) (K : List Form → Type 0) (fs : List Form) : Type 0 where
  block : Block
  well : WellFormed empty block
  later : List Form
  split : fs ≡ block_forms block (Close ∷ later)
  goes_on : K later

-- at least `least` procedures, threads, and the plan's end
record Procs (least : ℕ) (fs : List Form) : Type 0 where
  procs : List Block
  threads : List ℕ
  enough : least ≤ length procs
  some-thread : 0 < length threads
  blocks : (p : ℕ) → p < length procs → WellFormed false (body_in procs p)
  split : fs ≡ proc_forms procs (thread_forms threads (Close ∷ []))

-- what follows the closing line of the innermost block
unfoldable AfterBlock : List Bracket → List Form → Type 0
AfterBlock [] = Procs 0
AfterBlock (statement ∷ ks) = BlockThen true (AfterBlock ks)
AfterBlock (one ∷ ks) = Follows Two (BlockThen false (Follows Close (BlockThen true (AfterBlock ks))))
AfterBlock (two ∷ ks) = Follows Close (BlockThen true (AfterBlock ks))

-- what a plan's text has from a state on
unfoldable Rest : State → List Form → Type 0
Rest initial = Follows Plan (Procs 1)
Rest first-proc = Procs 1
Rest next-proc = Procs 0
Rest next-thread = λ fs. (ns : List ℕ) × (fs ≡ thread_forms ns (Close ∷ []))
Rest finished = λ fs. fs ≡ []
Rest (in_block empty ks) = BlockThen empty (AfterBlock ks)
Rest (awaits_one ks) = Follows One (BlockThen false (AfterBlock (one ∷ ks)))
Rest (awaits_two ks) = AfterBlock (one ∷ ks)
Rest (ends-either ks) = AfterBlock (two ∷ ks)

module _ (K : List Form → Type 0) (fs : List Form) where
  follows : (f : Form) → K fs → Follows f K (f ∷ fs)
  follows f k = record { later = fs; split = refl; goes_on = k }

  closes : K fs → BlockThen true K (Close ∷ fs)
  unfolding block_forms WellFormed
  closes k = record { block = done; well = tt; later = fs; split = refl; goes_on = k }

  module _ (empty : Bool) where
    skip-front : BlockThen true K fs → BlockThen empty K (Skip ∷ fs)
    unfolding block_forms WellFormed
    skip-front w = record { block = skip w.block; well = w.well; later = w.later; split = ap (λ l. Skip ∷ l) w.split; goes_on = w.goes_on }

    call-front : (n : ℕ) → BlockThen true K fs → BlockThen empty K (Call n ∷ fs)
    unfolding block_forms WellFormed
    call-front n w = record { block = call n w.block; well = w.well; later = w.later; split = ap (λ l. Call n ∷ l) w.split; goes_on = w.goes_on }

    claim-front : (a : ℕ) → BlockThen false (BlockThen true K) fs → BlockThen empty K (claim_form a ∷ fs)
    unfolding block_forms WellFormed
    claim-front a w =
        let r = w.goes_on in
        record {
          block = hold a w.block r.block;
          well = (w.well, r.well);
          later = r.later;
          split = ap (λ x. claim_form a ∷ x) (w.split ∙ ap (λ x. block_forms w.block (Close ∷ x)) r.split);
          goes_on = r.goes_on;
        }

    hold-front : (l : ℕ) → BlockThen false (BlockThen true K) fs → BlockThen empty K (Hold l ∷ fs)
    hold-front l w = subst (λ f. BlockThen empty K (f ∷ fs)) (hold-form l) (claim-front (by_hold l) w)

    share-front : (l : ℕ) → BlockThen false (BlockThen true K) fs → BlockThen empty K (Share l ∷ fs)
    share-front l w = subst (λ f. BlockThen empty K (f ∷ fs)) (share-form l) (claim-front (by_share l) w)

    loop-front : BlockThen false (BlockThen true K) fs → BlockThen empty K (Loop ∷ fs)
    unfolding block_forms WellFormed
    loop-front w =
        let r = w.goes_on in
        record {
          block = loop w.block r.block;
          well = (w.well, r.well);
          later = r.later;
          split = ap (λ x. Loop ∷ x) (w.split ∙ ap (λ x. block_forms w.block (Close ∷ x)) r.split);
          goes_on = r.goes_on;
        }

    either-front : Follows One (BlockThen false (Follows Two (BlockThen false (Follows Close (BlockThen true K))))) fs → BlockThen empty K (Either ∷ fs)
    unfolding block_forms WellFormed
    either-front w =
        let a = w.goes_on in
        let b = a.goes_on.goes_on in
        let r = b.goes_on.goes_on in
        record {
          block = either a.block b.block r.block;
          well = (a.well, b.well, r.well);
          later = r.later;
          split = ap (λ x. Either ∷ x) (w.split ∙ ap (λ x. One ∷ x) (a.split ∙ ap (λ x. block_forms a.block (Close ∷ x)) (a.goes_on.split
              ∙ ap (λ x. Two ∷ x) (b.split ∙ ap (λ x. block_forms b.block (Close ∷ x)) (b.goes_on.split ∙ ap (λ x. Close ∷ x) r.split)))));
          goes_on = r.goes_on;
        }

proc-front : (least : ℕ) → least ≤ 1 → (fs : List Form) → BlockThen false (Procs 0) fs → Procs least (Proc ∷ fs)
unfolding proc_forms body_in
proc-front least h fs w =
    let k = w.goes_on in
    record {
      procs = w.block ∷ k.procs;
      threads = k.threads;
      enough = omega arith;
      some-thread = k.some-thread;
      blocks = each w.block k.procs w.well k.blocks;
      split = ap (λ x. Proc ∷ x) (w.split ∙ ap (λ x. block_forms w.block (Close ∷ x)) k.split);
    }
  where
    each : (b : Block) (bs : List Block) → WellFormed false b → ((p : ℕ) → p < length bs → WellFormed false (body_in bs p))
        → (p : ℕ) → p < length (b ∷ bs) → WellFormed false (body_in (b ∷ bs) p)
    each b bs w ws zero h = w
    each b bs w ws (suc p) h = ws p (omega arith)

rest-step : {s t : State} {f : Form} → Step s f t → (fs : List Form) → Rest t fs → Rest s (f ∷ fs)
unfolding Rest AfterBlock proc_forms thread_forms
rest-step begins-plan fs r = follows (Procs 1) fs Plan r
rest-step first fs r = proc-front 1 (omega arith) fs r
rest-step next fs r = proc-front 0 (omega arith) fs r
rest-step (first-thread {n}) fs r = record {
  procs = [];
  threads = n ∷ r.0;
  enough = omega arith;
  some-thread = omega arith;
  blocks = λ p h. absurd (omega arith);
  split = ap (λ x. Thread n ∷ x) r.1;
}
rest-step (more-threads {n}) fs r = (n ∷ r.0, ap (λ x. Thread n ∷ x) r.1)
rest-step ends-plan fs r = ([], ap (λ x. Close ∷ x) r)
rest-step (skips {e} {ks}) fs r = skip-front (AfterBlock ks) fs e r
rest-step (calls {e} {ks} {n}) fs r = call-front (AfterBlock ks) fs e n r
rest-step (holds {e} {ks} {l}) fs r = hold-front (AfterBlock ks) fs e l r
rest-step (shares {e} {ks} {l}) fs r = share-front (AfterBlock ks) fs e l r
rest-step (loops {e} {ks}) fs r = loop-front (AfterBlock ks) fs e r
rest-step (chooses {e} {ks}) fs r = either-front (AfterBlock ks) fs e r
rest-step (begins-one {ks}) fs r = follows (BlockThen false (AfterBlock (one ∷ ks))) fs One r
rest-step (begins-two {ks}) fs r = follows (BlockThen false (AfterBlock (two ∷ ks))) fs Two r
rest-step ends-proc fs r = closes (Procs 0) fs r
rest-step (ends-statement {ks}) fs r = closes (AfterBlock (statement ∷ ks)) fs r
rest-step (ends-one {ks}) fs r = closes (AfterBlock (one ∷ ks)) fs r
rest-step (ends-two {ks}) fs r = closes (AfterBlock (two ∷ ks)) fs r
rest-step (ends-choice {ks}) fs r = follows (BlockThen true (AfterBlock ks)) fs Close r

-- the text ends
at-end : (s : State) (number : ℕ) → misplaced_from s number [] ≡ none → Rest s []
unfolding Rest misplaced mode_of
at-end finished number h = refl
at-end (in_block true ks) number h = absurd (some-ne-none number h)
at-end (in_block false ks) number h = absurd (some-ne-none number h)
at-end _ number h = absurd (some-ne-none number h)

accepted-rest : (fs : List Form) (s : State) (number : ℕ) → misplaced_from s number fs ≡ none → Rest s fs
accepted-rest [] s number h = at-end s number h
accepted-rest (f ∷ fs) s number h =
    ⊎_elim (λ (x : (t : State) × Step s f t). rest-step x.1 fs (accepted-rest fs x.0 (suc number) (sym (after-step x.1 number fs) ∙ h)))
    (λ (no_place : (number : ℕ) (fs : List Form) → misplaced_from s number (f ∷ fs) ≡ some number).
    absurd (some-ne-none number (sym (no_place number fs) ∙ h)))
    (step_or_refused s f)

pub accepted-plan : (fs : List Form) → misplaced_form fs ≡ none → IsPlan fs
unfolding misplaced_form Rest mode_of stack_of forms
accepted-plan fs h =
    let r : Follows Plan (Procs 1) fs = accepted-rest fs initial 1 h in
    let k = r.goes_on in
    record {
      plan = record { procs = k.procs; threads = k.threads };
      grammatical = record { some_procedure = k.enough; some-thread = k.some-thread; blocks = k.blocks };
      written = r.split ∙ ap (λ x. Plan ∷ x) k.split;
    }

pub plan-accepted : (fs : List Form) → IsPlan fs → misplaced_form fs ≡ none
plan-accepted fs x = rw x.written (forms-accepted x.plan x.grammatical)

-- the tree of forms that are those of a plan is that plan
plan_in-written : (fs : List Form) (x : IsPlan fs) → plan_in fs ≡ x.plan
plan_in-written fs x = ap plan_in x.written ∙ plan_of-forms x.plan x.grammatical

pub accepted_denotes : (fs : List Form) → misplaced_form fs ≡ none → Grammatical (plan_in fs) × (fs ≡ forms (plan_in fs))
accepted_denotes fs h =
    let x = accepted-plan fs h in
    rw (plan_in-written fs x) (x.grammatical, x.written)

-- Rule 4, "the text's structure": no form is misplaced in the text of a plan that the grammar has, and in no other
pub structure_plan : (fs : List Form) (plan : LockPlan) → ((misplaced_form fs ≡ none) × (plan_in fs ≡ plan)) ↔ (Grammatical plan × (fs ≡ forms plan))
structure_plan fs plan = (
  λ h. rw h.1 at (accepted_denotes fs h.0),
  λ h. let x : IsPlan fs = record { plan = plan; grammatical = h.0; written = h.1 } in (plan-accepted fs x, plan_in-written fs x),
)
