-- The machine of rule 4 accepts the forms of every plan that the grammar has (`forms-accepted`): a block leads from its beginning to the place behind
-- its last statement, with the same brackets open.
use Prim.Native.Nat.{ℕ, suc, ◌<◌}
use mathlib.Core.Bool.{Bool, true, false}
use mathlib.Core.List.{List, [], ◌∷◌}
use mathlib.Core.Option.{none}
use mathlib.Core.Path.{◌≡◌, refl, ◌∙◌}
use native.Mathlib.Omega.{arith}
use lib.ListN.{length}
use Rattle.text.specs.declared.Form.{Form}
use Rattle.text.specs.declared.Form.TheVariants.{Close}
use Rattle.semantics.specs.Plan.{Block, done, skip, call, hold, loop, either, end, LockPlan, body_in, WellFormed}
use Rattle.plan.specs.Grammar.{block_forms, proc_forms, thread_forms, forms, Grammatical}
use Rattle.plan.specs.Structure.{misplaced, misplaced_form}
use Rattle.plan.proofs.Trees.{later-blocks}
use Rattle.plan.specs.declared.Bracket.{Bracket}
use Rattle.plan.specs.declared.Bracket.TheVariants.{OfStatement as statement, OfOne as one, OfTwo as two}
use Rattle.plan.proofs.States.{State, first-proc, next-proc, next-thread, in_block}
use Rattle.plan.proofs.States.{mode_of, stack_of, misplaced_from, after-step}
use Rattle.plan.proofs.States.{Step, begins-plan, first, next, first-thread, more-threads, ends-plan, skips, calls, takes, loops, chooses}
use Rattle.plan.proofs.States.{begins-one, begins-two, ends-proc, ends-statement, ends-one, ends-two, ends-choice}

-- no form is misplaced and the text does not end too early, whatever the number of the first form
abbrev pub Accepts : State → List Form → Type 0
Accepts s fs = (number : ℕ) → misplaced_from s number fs ≡ none

pub accepts_step : {s t : State} {f : Form} → Step s f t → (fs : List Form) → Accepts t fs → Accepts s (f ∷ fs)
accepts_step x fs h number = after-step x number fs ∙ h (suc number)

accepts_block : (b : Block) (empty : Bool) → WellFormed empty b → (ks : List Bracket) (fs : List Form) → Accepts (in_block true ks) fs
    → Accepts (in_block empty ks) (block_forms b fs)
unfolding block_forms WellFormed
accepts_block done true w ks fs h = h
accepts_block done false w ks fs h = absurd w
accepts_block (skip r) empty w ks fs h = accepts_step skips _ (accepts_block r true w ks fs h)
accepts_block (call n r) empty w ks fs h = accepts_step calls _ (accepts_block r true w ks fs h)
accepts_block (hold a b r) empty w ks fs h =
    accepts_step (takes a) _ (accepts_block b false w.0 (statement ∷ ks) _ (accepts_step ends-statement _ (accepts_block r true w.1 ks fs h)))
accepts_block (loop b r) empty w ks fs h =
    accepts_step loops _ (accepts_block b false w.0 (statement ∷ ks) _ (accepts_step ends-statement _ (accepts_block r true w.1 ks fs h)))
accepts_block (either a b r) empty w ks fs h =
    let r' = accepts_step ends-two _ (accepts_step ends-choice _ (accepts_block r true w.2 ks fs h)) in
    let b' = accepts_step ends-one _ (accepts_step begins-two _ (accepts_block b false w.1 (two ∷ ks) _ r')) in
    accepts_step chooses _ (accepts_step begins-one _ (accepts_block a false w.0 (one ∷ ks) _ b'))
accepts_block (end l r) empty w ks fs h = absurd w

accepts_procs : (bs : List Block) (fs : List Form) → ((p : ℕ) → p < length bs → WellFormed false (body_in bs p)) → Accepts next-proc fs
    → Accepts next-proc (proc_forms bs fs)
unfolding proc_forms body_in
accepts_procs [] fs w h = h
accepts_procs (b ∷ bs) fs w h =
    accepts_step next _ (accepts_block b false (w 0 (omega arith)) [] _ (accepts_step ends-proc _ (accepts_procs bs fs (later-blocks b bs w) h)))

accepts_threads : (ns : List ℕ) → Accepts next-thread (thread_forms ns (Close ∷ []))
unfolding thread_forms misplaced mode_of
accepts_threads [] = accepts_step ends-plan [] (λ number. refl)
accepts_threads (n ∷ ns) = accepts_step more-threads (thread_forms ns (Close ∷ [])) (accepts_threads ns)

accepts_plan : (bs : List Block) (ns : List ℕ) → 0 < length bs → 0 < length ns → ((p : ℕ) → p < length bs → WellFormed false (body_in bs p))
    → Accepts first-proc (proc_forms bs (thread_forms ns (Close ∷ [])))
unfolding proc_forms thread_forms body_in
accepts_plan [] ns h k w = absurd (omega arith)
accepts_plan (b ∷ bs) [] h k w = absurd (omega arith)
accepts_plan (b ∷ bs) (n ∷ ns) h k w =
    accepts_step first _ (accepts_block b false (w 0 (omega arith)) [] _ (accepts_step ends-proc _
    (accepts_procs bs _ (later-blocks b bs w) (accepts_step first-thread _ (accepts_threads ns)))))

pub forms-accepted : (plan : LockPlan) → Grammatical plan → misplaced_form (forms plan) ≡ none
unfolding forms misplaced_form mode_of stack_of
forms-accepted plan g = accepts_step begins-plan _ (accepts_plan plan.procs plan.threads g.some_procedure g.some-thread g.blocks) 1
