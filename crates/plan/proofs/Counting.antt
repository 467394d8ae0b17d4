-- The forms of a plan have as many `(proc` as it has procedures (`count-forms`).
use Prim.Native.Nat.{ℕ, ◌+◌}
use mathlib.Core.List.{List, [], ◌∷◌}
use mathlib.Core.Path.{◌≡◌, refl}
use native.Mathlib.Omega.{arith}
use lib.ListN.{length}
use Rattle.text.specs.declared.Form.{Form}
use Rattle.text.specs.declared.Form.TheVariants.{Close, Two}
use Rattle.text.specs.Forms.{kind_in, is_proc}
use Rattle.semantics.specs.Plan.{Block, done, skip, call, hold, loop, either, end, LockPlan}
use Rattle.plan.specs.Grammar.{block_forms, proc_forms, thread_forms, forms}
use Rattle.plan.specs.Limits.{count_if}
use Rattle.plan.proofs.ClaimForms.{by_claim}

count-block : (b : Block) (fs : List Form) → count_if is_proc (block_forms b fs) ≡ count_if is_proc fs
unfolding count_if kind_in block_forms
count-block done fs = refl
count-block (skip r) fs = omega (arith, count-block r fs)
count-block (call n r) fs = omega (arith, count-block r fs)
count-block (hold a b r) fs =
    let gs = block_forms b (Close ∷ block_forms r fs) in
    let e : count_if is_proc gs ≡ count_if is_proc fs = omega (arith, count-block b (Close ∷ block_forms r fs), count-block r fs) in
    by_claim (λ f. count_if is_proc (f ∷ gs) ≡ count_if is_proc fs) a (omega arith) (omega arith)
count-block (loop b r) fs = omega (arith, count-block b (Close ∷ block_forms r fs), count-block r fs)
count-block (either a b r) fs =
    let gs = block_forms r fs in
    omega (arith, count-block a (Close ∷ Two ∷ block_forms b (Close ∷ Close ∷ gs)), count-block b (Close ∷ Close ∷ gs), count-block r fs)
count-block (end l r) fs = count-block r fs

count-procs : (bs : List Block) (fs : List Form) → count_if is_proc (proc_forms bs fs) ≡ length bs + count_if is_proc fs
unfolding count_if kind_in proc_forms
count-procs [] fs = omega arith
count-procs (b ∷ bs) fs = omega (arith, count-block b (Close ∷ proc_forms bs fs), count-procs bs fs)

count-threads : (ns : List ℕ) (fs : List Form) → count_if is_proc (thread_forms ns fs) ≡ count_if is_proc fs
unfolding count_if kind_in thread_forms
count-threads [] fs = refl
count-threads (n ∷ ns) fs = omega (arith, count-threads ns fs)

pub count-forms : (plan : LockPlan) → count_if is_proc (forms plan) ≡ length plan.procs
unfolding count_if kind_in forms
count-forms plan = omega (arith, count-procs plan.procs (thread_forms plan.threads (Close ∷ [])), count-threads plan.threads (Close ∷ []))
