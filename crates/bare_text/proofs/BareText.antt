-- The bare text of a plan within the rules is read as the forms of that plan (`bare-read`), since their numbers are below 1,000. So it denotes the plan, two such plans with
-- one bare text are one, and it is accepted where it is short enough and the plan keeps rules 12, 13 and 9.
use Prim.Native.Nat.{ℕ, suc, ◌<◌, ◌≤◌}
use native.Mathlib.Omega.{arith}
use mathlib.Core.Path.{◌≡◌, sym, ap, subst, ◌∙◌}
use mathlib.Core.Logic.{⊎_elim}
use mathlib.Core.List.Memᴰ
use mathlib.Core.List.{List, [], ◌∷◌, Memᴰ}
use mathlib.Core.Option.{none}
use lib.ListN.{length, get_or}
use Rattle.limits.specs.Limits.{max_bytes, claim_count}
use Rattle.text.specs.declared.Form.{Form}
use Rattle.text.specs.declared.Form.TheVariants.{Plan, Proc, Thread, Close, Skip, Call, Loop, Either, One, Two}
use Rattle.text.specs.Forms.{number_in}
use Rattle.text.specs.Lines.{forms_of, unreadable_line}
use Rattle.text.proofs.Splits.{written-readable}
use Rattle.semantics.specs.Plan.{Block, done, skip, call, hold, loop, either, end, LockPlan, body_in, Written}
use Rattle.semantics.proofs.Ground.Claims.{lock_lt}
use Rattle.plan.specs.Grammar.{claim_form, block_forms, proc_forms, thread_forms, forms, plan_in}
use Rattle.plan.specs.Settled.{Settled}
use Rattle.plan.specs.Rules.{recursive, idle, too_large, plan_refusal, plan_of}
use Rattle.plan.proofs.ClaimForms.{by_claim}
use Rattle.plan.proofs.Trees.{plan_of-forms}
use Rattle.plan.proofs.Allowed.{settled-grammatical, settled-accepted}
use Rattle.plan.proofs.AcceptedTable.{rules-accepted}
use Rattle.bare_text.specs.Bare.{bare_text}

-- ---- the numbers of a plan's forms have at most three digits

abbrev pub Smalls : List Form → Type 0
Smalls fs = (f : Form) → Memᴰ f fs → number_in f < 1000

smalls_cons : (f : Form) (fs : List Form) → number_in f < 1000 → Smalls fs → Smalls (f ∷ fs)
smalls_cons f fs h s g m = ⊎_elim (λ (e : g ≡ f). subst (λ k. number_in k < 1000) (sym e) h) (s g) (Memᴰ.cases_cons m)

smalls_none : Smalls []
smalls_none f m = absurd (Memᴰ.not-nil m)

-- so has the lock of a claim
claim-small : (a : ℕ) → a < claim_count → number_in (claim_form a) < 1000
unfolding number_in
claim-small a h = let b = lock_lt a h in by_claim (λ f. number_in f < 1000) a (omega arith) (omega arith)

module _ (C : ℕ → Type 0) (small : (q : ℕ) → C q → q < 1000) where
  block_smalls : (b : Block) (fs : List Form) → Written C b → Smalls fs → Smalls (block_forms b fs)
  unfolding block_forms Written number_in
  block_smalls done fs w s = s
  block_smalls (skip r) fs w s = smalls_cons Skip _ (omega arith) (block_smalls r fs w s)
  block_smalls (call p r) fs w s = smalls_cons (Call p) _ (small p w.0) (block_smalls r fs w.1 s)
  block_smalls (hold a b r) fs w s =
      smalls_cons (claim_form a) _ (claim-small a w.0) (block_smalls b _ w.1 (smalls_cons Close _ (omega arith) (block_smalls r fs w.2 s)))
  block_smalls (loop b r) fs w s =
      smalls_cons Loop _ (omega arith) (block_smalls b _ w.0 (smalls_cons Close _ (omega arith) (block_smalls r fs w.1 s)))
  block_smalls (either a b r) fs w s =
      let r' = smalls_cons Close _ (omega arith) (smalls_cons Close _ (omega arith) (block_smalls r fs w.2 s)) in
      let b' = smalls_cons Close _ (omega arith) (smalls_cons Two _ (omega arith) (block_smalls b _ w.1 r')) in
      smalls_cons Either _ (omega arith) (smalls_cons One _ (omega arith) (block_smalls a _ w.0 b'))
  block_smalls (end l r) fs w s = absurd w

procs_smalls : (bs : List Block) (n : ℕ) (fs : List Form) → n ≤ 1000 → ((p : ℕ) → Written (λ q. q < n) (body_in bs p)) → Smalls fs → Smalls (proc_forms bs fs)
unfolding proc_forms body_in number_in
procs_smalls [] n fs h w s = s
procs_smalls (b ∷ bs) n fs h w s =
    let rest = procs_smalls bs n fs h (λ p. w (suc p)) s in
    smalls_cons Proc _ (omega arith) (block_smalls (λ q. q < n) (λ q k. omega arith) b _ (w 0) (smalls_cons Close _ (omega arith) rest))

threads_smalls : (ns : List ℕ) (fs : List Form) → ((t : ℕ) → t < length ns → get_or ns t 0 < 1000) → Smalls fs → Smalls (thread_forms ns fs)
unfolding thread_forms number_in
threads_smalls [] fs w s = s
threads_smalls (n ∷ ns) fs w s = smalls_cons (Thread n) _ (w 0 (omega arith)) (threads_smalls ns fs (λ t h. w (suc t) (omega arith)) s)

pub settled_smalls : (plan : LockPlan) → Settled plan → Smalls (forms plan)
unfolding forms number_in
settled_smalls plan x =
    let n = length plan.procs in
    let threads = threads_smalls plan.threads (Close ∷ []) (λ t h. omega (arith, x.threads-present t h, x.few-procs)) (smalls_cons Close [] (omega arith) smalls_none) in
    smalls_cons Plan _ (omega arith) (procs_smalls plan.procs n _ (omega (arith, x.few-procs)) x.callees_present threads)

-- ---- the bare text

module _ (plan : LockPlan) (x : Settled plan) where
  pub bare-read : (forms_of (bare_text plan) ≡ forms plan) × (unreadable_line (bare_text plan) ≡ none)
  unfolding bare_text
  bare-read = written-readable (forms plan) (settled_smalls plan x)

  pub bare-plan : plan_of (bare_text plan) ≡ plan
  unfolding plan_of
  bare-plan = ap plan_in bare-read.0 ∙ plan_of-forms plan (settled-grammatical plan x)

  pub bare-accepted : length (bare_text plan) ≤ max_bytes → recursive (forms plan) ≡ none → idle (forms plan) ≡ none → too_large (forms plan) ≡ none
      → plan_refusal (bare_text plan) ≡ none
  bare-accepted h acyclic reachable large =
      let e : forms_of (bare_text plan) ≡ forms plan = bare-read.0 in
      rules-accepted (bare_text plan)
      (record { short = h; readable = bare-read.1; formed = rw e (settled-accepted plan x); acyclic = rw e acyclic; reachable = rw e reachable; sizes = rw e large })

pub bare_injective : (a b : LockPlan) → Settled a → Settled b → bare_text a ≡ bare_text b → a ≡ b
bare_injective a b x y e = sym (bare-plan a x) ∙ ap plan_of e ∙ bare-plan b y
