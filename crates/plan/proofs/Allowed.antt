-- Rules 4 to 8 refuse no plan that keeps what they settle, so they accept exactly those (`rules-plan`). Along the forms of a block the counts stay
-- below what the whole block brings them to.
use Prim.Native.Nat.{ℕ, suc, ◌+◌, ◌-◌, ◌<◌, ◌≤◌}
use mathlib.Core.Bool.{false}
use mathlib.Core.List.{List, [], ◌∷◌}
use mathlib.Core.Logic.{◌↔◌}
use mathlib.Core.Option.{none, or_else}
use mathlib.Core.Path.{◌≡◌, refl}
use native.Mathlib.Omega.{arith}
use native.Mathlib.Nat.{add-zero}
use lib.ListN.{length, get_or}
use borrow.Author.Tests.{le-ltb, lt-leb}
use Rattle.limits.specs.Limits.{max_procs, max_statements, max_threads, max_brackets, lock_count}
use Rattle.laws.specs.Choice.{pick}
use Rattle.text.specs.declared.Form.{Form}
use Rattle.text.specs.declared.Form.TheVariants.{Plan, Proc, Thread, Close, Skip, Call, Hold, Loop, Either, One, Two, Share}
use Rattle.semantics.specs.Plan.{Block, done, skip, call, hold, loop, either, end, LockPlan, body_in, Written}
use Rattle.semantics.specs.Claims.{lock_of}
use Rattle.semantics.proofs.Ground.Claims.{lock_lt}
use Rattle.text.specs.Forms.{number_in, kind_in}
use Rattle.plan.specs.declared.Counts.{Counts}
use Rattle.plan.specs.Grammar.{claim_form, block_forms, proc_forms, thread_forms, forms, Grammatical, plan_in}
use Rattle.plan.specs.Limits.{as_counts, counted, over_limit, past_limit_from, past_limit_form, tested_by, least_bad, breaks, breaking, breaking_form, no_counts}
use Rattle.plan.specs.Rules.{references_refusal, grammar_refusal}
use Rattle.plan.proofs.ClaimForms.{by_claim}
use Rattle.plan.proofs.Trees.{plan_of-forms}
use Rattle.plan.proofs.Accepts.{forms-accepted}
use Rattle.plan.proofs.Denotes.{accepted_denotes}
use Rattle.plan.proofs.Counting.{count-forms}
use Rattle.plan.proofs.Kept.{Keeps, Kept, kept}
use Rattle.plan.specs.Settled.{statements, all_statements, nesting, Settled}
use Rattle.plan.proofs.Sound.{recount, forms-settled}

within : (n s t o : ℕ) → n ≤ max_procs → s ≤ max_statements → t ≤ max_threads → o ≤ max_brackets → over_limit (as_counts n s t o) ≡ false
unfolding over_limit pick
within n s t o a b c d = rw (le-ltb max_procs n a, le-ltb max_statements s b, le-ltb max_threads t c, le-ltb max_brackets o d)

-- in the n-th of m procedures, where t threads have been read
module _ (m n t : ℕ) (few-procs : n ≤ max_procs) (few-threads : t ≤ max_threads) where
  keeps : (f : Form) (s o : ℕ) → s ≤ max_statements → o ≤ max_brackets → breaks 6 m f ≡ false → breaks 7 m f ≡ false → breaks 8 m f ≡ false
      → Keeps m (as_counts n s t o) f
  keeps f s o a b lock callee thread = record { limits = within n s t o few-procs a few-threads b; lock = lock; callee = callee; thread = thread }

  -- the forms of a block that keeps the rules, where what follows keeps them
  abbrev Passes : Block → Type 0
  Passes b = (s o : ℕ) (fs : List Form) → s + statements b ≤ max_statements → o + nesting b ≤ max_brackets → Kept m (as_counts n (s + statements b) t o) fs
      → Kept m (as_counts n s t o) (block_forms b fs)

  -- the form of a claim, where it is within the limits and its lock below 32
  claim-kept : (s o a : ℕ) (fs : List Form) → s + 1 ≤ max_statements → o + 1 ≤ max_brackets → lock_of a < lock_count → Kept m (as_counts n (s + 1) t (o + 1)) fs
      → Kept m (as_counts n s t o) (claim_form a ∷ fs)
  unfolding Kept counted breaks tested_by least_bad number_in pick kind_in
  claim-kept s o a fs x y b k =
      let small : lock_of a ≤ 31 = omega arith in
      by_claim (λ f. Kept m (as_counts n s t o) (f ∷ fs)) a
      (keeps (Hold (lock_of a)) (s + 1) (o + 1) x y (le-ltb 31 (lock_of a) small) refl refl, k)
      (keeps (Share (lock_of a)) (s + 1) (o + 1) x y (le-ltb 31 (lock_of a) small) refl refl, k)

  -- behind the form of a loop, a hold or a share
  bracket_kept : (b r : Block) → Passes b → Passes r → (s o : ℕ) (fs : List Form) → s + statements (loop b r) ≤ max_statements → o + nesting (loop b r) ≤ max_brackets
      → Kept m (as_counts n (s + statements (loop b r)) t o) fs → Kept m (as_counts n (s + 1) t (o + 1)) (block_forms b (Close ∷ block_forms r fs))
  unfolding Kept statements nesting counted breaks tested_by least_bad number_in pick kind_in
  bracket_kept b r pass-b pass-r s o fs h d k =
      let s₁ = s + 1 + statements b in
      let gs = block_forms r fs in
      let k' = recount m n t (s + (1 + statements b + statements r)) (s₁ + statements r) o o fs (omega arith) refl k in
      let r' = pass-r s₁ o fs (omega arith) (omega arith) k' in
      pass-b (s + 1) (o + 1) (Close ∷ gs) (omega arith) (omega arith)
      (keeps Close s₁ (o + 1 - 1) (omega arith) (omega arith) refl refl refl, recount m n t s₁ s₁ o (o + 1 - 1) gs refl (omega arith) r')

  block-kept : (b : Block) → Written (λ q. q < m) b → Passes b
  unfolding Kept block_forms Written statements nesting counted breaks tested_by least_bad number_in pick kind_in
  block-kept done w s o fs h d k = recount m n t (s + 0) s o o fs (omega arith) refl k
  block-kept (skip r) w s o fs h d k = (
    keeps Skip (s + 1) o (omega arith) (omega arith) refl refl refl,
    block-kept r w (s + 1) o fs (omega arith) d (recount m n t (s + (1 + statements r)) (s + 1 + statements r) o o fs (omega arith) refl k),
  )
  block-kept (call p r) w s o fs h d k = (
    keeps (Call p) (s + 1) o (omega arith) (omega arith) refl (lt-leb m p w.0) refl,
    block-kept r w.1 (s + 1) o fs (omega arith) d (recount m n t (s + (1 + statements r)) (s + 1 + statements r) o o fs (omega arith) refl k),
  )
  block-kept (hold a b r) w s o fs h d k =
      claim-kept s o a (block_forms b (Close ∷ block_forms r fs)) (omega arith) (omega arith) (lock_lt a w.0)
      (bracket_kept b r (block-kept b w.1) (block-kept r w.2) s o fs h d k)
  block-kept (loop b r) w s o fs h d k = (
    keeps Loop (s + 1) (o + 1) (omega arith) (omega arith) refl refl refl,
    bracket_kept b r (block-kept b w.0) (block-kept r w.1) s o fs h d k,
  )
  block-kept (either a b r) w s o fs h d k =
      let s₁ = s + 1 + statements a in
      let s₂ = s₁ + statements b in
      let gs = block_forms r fs in
      let hs = block_forms b (Close ∷ Close ∷ gs) in
      let r' = block-kept r w.2 s₂ o fs (omega arith) (omega arith)
      (recount m n t (s + (1 + statements a + statements b + statements r)) (s₂ + statements r) o o fs (omega arith) refl k) in
      let b' = block-kept b w.1 s₁ (o + 1 + 1) (Close ∷ Close ∷ gs) (omega arith) (omega arith) (
        keeps Close s₂ (o + 1 + 1 - 1) (omega arith) (omega arith) refl refl refl,
        (
          keeps Close s₂ (o + 1 + 1 - 1 - 1) (omega arith) (omega arith) refl refl refl,
          recount m n t s₂ s₂ o (o + 1 + 1 - 1 - 1) gs refl (omega arith) r',
        ),
      ) in
      let a' = block-kept a w.0 (s + 1) (o + 1 + 1) (Close ∷ Two ∷ hs) (omega arith) (omega arith) (
        keeps Close s₁ (o + 1 + 1 - 1) (omega arith) (omega arith) refl refl refl,
        (
          keeps Two s₁ (o + 1 + 1 - 1 + 1) (omega arith) (omega arith) refl refl refl,
          recount m n t s₁ s₁ (o + 1 + 1) (o + 1 + 1 - 1 + 1) hs refl (omega arith) b',
        ),
      ) in (
        keeps Either (s + 1) (o + 1) (omega arith) (omega arith) refl refl refl,
        (keeps One (s + 1) (o + 1 + 1) (omega arith) (omega arith) refl refl refl, a'),
      )
  block-kept (end l r) w s o fs h d k = absurd w

procs-kept : (bs : List Block) (m n s : ℕ) (fs : List Form) → n + length bs ≤ max_procs → s + all_statements bs ≤ max_statements
    → ((p : ℕ) → Written (λ q. q < m) (body_in bs p)) → ((p : ℕ) → nesting (body_in bs p) ≤ max_brackets)
    → Kept m (as_counts (n + length bs) (s + all_statements bs) 0 0) fs → Kept m (as_counts n s 0 0) (proc_forms bs fs)
unfolding Kept proc_forms body_in all_statements counted breaks tested_by least_bad number_in pick kind_in
procs-kept [] m n s fs h i w d k = rw (add-zero n, add-zero s) at k
procs-kept (b ∷ bs) m n s fs h i w d k =
    let few : n + 1 ≤ max_procs = omega arith in
    let procs : n + suc (length bs) ≡ n + 1 + length bs = omega arith in
    let all : s + (statements b + all_statements bs) ≡ s + statements b + all_statements bs = omega arith in
    let rest = procs-kept bs m (n + 1) (s + statements b) fs (omega arith) (omega arith) (λ p. w (suc p)) (λ p. d (suc p)) (rw (procs, all) at k) in (
      keeps m (n + 1) 0 few (omega arith) Proc s 0 (omega arith) (omega arith) refl refl refl,
      block-kept m (n + 1) 0 few (omega arith) b (w 0) s 0 (Close ∷ proc_forms bs fs) (omega arith) (omega (arith, d 0))
          (keeps m (n + 1) 0 few (omega arith) Close (s + statements b) 0 (omega arith) (omega arith) refl refl refl, rest),
    )

threads-kept : (ns : List ℕ) (m n s t : ℕ) → n ≤ max_procs → s ≤ max_statements → t + length ns ≤ max_threads → ((i : ℕ) → i < length ns → get_or ns i 0 < m)
    → Kept m (as_counts n s t 0) (thread_forms ns (Close ∷ []))
unfolding Kept thread_forms counted breaks tested_by least_bad number_in pick kind_in
threads-kept [] m n s t a b c h = (keeps m n t a (omega arith) Close s 0 b (omega arith) refl refl refl, tt)
threads-kept (p ∷ ns) m n s t a b c h = (
  keeps m n (t + 1) a (omega arith) (Thread p) s 0 b (omega arith) refl refl (lt-leb m p (h 0 (omega arith))),
  threads-kept ns m n s (t + 1) a b (omega arith) (λ i k. h (suc i) (omega arith)),
)

settled-kept : (plan : LockPlan) → Settled plan → Kept (length plan.procs) no_counts (forms plan)
unfolding Kept forms counted breaks tested_by least_bad number_in pick kind_in
settled-kept plan x =
    let n = length plan.procs in
    let s = all_statements plan.procs in
    let few : 0 + n ≤ max_procs = omega (arith, x.few-procs) in
    let small : 0 + s ≤ max_statements = omega (arith, x.few-statements) in
    let threads = threads-kept plan.threads n (0 + n) (0 + s) 0 few small (omega (arith, x.few-threads)) x.threads-present in (
      keeps n 0 0 (omega arith) (omega arith) Plan 0 0 (omega arith) (omega arith) refl refl refl,
      procs-kept plan.procs n 0 0 (thread_forms plan.threads (Close ∷ [])) few small x.callees_present x.few_open threads,
    )

-- a rule that each form keeps names none
none_over : (fs : List Form) (m : ℕ) (c : Counts) (number : ℕ) → Kept m c fs → past_limit_from c number fs ≡ none
unfolding Kept past_limit_from
none_over [] m c number k = refl
none_over (f ∷ fs) m c number k = rw k.0.limits (none_over fs m (counted c f) (suc number) k.1)

module _ (rule m : ℕ) (keeps-rule : (c : Counts) (f : Form) → Keeps m c f → breaks rule m f ≡ false) where
  unbroken : (fs : List Form) (c : Counts) (number : ℕ) → Kept m c fs → breaking rule m number fs ≡ none
  unfolding Kept breaking
  unbroken [] c number k = refl
  unbroken (f ∷ fs) c number k = rw (keeps-rule (counted c f) f k.0) (unbroken fs (counted c f) (suc number) k.1)

pub settled-grammatical : (plan : LockPlan) → Settled plan → Grammatical plan
settled-grammatical plan x = record { some_procedure = x.some-proc; some-thread = x.some-thread; blocks = x.filled }

pub settled-accepted : (plan : LockPlan) → Settled plan → grammar_refusal (forms plan) ≡ none
unfolding grammar_refusal references_refusal past_limit_form breaking_form or_else
settled-accepted plan x =
    let m = length plan.procs in
    let k = settled-kept plan x in
    rw (
      forms-accepted plan (settled-grammatical plan x),
      none_over (forms plan) m no_counts 1 k,
      count-forms plan,
      unbroken 6 m (λ c f h. h.lock) (forms plan) no_counts 1 k,
      unbroken 7 m (λ c f h. h.callee) (forms plan) no_counts 1 k,
      unbroken 8 m (λ c f h. h.thread) (forms plan) no_counts 1 k,
    )

-- Rules 4 to 8 accept exactly the texts of the plans that keep what the rules settle.
pub rules-plan : (fs : List Form) (plan : LockPlan) → ((grammar_refusal fs ≡ none) × (plan_in fs ≡ plan)) ↔ (Settled plan × (fs ≡ forms plan))
rules-plan fs plan = (
  λ h. (rw h.1 at (forms-settled fs h.0), rw h.1 at (accepted_denotes fs (kept fs h.0).0).1),
  λ h. (rw h.1 (settled-accepted plan h.0), rw h.1 (plan_of-forms plan (settled-grammatical plan h.0))),
)
