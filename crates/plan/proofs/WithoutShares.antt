-- The plan of an accepted text without a `(share` line has blocks without share (`accepted-without`), so it keeps its answers (`text-answers-kept`)
-- as the plan that 01 reads in the same text (`accepted-locked`).
use Prim.Native.Nat.{ℕ, zero, suc, ◌+◌, ◌-◌, ◌*◌, ◌/◌, ◌%◌, ◌<◌, ◌≤◌}
use mathlib.Core.Bool.{Bool, true, false, cond}
use mathlib.Core.List.{List, [], ◌∷◌, map, Memᴰ}
use mathlib.Core.Option.{none}
use mathlib.Core.Path.{◌≡◌, refl, ap, subst, ◌∙◌}
use native.Mathlib.Omega.{arith}
use lib.ListN.{length}
use borrow.Author.Tests.{eqb-true}
use Rattle.std.specs.Prelude.{Option, Some, None}
use Rattle.limits.specs.Limits.{lock_count, claim_count}
use Rattle.text.specs.declared.Form.{Form}
use Rattle.text.specs.declared.Form.TheVariants.{Plan, Close, Two, Hold, Share}
use Rattle.text.specs.Forms.{number_in, kind_in, is_share, IsForm}
use Rattle.text.specs.Kinds.{kind_of}
use Rattle.text.specs.Lines.{split, unindented, cons_form, forms_in, forms_of}
use Rattle.text.proofs.Matches.{kind-form}
use Rattle.text.proofs.Written.{kind-written}
use Rattle.semantics.specs.Plan.{Block, done, skip, call, hold, loop, either, end, body_in, Written}
use Rattle.semantics.specs.Claims.{lock_of, is_hold}
use Rattle.semantics.specs.HoldsOnly.{WithoutShare, locked, locked_plan, AnswersKept}
use Rattle.semantics.proofs.HoldsOnly.KeptPairs.{answers-kept}
use Rattle.plan.specs.Grammar.{claim_form, block_forms, proc_forms, thread_forms, forms}
use Rattle.plan.specs.Limits.{count_if}
use Rattle.plan.specs.Rules.{plan_of, plan_refusal}
use Rattle.plan.specs.Shareless.{NoShare, NoShareLine, block_forms01, proc_forms01, forms01}
use Rattle.plan.proofs.AcceptedTable.{accepted-text, accepted-settled}

-- lines none of which is a share have no such form
lines-without : (ls : List (List ℕ)) → ((l : List ℕ) → Memᴰ l ls → (n : ℕ) → IsForm (unindented l) (Share n) → ⊥) → NoShare (forms_in ls)
unfolding forms_in count_if
lines-without [] h = refl
lines-without (l ∷ ls) h = go (kind_of (unindented l)) refl (lines-without ls (λ x m. h x (Memᴰ.tail m)))
  where
    go : (k : Option Form) → kind_of (unindented l) ≡ k → NoShare (forms_in ls) → NoShare (cons_form k (forms_in ls))
    go None e rest = rest
    go (Some f) e rest = test (is_share f) refl
      where
        test : (b : Bool) → is_share f ≡ b → NoShare (f ∷ forms_in ls)
        test true s = absurd (h l (Memᴰ.head refl) (number_in f) (subst (IsForm (unindented l)) (kind-form (Share 0) f s) ((kind-written (unindented l) f).0 e)))
        test false s = rw (s, rest)

-- a claim whose form is no share is by hold
taken : (a : ℕ) (fs : List Form) → NoShare (claim_form a ∷ fs) → (is_hold a ≡ true) × NoShare fs
unfolding claim_form count_if kind_in
taken a fs h = go (is_hold a) h
  where
    go : (b : Bool) → NoShare (cond b (Hold (lock_of a)) (Share (lock_of a)) ∷ fs) → (b ≡ true) × NoShare fs
    go true h = (refl, omega arith)
    go false h = absurd (omega arith)

held-from : (a : ℕ) → is_hold a ≡ true → lock_count ≤ a
unfolding is_hold
held-from a e = let k : a / lock_count % 2 ≡ 1 = eqb-true (a / lock_count % 2) 1 e in omega arith

block-without : (C : ℕ → Type 0) (b : Block) → Written C b → (fs : List Form) → NoShare (block_forms b fs) → WithoutShare b × NoShare fs
unfolding block_forms Written WithoutShare count_if kind_in
block-without C done w fs h = (tt, h)
block-without C (skip r) w fs h = block-without C r w fs (omega arith)
block-without C (call p r) w fs h = block-without C r w.1 fs (omega arith)
block-without C (hold a b r) w fs h =
    let x = taken a (block_forms b (Close ∷ block_forms r fs)) h in
    let y = block-without C b w.1 (Close ∷ block_forms r fs) x.1 in
    let z = block-without C r w.2 fs (omega (arith, y.1)) in
    ((held-from a x.0, w.0, y.0, z.0), z.1)
block-without C (loop b r) w fs h =
    let y = block-without C b w.0 (Close ∷ block_forms r fs) (omega arith) in
    let z = block-without C r w.1 fs (omega (arith, y.1)) in
    ((y.0, z.0), z.1)
block-without C (either a b r) w fs h =
    let gs = Close ∷ Close ∷ block_forms r fs in
    let x = block-without C a w.0 (Close ∷ Two ∷ block_forms b gs) (omega arith) in
    let y = block-without C b w.1 gs (omega (arith, x.1)) in
    let z = block-without C r w.2 fs (omega (arith, y.1)) in
    ((x.0, y.0, z.0), z.1)
block-without C (end a r) w fs h = absurd w

procs-without : (C : ℕ → Type 0) (bs : List Block) → ((p : ℕ) → Written C (body_in bs p)) → (fs : List Form) → NoShare (proc_forms bs fs) → (p : ℕ) → WithoutShare (body_in bs p)
unfolding proc_forms body_in WithoutShare count_if kind_in
procs-without C [] w fs h p = tt
procs-without C (b ∷ bs) w fs h zero = (block-without C b (w 0) (Close ∷ proc_forms bs fs) (omega arith)).0
procs-without C (b ∷ bs) w fs h (suc p) =
    let x = block-without C b (w 0) (Close ∷ proc_forms bs fs) (omega arith) in
    procs-without C bs (λ q. w (suc q)) fs (omega (arith, x.1)) p

-- ---- 01's grammar has the forms of the plan with locks in the place of claims

hold-there : (a : ℕ) → lock_count ≤ a → a < claim_count → claim_form a ≡ Hold (a - lock_count)
unfolding claim_form is_hold lock_of
hold-there a h k =
    let e : a / lock_count % 2 ≡ 1 = omega arith in
    let l : a / claim_count * lock_count + a % lock_count ≡ a - lock_count = omega arith in
    rw (e, l)

locked-block : (b : Block) → WithoutShare b → (fs : List Form) → block_forms b fs ≡ block_forms01 (locked b) fs
unfolding block_forms block_forms01 locked WithoutShare
locked-block done w fs = refl
locked-block (skip r) w fs = rw (locked-block r w fs)
locked-block (call p r) w fs = rw (locked-block r w fs)
locked-block (hold a b r) w fs = rw (hold-there a w.0 w.1, locked-block r w.3 fs, locked-block b w.2 _)
locked-block (loop b r) w fs = rw (locked-block r w.1 fs, locked-block b w.0 _)
locked-block (either a b r) w fs = rw (locked-block r w.2 fs, locked-block b w.1 _, locked-block a w.0 _)
locked-block (end a r) w fs = absurd w

locked-procs : (bs : List Block) → ((p : ℕ) → WithoutShare (body_in bs p)) → (fs : List Form) → proc_forms bs fs ≡ proc_forms01 (map locked bs) fs
unfolding proc_forms proc_forms01 body_in
locked-procs [] w fs = refl
locked-procs (b ∷ bs) w fs = rw (locked-procs bs (λ p. w (suc p)) fs, locked-block b (w 0) _)

module _ (text : List ℕ) (e : plan_refusal text ≡ none) (n : NoShareLine text) where
  no_share : NoShare (forms_of text)
  unfolding forms_of
  no_share = lines-without (split text).ended n

  pub accepted-without : (p : ℕ) → WithoutShare (body_in (plan_of text).procs p)
  unfolding forms count_if kind_in
  accepted-without =
      let plan = plan_of text in
      let h : NoShare (forms plan) = subst NoShare (accepted-text text e) no_share in
      procs-without (λ q. q < length plan.procs) plan.procs (accepted-settled text e).callees_present (thread_forms plan.threads (Close ∷ [])) (omega arith)

  -- the text is the one of the plan as 01 has it
  pub accepted-locked : forms_of text ≡ forms01 (locked_plan (plan_of text))
  unfolding forms forms01
  accepted-locked = accepted-text text e ∙ ap (λ l. Plan ∷ l) (locked-procs (plan_of text).procs accepted-without _)

  -- "Plans without share keep their answers, written as records."
  pub text-answers-kept : AnswersKept (plan_of text)
  text-answers-kept = answers-kept (plan_of text) accepted-without
