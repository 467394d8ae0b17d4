-- A tidy copy retains all forms (`all_retained`). A straightened one retains of a plan's forms those of the straightened plan (`straight_retained`): the forms of a loop's
-- block, or of an either's two, are left one after the other. What is retained is no longer than the whole (`retained_shorter`).
use Prim.Native.Nat.{ℕ, ◌≤◌}
use native.Mathlib.Omega.{arith}
use mathlib.Core.Bool.{Bool, true, false, not, ◌&&◌, cond}
use mathlib.Core.Path.{◌≡◌, refl, sym, ap, ◌∙◌}
use mathlib.Core.List.{List, [], ◌∷◌, map}
use lib.ListN.{length, length-append}
use Rattle.text.specs.declared.Form.{Form}
use Rattle.text.specs.declared.Form.TheVariants.{Plan, Proc, Thread, Close, Skip, Call, Hold, Loop, Either, One, Two, Share}
use Rattle.text.specs.Forms.{write, kind_in, is_close}
use Rattle.text.specs.Lines.{text_of}
use Rattle.semantics.specs.Plan.{Block, done, skip, call, hold, loop, either, end, ◌⨾◌, LockPlan}
use Rattle.semantics.specs.Claims.{lock_of}
use Rattle.plan.specs.Grammar.{claim_form, block_forms, proc_forms, thread_forms, forms}
use Rattle.plan.proofs.ClaimForms.{by_claim}
use Rattle.straightening.specs.Straight.{straight, straight_plan}
use Rattle.bare_text.specs.Writing.{opens_block, left_out, is_retained, innermost, enclosing, around, retained_forms}

-- ---- a tidy copy

-- the forms that opened the brackets around a place are all retained
abbrev Opened : List Bool → Type 0
Opened [] = Unit {0}
Opened (k ∷ ks) = (k ≡ true) × Opened ks

form_retained : (ks : List Bool) → Opened ks → (f : Form) → is_retained false (innermost ks) f ≡ true
unfolding is_retained
form_retained ks o f = ap (λ k. is_retained false k f) (top ks o) ∙ go (is_close f) (left_out f)
  where
    top : (ks : List Bool) → Opened ks → innermost ks ≡ true
    top [] o = refl
    top (k ∷ ks) o = o.0

    go : (c b : Bool) → cond c true (not (b && false)) ≡ true
    go true b = refl
    go false true = refl
    go false false = refl

around-opened : (ks : List Bool) → Opened ks → (f : Form) → Opened (around false ks f)
unfolding around
around-opened ks o f = go (opens_block f) (is_close f)
  where
    less : (ks : List Bool) → Opened ks → Opened (enclosing ks)
    less [] o = o
    less (k ∷ ks) o = o.1

    go : (b c : Bool) → Opened (cond b (is_retained false (innermost ks) f ∷ ks) (cond c (enclosing ks) ks))
    go true c = (form_retained ks o f, o)
    go false true = less ks o
    go false false = o

opened_retained : (fs : List Form) (ks : List Bool) → Opened ks → retained_forms false ks fs ≡ fs
unfolding retained_forms
opened_retained [] ks o = refl
opened_retained (f ∷ fs) ks o = rw (form_retained ks o f) (ap (λ gs. f ∷ gs) (opened_retained fs (around false ks f) (around-opened ks o f)))

pub all_retained : (fs : List Form) → retained_forms false [] fs ≡ fs
all_retained fs = opened_retained fs [] tt

-- ---- a straightened copy

-- the forms of a block and another behind it
forms_⨾ : (a b : Block) (fs : List Form) → block_forms (a ⨾ b) fs ≡ block_forms a (block_forms b fs)
unfolding block_forms ◌⨾◌
forms_⨾ done b fs = refl
forms_⨾ (skip r) b fs = ap (λ x. Skip ∷ x) (forms_⨾ r b fs)
forms_⨾ (call p r) b fs = ap (λ x. Call p ∷ x) (forms_⨾ r b fs)
forms_⨾ (hold a x r) b fs = ap (λ y. claim_form a ∷ block_forms x (Close ∷ y)) (forms_⨾ r b fs)
forms_⨾ (loop x r) b fs = ap (λ y. Loop ∷ block_forms x (Close ∷ y)) (forms_⨾ r b fs)
forms_⨾ (either x y r) b fs = ap (λ z. Either ∷ One ∷ block_forms x (Close ∷ Two ∷ block_forms y (Close ∷ Close ∷ z))) (forms_⨾ r b fs)
forms_⨾ (end l r) b fs = forms_⨾ r b fs

-- the form of a claim opens a bracket and is retained
claim_retained : (a : ℕ) (ks : List Bool) (fs gs : List Form) → retained_forms true (true ∷ ks) fs ≡ gs → retained_forms true ks (claim_form a ∷ fs) ≡ claim_form a ∷ gs
unfolding retained_forms around is_retained kind_in
claim_retained a ks fs gs e =
    by_claim (λ f. retained_forms true ks (f ∷ fs) ≡ f ∷ gs) a (ap (λ x. Hold (lock_of a) ∷ x) e) (ap (λ x. Share (lock_of a) ∷ x) e)

block_retained : (b : Block) (ks : List Bool) (fs : List Form) → retained_forms true ks (block_forms b fs) ≡ block_forms (straight b) (retained_forms true ks fs)
unfolding retained_forms around is_retained kind_in block_forms straight
block_retained done ks fs = refl
block_retained (skip r) ks fs = ap (λ x. Skip ∷ x) (block_retained r ks fs)
block_retained (call p r) ks fs = ap (λ x. Call p ∷ x) (block_retained r ks fs)
block_retained (hold a b r) ks fs =
    claim_retained a ks (block_forms b (Close ∷ block_forms r fs)) _ (block_retained b (true ∷ ks) (Close ∷ block_forms r fs) ∙ ap (λ x. block_forms (straight b) (Close ∷ x)) (block_retained r ks fs))
block_retained (loop b r) ks fs =
    block_retained b (false ∷ ks) (Close ∷ block_forms r fs) ∙ ap (block_forms (straight b)) (block_retained r ks fs)
    ∙ sym (forms_⨾ (straight b) (straight r) (retained_forms true ks fs))
block_retained (either a b r) ks fs =
    let gs = retained_forms true ks fs in
    let later : retained_forms true (false ∷ false ∷ ks) (block_forms b (Close ∷ Close ∷ block_forms r fs)) ≡ block_forms (straight b ⨾ straight r) gs =
    block_retained b (false ∷ false ∷ ks) (Close ∷ Close ∷ block_forms r fs) ∙ ap (block_forms (straight b)) (block_retained r ks fs) ∙ sym (forms_⨾ (straight b) (straight r) gs) in
    block_retained a (false ∷ false ∷ ks) (Close ∷ Two ∷ block_forms b (Close ∷ Close ∷ block_forms r fs)) ∙ ap (block_forms (straight a)) later
    ∙ sym (forms_⨾ (straight a) (straight b ⨾ straight r) gs)
block_retained (end l r) ks fs = block_retained r ks fs

procs_retained : (ps : List Block) (ks : List Bool) (fs : List Form) → retained_forms true ks (proc_forms ps fs) ≡ proc_forms (map straight ps) (retained_forms true ks fs)
unfolding retained_forms around is_retained kind_in proc_forms
procs_retained [] ks fs = refl
procs_retained (b ∷ ps) ks fs =
    ap (λ x. Proc ∷ x) (block_retained b (true ∷ ks) (Close ∷ proc_forms ps fs) ∙ ap (λ x. block_forms (straight b) (Close ∷ x)) (procs_retained ps ks fs))

threads_retained : (ns : List ℕ) (ks : List Bool) (fs : List Form) → retained_forms true ks (thread_forms ns fs) ≡ thread_forms ns (retained_forms true ks fs)
unfolding retained_forms around is_retained kind_in thread_forms
threads_retained [] ks fs = refl
threads_retained (n ∷ ns) ks fs = ap (λ x. Thread n ∷ x) (threads_retained ns ks fs)

pub straight_retained : (plan : LockPlan) → retained_forms true [] (forms plan) ≡ forms (straight_plan plan)
unfolding retained_forms around is_retained kind_in forms straight_plan
straight_retained plan =
    ap (λ x. Plan ∷ x) (procs_retained plan.procs (true ∷ []) (thread_forms plan.threads (Close ∷ []))
    ∙ ap (proc_forms (map straight plan.procs)) (threads_retained plan.threads (true ∷ []) (Close ∷ [])))

-- ---- lengths

pub retained_shorter : (straighten : Bool) (ks : List Bool) (fs : List Form) → length (text_of (retained_forms straighten ks fs)) ≤ length (text_of fs)
unfolding retained_forms text_of
retained_shorter s ks [] = omega arith
retained_shorter s ks (f ∷ fs) =
    let gs = retained_forms s (around s ks f) fs in
    go (is_retained s (innermost ks) f) gs (retained_shorter s (around s ks f) fs)
  where
    go : (b : Bool) (gs : List Form) → length (text_of gs) ≤ length (text_of fs) → length (text_of (cond b (f ∷ gs) gs)) ≤ length (text_of (f ∷ fs))
    go true gs h = omega (arith, length-append (write f) (10 ∷ text_of gs), length-append (write f) (10 ∷ text_of fs))
    go false gs h = omega (arith, length-append (write f) (10 ∷ text_of fs))
