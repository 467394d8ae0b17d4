-- The forms of a procedure among those of its plan (`proc-forms`): within a procedure stands no form that begins another thing, and its closing form is the last before
-- one that does.
use Prim.Native.Nat.{ℕ, zero, suc, ◌+◌, ◌-◌, ◌<◌, ◌≤◌}
use native.Mathlib.Numerals.{add-one}
use native.Mathlib.Omega.{arith}
use mathlib.Core.Path.{◌≡◌, refl, sym, ap, ◌∙◌}
use mathlib.Core.Bool.{Bool, true, false, cond}
use mathlib.Core.List.{List, [], ◌∷◌}
use lib.ListN.{length, take, drop, length-drop}
use lib.Seq.{drop-drop}
use lib.Dec.{eqb-suc-zero}
use borrow.Author.Tests.{ne_eqb}
use Rattle.text.specs.declared.Form.{Form}
use Rattle.text.specs.declared.Form.TheVariants.{Plan, Proc, Close, Skip, Call, Hold, Loop, Either, One, Two, Share}
use Rattle.text.specs.Forms.{kind_in, begins_other}
use Rattle.semantics.specs.Plan.{Block, done, skip, call, hold, loop, either, end, LockPlan, body_in}
use Rattle.semantics.specs.Claims.{lock_of}
use Rattle.plan.specs.Grammar.{claim_form, block_forms, proc_forms, thread_forms, forms}
use Rattle.plan.specs.Rules.{proc_form_from}
use Rattle.plan.proofs.ClaimForms.{by_claim}
use Rattle.parts.specs.Parts.{forms_before, forms_to_closing}

-- the form of a claim begins no other thing, and opens a bracket

claim-before : (a : ℕ) (xs ys : List Form) → take (forms_before xs) xs ≡ ys → take (forms_before (claim_form a ∷ xs)) (claim_form a ∷ xs) ≡ claim_form a ∷ ys
unfolding forms_before kind_in
claim-before a xs ys e =
    by_claim (λ f. take (forms_before (f ∷ xs)) (f ∷ xs) ≡ f ∷ ys) a (ap (λ x. Hold (lock_of a) ∷ x) e) (ap (λ x. Share (lock_of a) ∷ x) e)

claim-counted : (p a n : ℕ) (xs : List Form) → proc_form_from n p (claim_form a ∷ xs) ≡ proc_form_from (suc n) p xs
unfolding proc_form_from kind_in
claim-counted p a n xs = by_claim (λ f. proc_form_from n p (f ∷ xs) ≡ proc_form_from (suc n) p xs) a refl refl

claim-closing : (a depth : ℕ) (xs : List Form) → forms_before xs ≡ forms_to_closing (depth + 1) xs → forms_before (claim_form a ∷ xs) ≡ forms_to_closing depth (claim_form a ∷ xs)
unfolding forms_before forms_to_closing kind_in
claim-closing a depth xs e = by_claim (λ f. forms_before (f ∷ xs) ≡ forms_to_closing depth (f ∷ xs)) a (ap suc e) (ap suc e)

claim-some : (a : ℕ) (xs : List Form) → 1 ≤ forms_before (claim_form a ∷ xs)
unfolding forms_before kind_in
claim-some a xs = by_claim (λ f. 1 ≤ forms_before (f ∷ xs)) a (omega arith) (omega arith)

-- up to the first form that begins another thing
before-block : (b : Block) (fs : List Form) → take (forms_before (block_forms b fs)) (block_forms b fs) ≡ block_forms b (take (forms_before fs) fs)
unfolding block_forms forms_before kind_in
before-block done fs = refl
before-block (skip r) fs = ap (λ l. Skip ∷ l) (before-block r fs)
before-block (call n r) fs = ap (λ l. Call n ∷ l) (before-block r fs)
before-block (hold a b r) fs = claim-before a (block_forms b (Close ∷ block_forms r fs)) _ (before-block b (Close ∷ block_forms r fs) ∙ ap (λ x. block_forms b (Close ∷ x)) (before-block r fs))
before-block (loop b r) fs = ap (λ x. Loop ∷ x) (before-block b (Close ∷ block_forms r fs) ∙ ap (λ x. block_forms b (Close ∷ x)) (before-block r fs))
before-block (either a b r) fs =
    ap (λ x. Either ∷ One ∷ x) (before-block a (Close ∷ Two ∷ block_forms b (Close ∷ Close ∷ block_forms r fs))
    ∙ ap (λ x. block_forms a (Close ∷ Two ∷ x)) (before-block b (Close ∷ Close ∷ block_forms r fs) ∙ ap (λ x. block_forms b (Close ∷ Close ∷ x)) (before-block r fs)))
before-block (end l r) fs = before-block r fs

-- forms on: where the procedures are counted, and what stands there
record Passes (p : ℕ) (xs fs : List Form) : Type 0 where
  forms_on : ℕ
  counted : (n : ℕ) → proc_form_from n p xs ≡ proc_form_from (n + forms_on) p fs
  there : drop forms_on xs ≡ fs

passes_none : (p : ℕ) (fs : List Form) → Passes p fs fs
passes_none p fs = record { forms_on = 0; counted = λ n. ap (λ k. proc_form_from k p fs) (omega arith); there = refl }

-- one form that begins no procedure, then others
passes-more : (p : ℕ) (f : Form) (xs fs : List Form) → ((n : ℕ) → proc_form_from n p (f ∷ xs) ≡ proc_form_from (suc n) p xs) → Passes p xs fs → Passes p (f ∷ xs) fs
passes-more p f xs fs h m = record {
  forms_on = suc m.forms_on;
  counted = λ n. h n ∙ m.counted (suc n) ∙ ap (λ k. proc_form_from k p fs) (omega arith);
  there = m.there;
}

passes_then : (p : ℕ) (xs ys fs : List Form) → Passes p xs ys → Passes p ys fs → Passes p xs fs
passes_then p xs ys fs a b = record {
  forms_on = a.forms_on + b.forms_on;
  counted = λ n. a.counted n ∙ b.counted (n + a.forms_on) ∙ ap (λ k. proc_form_from k p fs) (omega arith);
  there = sym (drop-drop b.forms_on a.forms_on xs) ∙ ap (drop b.forms_on) a.there ∙ b.there;
}

passes-block : (p : ℕ) (b : Block) (fs : List Form) → Passes p (block_forms b fs) fs
unfolding block_forms proc_form_from kind_in
passes-block p done fs = passes_none p fs
passes-block p (skip r) fs = passes-more p Skip (block_forms r fs) fs (λ n. refl) (passes-block p r fs)
passes-block p (call q r) fs = passes-more p (Call q) (block_forms r fs) fs (λ n. refl) (passes-block p r fs)
passes-block p (hold a b r) fs =
    let gs = block_forms r fs in
    passes-more p (claim_form a) (block_forms b (Close ∷ gs)) fs (λ n. claim-counted p a n (block_forms b (Close ∷ gs)))
    (passes_then p (block_forms b (Close ∷ gs)) (Close ∷ gs) fs (passes-block p b (Close ∷ gs)) (passes-more p Close gs fs (λ n. refl) (passes-block p r fs)))
passes-block p (loop b r) fs =
    let gs = block_forms r fs in
    passes-more p Loop (block_forms b (Close ∷ gs)) fs (λ n. refl)
    (passes_then p (block_forms b (Close ∷ gs)) (Close ∷ gs) fs (passes-block p b (Close ∷ gs)) (passes-more p Close gs fs (λ n. refl) (passes-block p r fs)))
passes-block p (either a b r) fs =
    let gs = block_forms r fs in
    let hs = block_forms b (Close ∷ Close ∷ gs) in
    let xs = block_forms a (Close ∷ Two ∷ hs) in
    let after-b = passes-more p Close (Close ∷ gs) fs (λ n. refl) (passes-more p Close gs fs (λ n. refl) (passes-block p r fs)) in
    let from-b = passes_then p hs (Close ∷ Close ∷ gs) fs (passes-block p b (Close ∷ Close ∷ gs)) after-b in
    let after-a = passes-more p Close (Two ∷ hs) fs (λ n. refl) (passes-more p Two hs fs (λ n. refl) from-b) in
    passes-more p Either (One ∷ xs) fs (λ n. refl) (passes-more p One xs fs (λ n. refl)
    (passes_then p xs (Close ∷ Two ∷ hs) fs (passes-block p a (Close ∷ Two ∷ hs)) after-a))
passes-block p (end l r) fs = passes-block p r fs

-- where procedure p stands among the forms, with no form of it behind
record ProcAt (n : ℕ) (p : ℕ) (ps : List Block) (xs : List Form) : Type 0 where
  place : ℕ
  number : proc_form_from n p xs ≡ n + place
  later : List Form
  there : drop place xs ≡ Proc ∷ block_forms (body_in ps p) (Close ∷ later)
  ends : forms_before later ≡ 0

begins-procs : (ps : List Block) (gs : List Form) → forms_before gs ≡ 0 → forms_before (proc_forms ps gs) ≡ 0
unfolding proc_forms forms_before kind_in
begins-procs [] gs h = h
begins-procs (b ∷ ps) gs h = refl

later-proc : (p n : ℕ) (xs : List Form) → proc_form_from n (suc p) (Proc ∷ xs) ≡ proc_form_from (suc n) p xs
unfolding proc_form_from kind_in
later-proc p n xs = let q : suc p - 1 ≡ p = omega arith in rw (eqb-suc-zero p, q)

regroup : (n a b : ℕ) → suc n + a + b ≡ n + suc (a + b)
regroup n a b = omega arith

proc-at : (ps : List Block) (gs : List Form) (p n : ℕ) → p < length ps → forms_before gs ≡ 0 → ProcAt n p ps (proc_forms ps gs)
unfolding proc_forms proc_form_from body_in kind_in
proc-at [] gs p n h e = absurd (omega arith)
proc-at (b ∷ ps) gs zero n h e = record { place = 0; number = omega arith; later = proc_forms ps gs; there = refl; ends = begins-procs ps gs e }
proc-at (b ∷ ps) gs (suc p) n h e =
    let fs = proc_forms ps gs in
    let x = passes-more p Close fs fs (λ k. refl) (passes_none p fs) in
    let m = passes_then p (block_forms b (Close ∷ fs)) (Close ∷ fs) fs (passes-block p b (Close ∷ fs)) x in
    let r = proc-at ps gs p (suc n + m.forms_on) (omega arith) e in
    record {
      place = suc (m.forms_on + r.place);
      number = later-proc p n (block_forms b (Close ∷ fs)) ∙ m.counted (suc n) ∙ r.number ∙ regroup n m.forms_on r.place;
      later = r.later;
      there = sym (drop-drop r.place m.forms_on (block_forms b (Close ∷ fs))) ∙ ap (drop r.place) m.there ∙ r.there;
      ends = r.ends;
    }

begins-threads : (ns : List ℕ) (fs : List Form) → 0 < length ns → forms_before (thread_forms ns fs) ≡ 0
unfolding thread_forms forms_before kind_in
begins-threads [] fs h = absurd (omega arith)
begins-threads (n ∷ ns) fs h = refl

-- a closing form is the last
closing : (later : List Form) → forms_before later ≡ 0 → take (forms_before (Close ∷ later)) (Close ∷ later) ≡ Close ∷ []
unfolding forms_before kind_in
closing later z = rw z

-- a procedure's closing form, with no bracket open
closed : (later : List Form) → forms_before later ≡ 0 → forms_before (Close ∷ later) ≡ forms_to_closing 0 (Close ∷ later)
unfolding forms_before kind_in forms_to_closing
closed later z = rw z

-- the end of a bracket within the procedure
closes : (depth : ℕ) (fs : List Form) → forms_before fs ≡ forms_to_closing depth fs → forms_before (Close ∷ fs) ≡ forms_to_closing (depth + 1) (Close ∷ fs)
unfolding forms_before kind_in forms_to_closing
closes depth fs h = let e : depth + 1 - 1 ≡ depth = omega arith in rw (ne_eqb (depth + 1) 0 (λ z. omega arith), e) (ap suc h)

-- the closing form is the last before the next form that begins another thing
closing-block : (b : Block) (depth : ℕ) (fs : List Form) → forms_before fs ≡ forms_to_closing depth fs → forms_before (block_forms b fs) ≡ forms_to_closing depth (block_forms b fs)
unfolding block_forms forms_before kind_in forms_to_closing
closing-block done depth fs h = h
closing-block (skip r) depth fs h = ap suc (closing-block r depth fs h)
closing-block (call n r) depth fs h = ap suc (closing-block r depth fs h)
closing-block (hold a b r) depth fs h = claim-closing a depth (block_forms b (Close ∷ block_forms r fs)) (closing-block b (depth + 1) (Close ∷ block_forms r fs) (closes depth (block_forms r fs) (closing-block r depth fs h)))
closing-block (loop b r) depth fs h = ap suc (closing-block b (depth + 1) (Close ∷ block_forms r fs) (closes depth (block_forms r fs) (closing-block r depth fs h)))
closing-block (either a b r) depth fs h =
    let gs = block_forms r fs in
    let after-b = closes (depth + 1) (Close ∷ gs) (closes depth gs (closing-block r depth fs h)) in
    let from-b = closing-block b (depth + 1 + 1) (Close ∷ Close ∷ gs) after-b in
    let after-a = closes (depth + 1) (Two ∷ block_forms b (Close ∷ Close ∷ gs)) (ap suc from-b) in
    ap (λ n. suc (suc n)) (closing-block a (depth + 1 + 1) (Close ∷ Two ∷ block_forms b (Close ∷ Close ∷ gs)) after-a)
closing-block (end l r) depth fs h = closing-block r depth fs h

-- how many forms a procedure has up to its closing form, that too
before-most : (fs : List Form) → forms_before fs ≤ length fs
unfolding forms_before
before-most [] = omega arith
before-most (f ∷ fs) = go (begins_other f) (before-most fs)
  where
    go : (b : Bool) → forms_before fs ≤ length fs → cond b 0 (suc (forms_before fs)) ≤ suc (length fs)
    go true h = omega arith
    go false h = omega arith

before-some : (b : Block) (fs : List Form) → 1 ≤ forms_before (block_forms b (Close ∷ fs))
unfolding block_forms forms_before kind_in
before-some done fs = omega arith
before-some (skip r) fs = omega arith
before-some (call n r) fs = omega arith
before-some (hold a b r) fs = claim-some a (block_forms b (Close ∷ block_forms r (Close ∷ fs)))
before-some (loop b r) fs = omega arith
before-some (either a b r) fs = omega arith
before-some (end l r) fs = before-some r fs

-- the forms of procedure p, from its `(proc`, which is form k, to its closing form
pub record ProcForms (plan : LockPlan) (p k : ℕ) : Type 0 where
  pub first : 1 ≤ k
  pub closing : forms_before (drop k (forms plan)) ≡ forms_to_closing 0 (drop k (forms plan))
  pub within : k + forms_to_closing 0 (drop k (forms plan)) ≤ length (forms plan)
  pub between : take (suc (forms_to_closing 0 (drop k (forms plan)))) (drop (k - 1) (forms plan)) ≡ proc_forms (body_in plan.procs p ∷ []) []

pub proc-forms : (plan : LockPlan) (p : ℕ) → p < length plan.procs → 0 < length plan.threads → (k : ℕ) → k ≡ proc_form_from 1 p (forms plan) → ProcForms plan p k
unfolding forms proc_form_from proc_forms kind_in
proc-forms plan p h t k e =
    let gs = thread_forms plan.threads (Close ∷ []) in
    let fs = proc_forms plan.procs gs in
    let r = proc-at plan.procs gs p 2 h (begins-threads plan.threads (Close ∷ []) t) in
    let b = body_in plan.procs p in
    let at : k ≡ suc (suc r.place) = e ∙ r.number ∙ omega arith in
    let inside : drop k (Plan ∷ fs) ≡ block_forms b (Close ∷ r.later) =
    rw at (ap (λ n. drop n fs) (sym (add-one r.place)) ∙ sym (drop-drop 1 r.place fs) ∙ ap (drop 1) r.there) in
    let n = forms_before (block_forms b (Close ∷ r.later)) in
    let same : n ≡ forms_to_closing 0 (block_forms b (Close ∷ r.later)) = closing-block b 0 (Close ∷ r.later) (closed r.later r.ends) in
    let back : k - 1 ≡ suc r.place = omega arith in record {
      first = omega arith;
      closing = rw inside same;
      within = rw (inside, ← same) (omega (arith, before-most (block_forms b (Close ∷ r.later)), before-some b r.later, ap length (sym inside) ∙ length-drop k (Plan ∷ fs)));
      between = rw (inside, ← same, back) (ap (take (suc n)) r.there ∙ ap (λ l. Proc ∷ l) (before-block b (Close ∷ r.later) ∙ ap (block_forms b) (closing r.later r.ends)));
    }
