-- Rules 12, 13 and 9 name the `(proc` of the lowest procedure of which P holds, by its number among the forms, where their test of a procedure says whether P does
-- (`lowest-names`): `proc_form_from` counts the `(proc` forms (`proc-number`).
use Prim.Native.Nat.{ℕ, zero, suc, ◌+◌, ◌-◌, ◌<◌}
use mathlib.Core.Bool.{Bool, true, false, cond}
use mathlib.Core.List.{List, [], ◌∷◌, ◌++◌}
use mathlib.Core.Option.{Option, none, some, none-ne-some, some-injective}
use mathlib.Core.Path.{◌≡◌, refl, sym, ap, subst, ◌∙◌}
use native.Mathlib.Omega.{arith}
use lib.Dec.{eqb-suc-zero}
use lib.ListN.{length}
use Rattle.text.specs.declared.Form.{Form}
use Rattle.text.specs.declared.Form.TheVariants.{Proc}
use Rattle.text.specs.Forms.{kind_in, is_proc}
use Rattle.text.proofs.Matches.{kind-form}
use Rattle.semantics.specs.Plan.{LockPlan}
use Rattle.plan.specs.Grammar.{forms, plan_in}
use Rattle.plan.specs.Limits.{count_if}
use Rattle.plan.specs.Rules.{proc_form_from, proc_form, lowest_from, proc_refusal}
use Rattle.plan.proofs.Counting.{count-forms}
use Rattle.plan.proofs.Lowest.{Lowest, lowest, proc_refusal-none, none-proc_refusal}
use Rattle.demands.specs.Lines.{First, FormWhere}
use Rattle.demands.specs.Broken.{BeginsProc, LowestProc}
use Rattle.demands.proofs.Order.{Names}
use Rattle.demands.proofs.Firsts.{first-unique, Decides, holds_where, fails_where, false_where}
use Rattle.demands.proofs.Counting.{proc-unique}

-- ---- the number of a procedure's `(proc`

-- a `(proc`, or another form, which the count of procedures passes over
data View : Form → Type 0 where
  proc : View Proc
  other : {f : Form} → is_proc f ≡ false → ((k p : ℕ) (fs : List Form) → proc_form_from k p (f ∷ fs) ≡ proc_form_from (suc k) p fs) → View f

view : (f : Form) → View f
unfolding proc_form_from
view f = go (is_proc f) refl
  where
    go : (b : Bool) → is_proc f ≡ b → View f
    go true e = subst View (sym (kind-form Proc f e)) proc
    go false e = other e (λ k p fs. rw e)

-- the `(proc` of procedure p, where the first form has the number k
record ProcAt (fs : List Form) (k p : ℕ) : Type 0 where
  before : List Form
  after : List Form
  split : fs ≡ before ++ Proc ∷ after
  number : proc_form_from k p fs ≡ k + length before
  counted : count_if is_proc before ≡ p

proc-here : (fs : List Form) (k : ℕ) → ProcAt (Proc ∷ fs) k 0
unfolding proc_form_from count_if kind_in
proc-here fs k = record { before = []; after = fs; split = refl; number = omega arith; counted = refl }

-- a form in front
proc-later : (f : Form) (fs : List Form) (k p q : ℕ) → proc_form_from k q (f ∷ fs) ≡ proc_form_from (suc k) p fs → cond (is_proc f) 1 0 + p ≡ q
    → ProcAt fs (suc k) p → ProcAt (f ∷ fs) k q
unfolding count_if
proc-later f fs k p q e h x = record {
  before = f ∷ x.before;
  after = x.after;
  split = ap (λ gs. f ∷ gs) x.split;
  number = e ∙ omega (arith, x.number);
  counted = omega (arith, x.counted);
}

-- behind a `(proc` the procedures are counted from the next
next-proc : (k p : ℕ) (fs : List Form) → proc_form_from k (suc p) (Proc ∷ fs) ≡ proc_form_from (suc k) p fs
unfolding proc_form_from kind_in
next-proc k p fs = let e : suc p - 1 ≡ p = omega arith in rw (eqb-suc-zero p, e)

proc-at : (fs : List Form) (k p : ℕ) → p < count_if is_proc fs → ProcAt fs k p
unfolding count_if kind_in
proc-at [] k p h = absurd (omega arith)
proc-at (f ∷ fs) k p h = go f (view f) p h (proc-at fs (suc k))
  where
    go : (f : Form) → View f → (p : ℕ) → p < cond (is_proc f) 1 0 + count_if is_proc fs → ((q : ℕ) → q < count_if is_proc fs → ProcAt fs (suc k) q) → ProcAt (f ∷ fs) k p
    go f proc zero h ih = proc-here fs k
    go f proc (suc p) h ih = proc-later Proc fs k p (suc p) (next-proc k p fs) (omega arith) (ih p (omega arith))
    go f (other e same) p h ih = proc-later f fs k p p (same k p fs) (rw e (omega arith)) (ih p (omega (arith, rw e at h)))

number-proc : (fs : List Form) (p n : ℕ) → p < count_if is_proc fs → proc_form_from 1 p fs ≡ n → FormWhere (BeginsProc p) fs n
number-proc fs p n h e =
    let x = proc-at fs 1 p h in
    record { before = x.before; form = Proc; after = x.after; split = x.split; number = omega (arith, x.number); holds = (refl, x.counted) }

proc-number : (fs : List Form) (p n : ℕ) → p < count_if is_proc fs → FormWhere (BeginsProc p) fs n → proc_form_from 1 p fs ≡ n
proc-number fs p n h x =
    let y = proc-at fs 1 p h in
    let same : x.before ++ Proc ∷ x.after ≡ y.before ++ Proc ∷ y.after = sym (x.split ∙ ap (λ f. x.before ++ f ∷ x.after) x.holds.0) ∙ y.split in
    let k = proc-unique x.before y.before x.after y.after same (x.holds.1 ∙ sym y.counted) in
    omega (arith, x.number, y.number)

-- ---- the rule

module _ (fs : List Form) (written : fs ≡ forms (plan_in fs)) (test : ℕ → Bool) (P : LockPlan → ℕ → Type 0)
    (decide : (p : ℕ) → p < length (plan_in fs).procs → Decides (test p) (P (plan_in fs) p)) where
  there : (p : ℕ) → p < length (plan_in fs).procs → p < count_if is_proc fs
  there p h = omega (arith, ap (count_if is_proc) written, count-forms (plan_in fs))

  abbrev n : ℕ
  n = length (plan_in fs).procs

  holds : (p : ℕ) → p < n → test p ≡ true → P (plan_in fs) p
  holds p h e = holds_where (test p) _ (decide p h) e

  fails : (p : ℕ) → p < n → test p ≡ false → P (plan_in fs) p → ⊥
  fails p h e r = fails_where (test p) _ (decide p h) e r

  names : (o : Option ℕ) → Lowest test 0 n o → Names (proc_form fs o) (LowestProc P (plan_in fs))
  names none x m = (λ e. absurd (none-ne-some m e), λ y. absurd (fails y.proc y.present (x y.proc (omega arith) (omega (arith, y.present))) y.lowest.here))
  names (some p) x m =
      let present : p < n = omega (arith, x.1) in
      let first : First (P (plan_in fs)) p =
      record { here = holds p present x.2; none_before = λ q h. fails q (omega arith) (x.3 q (omega arith) h) } in (
        λ e. record {
          proc = p;
          present = present;
          lowest = first;
          begins = subst (λ gs. FormWhere (BeginsProc p) gs m) written (number-proc fs p m (there p present) (some-injective (proc_form_from 1 p fs) m e));
        },
        λ y.
            let same : y.proc ≡ p = first-unique (P (plan_in fs)) y.proc p y.lowest first in
            let at : FormWhere (BeginsProc p) fs m = rw (same, ← written) at y.begins in
            ap {B = Option ℕ} some (proc-number fs p m (there p present) at),
      )

  pub lowest-names : Names (proc_form fs (lowest_from test 0 (length (plan_in fs).procs))) (LowestProc P (plan_in fs))
  lowest-names = names (lowest_from test 0 n) (lowest test n 0)

  -- the rule refuses nothing exactly where P holds of no procedure
  pub none-lowest : (rule : ℕ) → proc_refusal rule fs test ≡ none → (p : ℕ) → p < length (plan_in fs).procs → P (plan_in fs) p → ⊥
  none-lowest rule e p h = fails p h (proc_refusal-none rule fs test e p h)

  pub lowest-none : (rule : ℕ) → ((p : ℕ) → p < length (plan_in fs).procs → P (plan_in fs) p → ⊥) → proc_refusal rule fs test ≡ none
  lowest-none rule h = none-proc_refusal rule fs test (λ p b. false_where (test p) _ (decide p b) (h p b))
