-- Rules 5 to 8: the pass of each names the first form that breaks the rule, that of rule 5 in the forms of a plan. A form breaks a rule of 6 to 8 exactly if the rule tests
-- its number and that is too high (`number-breaks`).
use Prim.Native.Nat.{ℕ, ◌<◌, ◌≤◌}
use mathlib.Core.Bool.{Bool, true, false, ◌||◌, cond}
use mathlib.Core.List.{List, [], ◌∷◌, ◌++◌}
use mathlib.Core.Logic.{◌⊎◌, inl, inr, ⊎_elim, ◌↔◌}
use mathlib.Core.Option.{none}
use mathlib.Core.Path.{◌≡◌, refl, sym, ap, subst, ◌∙◌}
use native.Mathlib.Omega.{arith}
use lib.Dec.{eqb, leb}
use lib.Seq.{append_snoc}
use borrow.Author.Tests.{lt-ltb, le-ltb}
use Rattle.limits.specs.Limits.{max_procs, max_statements, max_threads, max_brackets}
use Rattle.laws.specs.Choice.{pick}
use Rattle.laws.proofs.Tests.{lt_or_le, eqb-cases}
use Rattle.text.specs.declared.Form.{Form}
use Rattle.text.specs.declared.Form.TheVariants.{Thread, Call, Hold, Share}
use Rattle.text.specs.Forms.{number_in, kind_number, kind_in, is_proc, is_thread, is_call, is_hold, is_share, takes_lock}
use Rattle.text.proofs.Matches.{kind-form}
use Rattle.plan.specs.declared.Counts.{Counts}
use Rattle.plan.specs.Limits.{over_limit, past_limit_form, tested_by, least_bad, breaks, count_if, breaking_form}
use Rattle.plan.specs.Structure.{misplaced_form}
use Rattle.plan.proofs.States.{State}
use Rattle.demands.specs.Lines.{First, FormWhere}
use Rattle.demands.specs.Broken.{PastLimit, procedures, statements, threads, brackets, HighLock, AbsentCallee, AbsentProc}
use Rattle.demands.proofs.Order.{Names}
use Rattle.demands.proofs.Firsts.{Decides, decides_iff, at_most}
use Rattle.demands.proofs.Counting.{counts_of}
use Rattle.demands.proofs.Depth.{open_deep}
use Rattle.demands.proofs.Reading.{Along, reached}
use Rattle.demands.proofs.Scan.{limits-scan, numbers-scan}

-- ---- 5

within-limits : (fs : List Form) (c : Counts) (s : State) → Along s fs c → c.procs ≤ max_procs → c.statements ≤ max_statements → c.threads ≤ max_threads
    → c.depth ≤ max_brackets → PastLimit fs → ⊥
within-limits fs c s a h i j k (procedures p) = omega (arith, a.counts.procs)
within-limits fs c s a h i j k (statements p) = omega (arith, a.counts.statements)
within-limits fs c s a h i j k (threads p) = omega (arith, a.counts.threads)
within-limits fs c s a h i j k (brackets p) = omega (arith, (open_deep fs c.depth s a.brackets).1 p)

past_limit : (fs : List Form) (c : Counts) (s : State) → Along s fs c → Decides (over_limit c) (PastLimit fs)
unfolding over_limit pick
past_limit fs c s a =
    ⊎_elim (λ (h : max_procs < c.procs). inl (rw (lt-ltb max_procs c.procs h), procedures (omega (arith, a.counts.procs))))
    (λ (h : c.procs ≤ max_procs). ⊎_elim
    (λ (i : max_statements < c.statements). inl (rw (le-ltb max_procs c.procs h, lt-ltb max_statements c.statements i), statements (omega (arith, a.counts.statements))))
    (λ (i : c.statements ≤ max_statements). ⊎_elim
    (λ (j : max_threads < c.threads). inl (
      rw (le-ltb max_procs c.procs h, le-ltb max_statements c.statements i, lt-ltb max_threads c.threads j),
      threads (omega (arith, a.counts.threads)),
    ))
    (λ (j : c.threads ≤ max_threads). ⊎_elim
    (λ (k : max_brackets < c.depth). inl (
      rw (le-ltb max_procs c.procs h, le-ltb max_statements c.statements i, le-ltb max_threads c.threads j, lt-ltb max_brackets c.depth k),
      brackets ((open_deep fs c.depth s a.brackets).0 k),
    ))
    (λ (k : c.depth ≤ max_brackets). inr (
      rw (le-ltb max_procs c.procs h, le-ltb max_statements c.statements i, le-ltb max_threads c.threads j, le-ltb max_brackets c.depth k),
      within-limits fs c s a h i j k,
    ))
    (lt_or_le max_brackets c.depth)) (lt_or_le max_threads c.threads)) (lt_or_le max_statements c.statements)) (lt_or_le max_procs c.procs)

-- in the forms of a plan
pub limits-names : (fs : List Form) → misplaced_form fs ≡ none → Names (past_limit_form fs) (First (FormWhere (λ before f. PastLimit (before ++ f ∷ [])) fs))
limits-names fs structured = limits-scan (λ before f. PastLimit (before ++ f ∷ [])) fs
    (λ before f after e. let read = before ++ f ∷ [] in
    let x = reached fs structured read after (e ∙ sym (append_snoc before f after)) in
    past_limit read (counts_of read) x.0 x.1)

-- ---- 6 to 8

-- the forms by the rule that tests their number
data Tested : ℕ → Form → Type 0 where
  thread : (n : ℕ) → Tested 8 (Thread n)
  call : (n : ℕ) → Tested 7 (Call n)
  hold : (l : ℕ) → Tested 6 (Hold l)
  share : (l : ℕ) → Tested 6 (Share l)
  untested : {f : Form} → Tested 0 f

-- a form that takes a lock is a hold or a share
takes-cases : (f : Form) → takes_lock f ≡ true → (is_hold f ≡ true) ⊎ (is_share f ≡ true)
unfolding kind_in
takes-cases f = go (eqb (kind_number (Hold 0)) (kind_number f)) (is_share f)
  where
    go : (a b : Bool) → (a || b) ≡ true → ((a || false) ≡ true) ⊎ (b ≡ true)
    go true b e = inl refl
    go false b e = inr e

tested : (rule : ℕ) (f : Form) → tested_by f ≡ rule → Tested rule f
unfolding tested_by
tested rule f e = subst (λ r. Tested r f) e (go (is_thread f) refl (is_call f) refl (takes_lock f) refl)
  where
    go : (a : Bool) → is_thread f ≡ a → (b : Bool) → is_call f ≡ b → (c : Bool) → takes_lock f ≡ c → Tested (cond a 8 (cond b 7 (cond c 6 0))) f
    go true h b i c j = subst (Tested 8) (sym (kind-form (Thread 0) f h)) (thread (number_in f))
    go false h true i c j = subst (Tested 7) (sym (kind-form (Call 0) f i)) (call (number_in f))
    go false h false i true j =
        ⊎_elim (λ k. subst (Tested 6) (sym (kind-form (Hold 0) f k)) (hold (number_in f)))
        (λ k. subst (Tested 6) (sym (kind-form (Share 0) f k)) (share (number_in f))) (takes-cases f j)
    go false h false i false j = untested

tested-lock : {f : Form} → Tested 6 f → (f ≡ Hold (number_in f)) ⊎ (f ≡ Share (number_in f))
unfolding number_in
tested-lock (hold l) = inl refl
tested-lock (share l) = inr refl

tested-call : {f : Form} → Tested 7 f → f ≡ Call (number_in f)
unfolding number_in
tested-call (call n) = refl

tested-thread : {f : Form} → Tested 8 f → f ≡ Thread (number_in f)
unfolding number_in
tested-thread (thread n) = refl

-- the rule tests the form's number, which is too high where there are n procedures
abbrev TooHigh : ℕ → ℕ → Form → Type 0
TooHigh rule n f = (tested_by f ≡ rule) × (least_bad rule n ≤ number_in f)

number-breaks : (rule n : ℕ) (f : Form) → Decides (breaks rule n f) (TooHigh rule n f)
unfolding breaks pick
number-breaks rule n f =
    let least = least_bad rule n in
    ⊎_elim (λ x. rw x.1 (decides_iff (leb least (number_in f)) _ _ (λ h. (x.0, h), λ y. y.1) (at_most least (number_in f))))
    (λ x. rw x.1 (inr (refl, λ y. x.0 y.0)))
    (eqb-cases (tested_by f) rule)

module _ (fs : List Form) where
  numbers-names : (rule : ℕ) (P : Form → Type 0) → ((f : Form) → TooHigh rule (count_if is_proc fs) f ↔ P f)
      → Names (breaking_form rule fs) (First (FormWhere (λ before f. P f) fs))
  numbers-names rule P says = numbers-scan (λ before f. P f) fs rule
      (λ before f. decides_iff _ _ _ (says f) (number-breaks rule (count_if is_proc fs) f))

  pub locks-names : Names (breaking_form 6 fs) (First (FormWhere (λ before f. HighLock f) fs))
  unfolding least_bad tested_by number_in pick kind_in
  locks-names = numbers-names 6 HighLock (λ f. (
    λ x. record { lock = number_in f; takes = tested-lock (tested 6 f x.0); above = x.1 },
    λ y. ⊎_elim (λ h. (ap tested_by h, omega (arith, y.above, ap number_in h))) (λ h. (ap tested_by h, omega (arith, y.above, ap number_in h))) y.takes,
  ))

  pub calls-names : Names (breaking_form 7 fs) (First (FormWhere (λ before f. AbsentCallee fs f) fs))
  unfolding least_bad tested_by number_in pick kind_in
  calls-names = numbers-names 7 (AbsentCallee fs) (λ f. (
    λ x. record { callee = number_in f; call = tested-call (tested 7 f x.0); absent = x.1 },
    λ y. (ap tested_by y.call, omega (arith, y.absent, ap number_in y.call)),
  ))

  pub threads-names : Names (breaking_form 8 fs) (First (FormWhere (λ before f. AbsentProc fs f) fs))
  unfolding least_bad tested_by number_in pick kind_in
  threads-names = numbers-names 8 (AbsentProc fs) (λ f. (
    λ x. record { proc = number_in f; thread = tested-thread (tested 8 f x.0); absent = x.1 },
    λ y. (ap tested_by y.thread, omega (arith, y.absent, ap number_in y.thread)),
  ))
