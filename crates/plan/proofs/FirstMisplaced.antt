-- Rule 4 names the first form with which no plan begins, or the number behind the last form's (`structure_first`). From each state some forms lead to
-- acceptance, so what the machine has read begins a plan; a form without a place is refused whatever follows it.
use Prim.Native.Nat.{ℕ, suc, ◌+◌, ◌-◌, ◌<◌, ◌≤◌}
use mathlib.Core.Bool.{true, false}
use mathlib.Core.List.{List, [], ◌∷◌, ◌++◌, append_assoc, append-nil}
use mathlib.Core.Logic.{◌⊎◌, inl, inr, ⊎_elim, ◌↔◌}
use mathlib.Core.Option.{Option, none, some, none-ne-some, some-injective}
use mathlib.Core.Path.{◌≡◌, refl, ap, sym, subst, ◌∙◌}
use native.Mathlib.Omega.{arith}
use lib.ListN.{length, take, drop, take-append-drop}
use lib.Seq.{take-take, take_all}
use Rattle.laws.proofs.Tests.{lt_or_le}
use Rattle.text.specs.declared.Form.{Form}
use Rattle.plan.specs.declared.Mode.{Mode}
use Rattle.plan.specs.declared.Mode.TheVariants.{Complete}
use Rattle.plan.specs.Structure.{unless_complete, misplaced, misplaced_form}
use Rattle.plan.specs.Places.{IsPlan, Begins, NoPlace, EndsEarly}
use Rattle.plan.specs.declared.Bracket.{Bracket}
use Rattle.plan.specs.declared.Bracket.TheVariants.{OfStatement as statement, OfOne as one, OfTwo as two}
use Rattle.plan.proofs.States.{State, initial, first-proc, next-proc, next-thread, finished, in_block, awaits_one, awaits_two, ends-either}
use Rattle.plan.proofs.States.{mode_of, stack_of, misplaced_from, after-step, step_or_refused}
use Rattle.plan.proofs.States.{Step, begins-plan, first, first-thread, ends-plan, skips}
use Rattle.plan.proofs.States.{begins-one, begins-two, ends-proc, ends-statement, ends-one, ends-two, ends-choice}
use Rattle.plan.proofs.Accepts.{Accepts, accepts_step}
use Rattle.plan.proofs.Denotes.{accepted-plan, plan-accepted}

-- forms that lead to acceptance
Completion : State → Type 0
Completion s = (fs : List Form) × Accepts s fs

via : {s t : State} {f : Form} → Step s f t → Completion t → Completion s
unfolding Completion
via {f} x c = (f ∷ c.0, accepts_step x c.0 c.1)

no_more : Completion finished
unfolding Completion misplaced mode_of
no_more = ([], λ number. refl)

a_thread : Completion next-proc
a_thread = via (first-thread {n = 0}) (via ends-plan no_more)

close : (ks : List Bracket) → Completion (in_block true ks)
close [] = via ends-proc a_thread
close (statement ∷ ks) = via ends-statement (close ks)
close (one ∷ ks) = via ends-one (via begins-two (via skips (via ends-two (via ends-choice (close ks)))))
close (two ∷ ks) = via ends-two (via ends-choice (close ks))

completion : (s : State) → Completion s
completion initial = via begins-plan (via first (via skips (close [])))
completion first-proc = via first (via skips (close []))
completion next-proc = a_thread
completion next-thread = via ends-plan no_more
completion finished = no_more
completion (in_block true ks) = close ks
completion (in_block false ks) = via skips (close ks)
completion (awaits_one ks) = via begins-one (via skips (close (one ∷ ks)))
completion (awaits_two ks) = via begins-two (via skips (close (two ∷ ks)))
completion (ends-either ks) = via ends-choice (close ks)

-- The machine refuses at number n: `place` forms before it can be completed, and with the next form nothing is accepted.
record Refuses (s : State) (number : ℕ) (fs : List Form) (n : ℕ) : Type 0 where
  place : ℕ
  at : n ≡ number + place
  within : place ≤ length fs
  rest : List Form
  completed : misplaced_from s number (take place fs ++ rest) ≡ none
  refused : place < length fs → (gs : List Form) → misplaced_from s number (take (suc place) fs ++ gs) ≡ some n

-- at the first of the forms, or behind them where there is none
refuses-here : (fs : List Form) (s : State) (number n : ℕ) → number ≡ n
    → (0 < length fs → (gs : List Form) → misplaced_from s number (take 1 fs ++ gs) ≡ some n) → Refuses s number fs n
unfolding Completion
refuses-here fs s number n e h =
    record { place = 0; at = omega arith; within = omega arith; rest = (completion s).0; completed = (completion s).1 number; refused = h }

refuses-later : {s t : State} {f : Form} → Step s f t → (fs : List Form) (number n : ℕ) → Refuses t (suc number) fs n → Refuses s number (f ∷ fs) n
refuses-later x fs number n r = record {
  place = suc r.place;
  at = omega (arith, r.at);
  within = omega (arith, r.within);
  rest = r.rest;
  completed = after-step x number (take r.place fs ++ r.rest) ∙ r.completed;
  refused = λ h gs. after-step x number (take (suc r.place) fs ++ gs) ∙ r.refused (omega arith) gs;
}

ended : (number n : ℕ) (m : Mode) → unless_complete m number ≡ some n → number ≡ n
ended number n Complete h = absurd (none-ne-some n h)
ended number n _ h = some-injective number n h

refuses : (fs : List Form) (s : State) (number n : ℕ) → misplaced_from s number fs ≡ some n → Refuses s number fs n
unfolding misplaced
refuses [] s number n h = refuses-here [] s number n (ended number n (mode_of s) h) (λ k. absurd (omega arith))
refuses (f ∷ fs) s number n h =
    ⊎_elim (λ (x : (t : State) × Step s f t). refuses-later x.1 fs number n (refuses fs x.0 (suc number) n (sym (after-step x.1 number fs) ∙ h)))
    (λ (no_place : (number : ℕ) (fs : List Form) → misplaced_from s number (f ∷ fs) ≡ some number).
    let e : number ≡ n = some-injective number n (sym (no_place number fs) ∙ h) in
    refuses-here (f ∷ fs) s number n e (λ k gs. no_place number gs ∙ ap {B = Option ℕ} some e))
    (step_or_refused s f)

-- what begins a plan does so up to each form
begins-take : (fs : List Form) (k : ℕ) → Begins fs → Begins (take k fs)
begins-take fs k (gs, x) = (drop k fs ++ gs, rw (← append_assoc (take k fs) (drop k fs) gs, take-append-drop k fs) x)

never-accepted : (fs : List Form) (n : ℕ) → misplaced_form fs ≡ some n → IsPlan fs → ⊥
never-accepted fs n h x = none-ne-some n (sym (plan-accepted fs x) ∙ h)

module _ (fs : List Form) (n : ℕ) (r : Refuses initial 1 fs n) where
  begun-there : Begins (take r.place fs)
  unfolding misplaced_form mode_of stack_of
  begun-there = (r.rest, accepted-plan (take r.place fs ++ r.rest) r.completed)

  no_place : r.place < length fs → NoPlace fs n
  unfolding misplaced_form mode_of stack_of
  no_place k =
      let here : n ≡ suc r.place = omega (arith, r.at) in
      let before-it : n - 1 ≡ r.place = omega arith in
      record {
        from_one = omega arith;
        present = omega arith;
        before = rw before-it begun-there;
        with_it = λ b. never-accepted (take (suc r.place) fs ++ b.0) n (r.refused k b.0) (subst (λ i. IsPlan (take i fs ++ b.0)) here b.1);
      }

  ends_early : misplaced_form fs ≡ some n → length fs ≤ r.place → EndsEarly fs n
  ends_early h k =
      record { number = omega (arith, r.at, r.within); begun = rw (take_all r.place fs k) at begun-there; incomplete = never-accepted fs n h }

named : (fs : List Form) (n : ℕ) → misplaced_form fs ≡ some n → NoPlace fs n ⊎ EndsEarly fs n
unfolding misplaced_form mode_of stack_of
named fs n h =
    let r = refuses fs initial 1 n h in
    ⊎_elim (λ k. inl (no_place fs n r k)) (λ k. inr (ends_early fs n r h k)) (lt_or_le r.place (length fs))

-- there is one such form
module _ (fs : List Form) where
  begins-before : (m n : ℕ) → m < n → Begins (take (n - 1) fs) → Begins (take m fs)
  begins-before m n h b = rw (take-take m (n - 1) fs (omega arith)) at (begins-take (take (n - 1) fs) m b)

  unique : (m n : ℕ) → NoPlace fs m ⊎ EndsEarly fs m → NoPlace fs n ⊎ EndsEarly fs n → m ≡ n
  unique m n (inl x) (inl y) =
      ⊎_elim (λ (h : m < n). absurd (x.with_it (begins-before m n h y.before)))
      (λ (h : n ≤ m). ⊎_elim (λ (k : n < m). absurd (y.with_it (begins-before n m k x.before))) (λ (k : m ≤ n). omega arith) (lt_or_le n m))
      (lt_or_le m n)
  unique m n (inl x) (inr y) = absurd (x.with_it (begins-take fs m y.begun))
  unique m n (inr x) (inl y) = absurd (y.with_it (begins-take fs n x.begun))
  unique m n (inr x) (inr y) = x.number ∙ sym y.number

  not_a_plan : (n : ℕ) → NoPlace fs n ⊎ EndsEarly fs n → IsPlan fs → ⊥
  not_a_plan n (inl x) p = x.with_it (begins-take fs n ([], rw append-nil p))
  not_a_plan n (inr x) p = x.incomplete p

  first-named : (n : ℕ) → NoPlace fs n ⊎ EndsEarly fs n → (o : Option ℕ) → misplaced_form fs ≡ o → o ≡ some n
  first-named n x none e = absurd (not_a_plan n x (accepted-plan fs e))
  first-named n x (some m) e = ap {B = Option ℕ} some (unique m n (named fs m e) x)

pub structure_first : (fs : List Form) (n : ℕ) → (misplaced_form fs ≡ some n) ↔ (NoPlace fs n ⊎ EndsEarly fs n)
structure_first fs n = (named fs n, λ x. first-named fs n x (misplaced_form fs) refl)
