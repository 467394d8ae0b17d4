-- A plan's forms as the machine of rule 4 reads them: behind each form it stands in a state that goes with the forms read and their counts (`reached`).
use Prim.Native.Nat.{ℕ, suc}
use mathlib.Core.List.{List, [], ◌∷◌, ◌++◌, append-nil}
use mathlib.Core.Logic.{⊎_elim}
use mathlib.Core.Option.{none, some, some-ne-none}
use mathlib.Core.Path.{◌≡◌, refl, sym, subst, ◌∙◌}
use lib.Seq.{append_snoc}
use Rattle.text.specs.declared.Form.{Form}
use Rattle.plan.specs.declared.Counts.{Counts}
use Rattle.plan.specs.Limits.{counted, count_if}
use Rattle.plan.specs.Structure.{misplaced_form}
use Rattle.plan.proofs.States.{State, initial, Step, mode_of, stack_of, misplaced_from, after-step, step_or_refused}
use Rattle.demands.proofs.Counting.{Counted, counted-more, counts_of, counts_snoc}
use Rattle.demands.proofs.Depth.{Open, open_step}

-- the state s goes with the forms read and their counts
pub record Along (s : State) (fs : List Form) (c : Counts) : Type 0 where
  pub counts : Counted fs c
  pub brackets : Open s fs c.depth

along_step : {s t : State} {f : Form} → Step s f t → (fs : List Form) (c : Counts) → Along s fs c → Along t (fs ++ f ∷ []) (counted c f)
along_step {f} x fs c a = record { counts = counted-more fs f c a.counts; brackets = open_step x fs c a.brackets }

-- some state does
abbrev pub Reached : List Form → Type 0
Reached fs = (s : State) × Along s fs (counts_of fs)

-- behind the forms mid, more of which follow
reached-from : (later mid before : List Form) (s : State) (number : ℕ) → Along s before (counts_of before) → misplaced_from s number (mid ++ later) ≡ none
    → Reached (before ++ mid)
reached-from later [] before s number a h = rw append-nil (s, a)
reached-from later (f ∷ mid) before s number a h =
    let rest = mid ++ later in
    ⊎_elim (λ (x : (t : State) × Step s f t).
    let a' : Along x.0 (before ++ f ∷ []) (counts_of (before ++ f ∷ [])) = rw counts_snoc (along_step x.1 before (counts_of before) a) in
    subst Reached (append_snoc before f mid) (reached-from later mid (before ++ f ∷ []) x.0 (suc number) a' (sym (after-step x.1 number rest) ∙ h)))
    (λ (no_place : (number : ℕ) (fs : List Form) → misplaced_from s number (f ∷ fs) ≡ some number). absurd (some-ne-none number (sym (no_place number rest) ∙ h)))
    (step_or_refused s f)

at-start : Along initial [] (counts_of [])
unfolding counts_of Open count_if
at-start = record { counts = record { procs = refl; statements = refl; threads = refl }; brackets = record { none-begun = refl; depth = refl } }

pub reached : (fs : List Form) → misplaced_form fs ≡ none → (read later : List Form) → fs ≡ read ++ later → Reached read
unfolding misplaced_form mode_of stack_of
reached fs h read later e = reached-from later read [] initial 1 at-start (rw e at h)
