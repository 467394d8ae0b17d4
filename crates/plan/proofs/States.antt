-- The machine's states that its start leads to, and its steps as a relation: a proof about the machine has one clause for each kind of step.
use Prim.Native.Nat.{ℕ, suc}
use mathlib.Core.Bool.{Bool, true, false}
use mathlib.Core.List.{List, [], ◌∷◌}
use mathlib.Core.Logic.{◌⊎◌, inl, inr}
use mathlib.Core.Option.{Option, some}
use mathlib.Core.Path.{◌≡◌, refl}
use Rattle.std.specs.Prelude.{None}
use Rattle.std.specs.Prelude as std
use Rattle.text.specs.declared.Form.{Form}
use Rattle.text.specs.declared.Form.TheVariants.{Plan, Proc, Thread, Close, Skip, Call, Hold, Loop, Either, One, Two, Share}
use Rattle.plan.specs.declared.Mode.{Mode}
use Rattle.plan.specs.declared.Mode.TheVariants.{AtStart, FirstProc, NextProc, NextThread, Complete, FirstStatement, NextStatement, NeedsOne, NeedsTwo, EndsEither}
use Rattle.plan.specs.declared.Bracket.{Bracket}
use Rattle.plan.specs.declared.Bracket.TheVariants.{OfStatement as statement, OfOne as one, OfTwo as two}
use Rattle.plan.specs.declared.Advance.{Advance}
use Rattle.plan.specs.Structure.{innermost, close_block, advance_of, go_on, misplaced}
use Rattle.plan.specs.Grammar.{claim_form}
use Rattle.plan.proofs.ClaimForms.{by_claim}

-- The states, with the brackets that are open in the procedure. `in_block empty`: within a block, which may end there where `empty` is true.
pub data State : Type 0 where
  initial first-proc next-proc next-thread finished : State
  in_block : Bool → List Bracket → State
  awaits_one awaits_two ends-either : List Bracket → State

unfoldable pub mode_of : State → Mode
mode_of initial = AtStart
mode_of first-proc = FirstProc
mode_of next-proc = NextProc
mode_of next-thread = NextThread
mode_of finished = Complete
mode_of (in_block false ks) = FirstStatement
mode_of (in_block true ks) = NextStatement
mode_of (awaits_one ks) = NeedsOne
mode_of (awaits_two ks) = NeedsTwo
mode_of (ends-either ks) = EndsEither

unfoldable pub stack_of : State → List Bracket
stack_of initial = []
stack_of first-proc = []
stack_of next-proc = []
stack_of next-thread = []
stack_of finished = []
stack_of (in_block e ks) = ks
stack_of (awaits_one ks) = ks
stack_of (awaits_two ks) = ks
stack_of (ends-either ks) = ks

-- rule 4 for the forms from a number on, in a state
abbrev pub misplaced_from : State → ℕ → List Form → Option ℕ
misplaced_from s number fs = misplaced (mode_of s) (stack_of s) number fs

-- the steps
pub data Step : State → Form → State → Type 0 where
  begins-plan : Step initial Plan first-proc
  first : Step first-proc Proc (in_block false [])
  next : Step next-proc Proc (in_block false [])
  first-thread : {n : ℕ} → Step next-proc (Thread n) next-thread
  more-threads : {n : ℕ} → Step next-thread (Thread n) next-thread
  ends-plan : Step next-thread Close finished
  skips : {e : Bool} {ks : List Bracket} → Step (in_block e ks) Skip (in_block true ks)
  calls : {e : Bool} {ks : List Bracket} {n : ℕ} → Step (in_block e ks) (Call n) (in_block true ks)
  holds : {e : Bool} {ks : List Bracket} {l : ℕ} → Step (in_block e ks) (Hold l) (in_block false (statement ∷ ks))
  shares : {e : Bool} {ks : List Bracket} {l : ℕ} → Step (in_block e ks) (Share l) (in_block false (statement ∷ ks))
  loops : {e : Bool} {ks : List Bracket} → Step (in_block e ks) Loop (in_block false (statement ∷ ks))
  chooses : {e : Bool} {ks : List Bracket} → Step (in_block e ks) Either (awaits_one ks)
  begins-one : {ks : List Bracket} → Step (awaits_one ks) One (in_block false (one ∷ ks))
  begins-two : {ks : List Bracket} → Step (awaits_two ks) Two (in_block false (two ∷ ks))
  ends-proc : Step (in_block true []) Close next-proc
  ends-statement : {ks : List Bracket} → Step (in_block true (statement ∷ ks)) Close (in_block true ks)
  ends-one : {ks : List Bracket} → Step (in_block true (one ∷ ks)) Close (awaits_two ks)
  ends-two : {ks : List Bracket} → Step (in_block true (two ∷ ks)) Close (ends-either ks)
  ends-choice : {ks : List Bracket} → Step (ends-either ks) Close (in_block true ks)

-- the form of a claim
pub takes : {e : Bool} {ks : List Bracket} (a : ℕ) → Step (in_block e ks) (claim_form a) (in_block false (statement ∷ ks))
takes {e} {ks} a = by_claim (λ f. Step (in_block e ks) f (in_block false (statement ∷ ks))) a holds shares

pub after-step : {s t : State} {f : Form} → Step s f t → (number : ℕ) (fs : List Form) → misplaced_from s number (f ∷ fs) ≡ misplaced_from t (suc number) fs
unfolding misplaced mode_of stack_of advance_of close_block
after-step begins-plan number fs = refl
after-step first number fs = refl
after-step next number fs = refl
after-step first-thread number fs = refl
after-step more-threads number fs = refl
after-step ends-plan number fs = refl
after-step (skips {e = true}) number fs = refl
after-step (skips {e = false}) number fs = refl
after-step (calls {e = true}) number fs = refl
after-step (calls {e = false}) number fs = refl
after-step (holds {e = true}) number fs = refl
after-step (holds {e = false}) number fs = refl
after-step (shares {e = true}) number fs = refl
after-step (shares {e = false}) number fs = refl
after-step (loops {e = true}) number fs = refl
after-step (loops {e = false}) number fs = refl
after-step (chooses {e = true}) number fs = refl
after-step (chooses {e = false}) number fs = refl
after-step begins-one number fs = refl
after-step begins-two number fs = refl
after-step ends-proc number fs = refl
after-step ends-statement number fs = refl
after-step ends-one number fs = refl
after-step ends-two number fs = refl
after-step ends-choice number fs = refl

-- a form has its step, or no place
data Outcome (s : State) (f : Form) : std.Option Advance → Type 0 where
  refused : Outcome s f None
  steps : {t : State} {a : std.Option Advance} → Step s f t → Outcome s f a

abbrev Place : State → Form → Type 0
Place s f = Outcome s f (advance_of (mode_of s) (innermost (stack_of s)) f)

place : (s : State) (f : Form) → Place s f
unfolding mode_of stack_of advance_of
place initial Plan = steps begins-plan
place first-proc Proc = steps first
place next-proc Proc = steps next
place next-proc (Thread n) = steps first-thread
place next-thread (Thread n) = steps more-threads
place next-thread Close = steps ends-plan
place (in_block true []) Close = steps ends-proc
place (in_block true (statement ∷ ks)) Close = steps ends-statement
place (in_block true (one ∷ ks)) Close = steps ends-one
place (in_block true (two ∷ ks)) Close = steps ends-two
place (in_block e ks) Skip = steps skips
place (in_block e ks) (Call n) = steps calls
place (in_block e ks) (Hold l) = steps holds
place (in_block e ks) (Share l) = steps shares
place (in_block e ks) Loop = steps loops
place (in_block e ks) Either = steps chooses
place (awaits_one ks) One = steps begins-one
place (awaits_two ks) Two = steps begins-two
place (ends-either ks) Close = steps ends-choice
place _ _ = refused

pub step_or_refused : (s : State) (f : Form) → ((t : State) × Step s f t) ⊎ ((number : ℕ) (fs : List Form) → misplaced_from s number (f ∷ fs) ≡ some number)
unfolding misplaced
step_or_refused s f = go (place s f)
  where
    go : {a : std.Option Advance} → Outcome s f a
        → ((t : State) × Step s f t)
        ⊎ ((number : ℕ) (fs : List Form) → go_on a (stack_of s) number (λ mode stack. misplaced mode stack (suc number) fs) ≡ some number)
    go refused = inr (λ number fs. refl)
    go (steps {t} x) = inl (t, x)
