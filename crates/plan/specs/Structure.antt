-- Rule 4: where a form may stand. A machine reads the forms with a mode, which says what may stand next, and a stack of the brackets that are open within the
-- procedure. An either's own bracket needs no entry on the stack: its two blocks have theirs, and behind the second the mode alone asks for the either's end.
-- The machine accepts exactly the forms of grammatical plans (theorem `structure_plan`), and otherwise names the first form with which no plan begins, or one
-- more than the last (theorem `structure_first`); forms are numbered from 1. 01, "The plan text" and rule 4. The modes and the brackets are the code's, `Mode` and `Bracket`
-- (src/lib.rt), where each mode has what may stand next beside it.
use Rattle.std.specs.Prelude.{ℕ, zero, suc, get_or, Some, None}
use Rattle.std.specs.Prelude as std
use mathlib.Core.List.{List, [], ◌∷◌, tail}
use Rattle.std.proofs.Math.Option.{Option, none, some}
use Rattle.text.specs.declared.Form.{Form}
use Rattle.text.specs.declared.Form.TheVariants.{Plan, Proc, Thread, Close, Skip, Call, Hold, Loop, Either, One, Two, Share}
use Rattle.plan.specs.declared.Mode.{Mode}
use Rattle.plan.specs.declared.Mode.TheVariants.{AtStart, FirstProc, NextProc, NextThread, Complete, FirstStatement, NextStatement, NeedsOne, NeedsTwo, EndsEither}
use Rattle.plan.specs.declared.Bracket.{Bracket}
use Rattle.plan.specs.declared.Bracket.TheVariants.{OfStatement, OfOne, OfTwo}
use Rattle.plan.specs.declared.Advance.{Advance}
use Rattle.plan.specs.declared.Advance.TheVariants.{Stay, Push, Pop}

-- a stack that is kept in a buffer, from its top at a depth down
unfoldable pub stack_of : List Bracket → ℕ → List Bracket
stack_of buffer zero = []
stack_of buffer (suc d) = get_or buffer d OfStatement ∷ stack_of buffer d

-- the innermost open bracket
abbrev pub innermost : List Bracket → std.Option Bracket
innermost [] = None
innermost (k ∷ ks) = Some k

-- the end of a block, by the bracket that it closes
unfoldable pub close_block : std.Option Bracket → Advance
close_block (Some OfStatement) = Pop NextStatement
close_block (Some OfOne) = Pop NeedsTwo
close_block (Some OfTwo) = Pop EndsEither
close_block None = Stay NextProc

-- what a form does in a mode with the innermost open bracket, where it may stand in that mode. A statement stands where a block begins or goes on
unfoldable pub advance_of : Mode → std.Option Bracket → Form → std.Option Advance
advance_of AtStart top Plan = Some (Stay FirstProc)
advance_of FirstProc top Proc = Some (Stay FirstStatement)
advance_of NextProc top Proc = Some (Stay FirstStatement)
advance_of NextProc top (Thread n) = Some (Stay NextThread)
advance_of NextThread top (Thread n) = Some (Stay NextThread)
advance_of NextThread top Close = Some (Stay Complete)
advance_of NextStatement top Close = Some (close_block top)
advance_of EndsEither top Close = Some (Stay NextStatement)
advance_of FirstStatement top Skip = Some (Stay NextStatement)
advance_of NextStatement top Skip = Some (Stay NextStatement)
advance_of FirstStatement top (Call n) = Some (Stay NextStatement)
advance_of NextStatement top (Call n) = Some (Stay NextStatement)
advance_of FirstStatement top (Hold l) = Some (Push OfStatement)
advance_of NextStatement top (Hold l) = Some (Push OfStatement)
advance_of FirstStatement top (Share l) = Some (Push OfStatement)
advance_of NextStatement top (Share l) = Some (Push OfStatement)
advance_of FirstStatement top Loop = Some (Push OfStatement)
advance_of NextStatement top Loop = Some (Push OfStatement)
advance_of FirstStatement top Either = Some (Stay NeedsOne)
advance_of NextStatement top Either = Some (Stay NeedsOne)
advance_of NeedsOne top One = Some (Push OfOne)
advance_of NeedsTwo top Two = Some (Push OfTwo)
advance_of _ _ _ = None

-- the machine after a step, or the number of a form without a place
abbrev pub go_on : std.Option Advance → List Bracket → ℕ → (Mode → List Bracket → Option ℕ) → Option ℕ
go_on (Some (Stay mode)) stack n k = k mode stack
go_on (Some (Push bracket)) stack n k = k FirstStatement (bracket ∷ stack)
go_on (Some (Pop mode)) stack n k = k mode (tail stack)
go_on None stack n k = some n

-- the number behind the last form, where something may stand yet
abbrev pub unless_complete : Mode → ℕ → Option ℕ
unless_complete Complete n = none
unless_complete _ n = some n

-- "A line stands where the text's structure has no place for it (first such line), or the text ends too early (one more than the last line)": in a mode, with a
-- stack of open brackets, for the forms from number n on; `line_of` gives the line of the form that is named, or of the number behind the last
unfoldable pub misplaced : Mode → List Bracket → ℕ → List Form → Option ℕ
misplaced mode stack n [] = unless_complete mode n
misplaced mode stack n (f ∷ fs) = go_on (advance_of mode (innermost stack) f) stack n (λ mode' stack'. misplaced mode' stack' (suc n) fs)

-- rule 4
unfoldable pub misplaced_form : List Form → Option ℕ
misplaced_form fs = misplaced AtStart [] 1 fs
