-- The executions of one thread by itself: as a list of choices (`exec`), and as the states after 0, 1, 2 .. of them (`Execution`).
use Rattle.std.specs.Prelude.{ℕ, zero, suc, ◌<◌, List, [], ◌∷◌, ◌≡◌, length, get_or}
use Rattle.std.proofs.Math.Option
use Rattle.std.proofs.Math.Option.{Option, some, bind}
use Rattle.semantics.specs.Plan.{Block}
use Rattle.semantics.specs.Run.{ThreadState, move}

-- where the choices lead, if each is offered
unfoldable pub exec : List Block → ThreadState → List ℕ → Option ThreadState
exec ps x [] = some x
exec ps x (c ∷ cs) = bind (move ps c x.rest x.count) (λ y. exec ps y cs)

-- an execution from x under the choices cs: s j is the thread after j steps, "the jth configuration in the execution" (source 000, proof of Lemma 4.3)
pub record Execution (ps : List Block) (x : ThreadState) (cs : List ℕ) (s : ℕ → ThreadState) : Type 0 where
  pub first : s 0 ≡ x
  pub steps : (j : ℕ) → j < length cs → move ps (get_or cs j 0) (s j).rest (s j).count ≡ some (s (suc j))

-- the thread after choice c: one that is not offered changes nothing
unfoldable pub move_or_stay : List Block → ℕ → ThreadState → ThreadState
move_or_stay ps c x = Option.get_or (move ps c x.rest x.count) x

-- the thread after the first j of the choices cs
unfoldable pub state_after : List Block → ThreadState → List ℕ → ℕ → ThreadState
state_after ps x cs zero = x
state_after ps x [] (suc j) = x
state_after ps x (c ∷ cs) (suc j) = state_after ps (move_or_stay ps c x) cs j
