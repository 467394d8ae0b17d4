-- Lists that ascend without repeats.
use Rattle.std.specs.Prelude.{ℕ, ◌<◌, cond, ltb, eqb}
use mathlib.Core.List.{List, [], ◌∷◌, Memᴰ}

-- w put into its place in an ascending list, unless it is there
unfoldable pub insert_once : ℕ → List ℕ → List ℕ
insert_once w [] = w ∷ []
insert_once w (x ∷ xs) = cond (ltb w x) (w ∷ (x ∷ xs)) (cond (eqb w x) (x ∷ xs) (x ∷ insert_once w xs))

-- the numbers of ws in ascending order, each once
unfoldable pub ascending : List ℕ → List ℕ
ascending [] = []
ascending (w ∷ ws) = insert_once w (ascending ws)

-- each number is below all that follow it
unfoldable pub Ascends : List ℕ → Type 0
Ascends [] = Unit {0}
Ascends (x ∷ xs) = ((y : ℕ) → Memᴰ y xs → x < y) × Ascends xs
