-- Numbers as bytes, lowest first, for any width. 01, "Pairs, verdict, schedule": "bytes, each entry or word lowest byte first".
use Rattle.std.specs.Prelude.{ℕ, zero, suc, ◌/◌, ◌%◌, List, [], ◌∷◌, ◌++◌}

-- x as so many bytes
unfoldable pub number_bytes : ℕ → ℕ → List ℕ
number_bytes zero x = []
number_bytes (suc w) x = x % 256 ∷ number_bytes w (x / 256)

-- each number of a list
unfoldable pub list_bytes : ℕ → List ℕ → List ℕ
list_bytes w [] = []
list_bytes w (x ∷ xs) = number_bytes w x ++ list_bytes w xs
