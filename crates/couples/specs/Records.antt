-- Pairs in a list of words, as the pair list has them, "three 64-bit words: held set, shared set, wanted lock times 2 plus 1 for a hold" (02, change 9), read back. Of a set the 32
-- lowest digits count, of the third word the 6 lowest: the words of a pair have no others (theorem `from_words`).
use Rattle.std.specs.Prelude.{ℕ, ◌+◌, ◌*◌, ◌%◌, List, [], ◌∷◌, get_or}
use Rattle.limits.specs.Limits.{mask_size}
use Rattle.columns.specs.Columns.{pair_number}
pub use Rattle.columns.specs.Columns.{pair_in}

-- the claims of a held set and a shared set
unfoldable pub claims_from : ℕ → ℕ → ℕ
claims_from h s = h % mask_size * mask_size + s % mask_size

-- the pair of three words
abbrev pub pair_of_words : List ℕ → ℕ
pair_of_words ws = pair_number (claims_from (get_or ws 0 0) (get_or ws 1 0)) (get_or ws 2 0)

-- the pairs of a list of words, three words each; one or two at the end are no pair
unfoldable pub pairs_from : List ℕ → List ℕ
pairs_from [] = []
pairs_from (h ∷ []) = []
pairs_from (h ∷ s ∷ []) = []
pairs_from (h ∷ s ∷ x ∷ ws) = pair_number (claims_from h s) x ∷ pairs_from ws
