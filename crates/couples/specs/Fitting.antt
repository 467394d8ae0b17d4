-- Couples in lent buffers: "the lent buffer, of any length, takes the first ones that fit whole .. and keeps its remainder" (02, change 7), six words each (change 9). Said once
-- for a buffer of words and one of bytes: a couple fills `size` cells of it.
use Rattle.std.specs.Prelude.{ℕ, ◌+◌, ◌*◌, ◌/◌, cond, ◌≡◌, ltb, length, take, drop}
use mathlib.Core.List.{List, [], ◌∷◌, ◌++◌, flat_map}
use Rattle.laws.specs.Wrote.{filled}
use Rattle.semantics.specs.Pairs.{pair_words}
use Rattle.buffers.specs.LittleEndian.{list_bytes}
use Rattle.couples.specs.Couples.{Couple}

-- "a crossing couple six": the three words of each pair
abbrev pub as_words : Couple → List ℕ
as_words c = pair_words c.first ++ pair_words c.second

-- for C each word as eight bytes, "lowest byte first" (01)
abbrev pub as_bytes : Couple → List ℕ
as_bytes c = list_bytes 8 (as_words c)

-- "the first ones that fit whole" into so many cells, where each fills `size`
abbrev pub fitting : ℕ → (Couple → List ℕ) → ℕ → List Couple → List ℕ
fitting size cells lent cs = flat_map cells (take (lent / size) cs)

-- of a buffer of words, and of one of bytes
abbrev pub fitting_words : ℕ → List Couple → List ℕ
fitting_words lent cs = fitting 6 as_words lent cs

abbrev pub fitting_bytes : ℕ → List Couple → List ℕ
fitting_bytes lent cs = fitting 48 as_bytes lent cs

-- "The count is of all couples": how many, and what the two buffers hold then
pub record CouplesFound (cs : List Couple) (words words' bytes bytes' : List ℕ) (r : ℕ) : Type 0 where
  pub count : r ≡ length cs
  pub in_words : words' ≡ filled (fitting_words (length words) cs) words
  pub in_bytes : bytes' ≡ filled (fitting_bytes (length bytes) cs) bytes

-- ---- one couple after another

-- a couple into place n, where it fits whole
unfoldable pub put_at : ℕ → (Couple → List ℕ) → List ℕ → ℕ → Couple → List ℕ
put_at size cells out n c = cond (ltb n (length out / size)) (take (size * n) out ++ cells c ++ drop (size * n + size) out) out

-- couples into the places from n on
unfoldable pub put_from : ℕ → (Couple → List ℕ) → List ℕ → ℕ → List Couple → List ℕ
put_from size cells out n [] = out
put_from size cells out n (c ∷ cs) = put_from size cells (put_at size cells out n c) (n + 1) cs

-- couples behind n others: how many there are then, and what the two buffers hold then
pub record CouplesPut (cs : List Couple) (n : ℕ) (words words' bytes bytes' : List ℕ) (r : ℕ) : Type 0 where
  pub count : r ≡ n + length cs
  pub in_words : words' ≡ put_from 6 as_words words n cs
  pub in_bytes : bytes' ≡ put_from 48 as_bytes bytes n cs
