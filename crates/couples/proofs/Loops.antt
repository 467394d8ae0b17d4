-- A couple put into its place, and the loops over the pairs of a list and of two lists, in the shape of the functions' needs. What a loop keeps is
-- `Onward`: the couples that are left, put from here on, leave what all of them leave, put from the start.
use Prim.Native.Nat.{ℕ, ◌+◌, ◌-◌, ◌*◌, ◌/◌, ◌<◌, ◌≤◌}
use native.Mathlib.Numerals.{add-one}
use native.Mathlib.Omega.{arith}
use mathlib.Core.Bool.{Bool, true, false}
use mathlib.Core.List.{List, [], ◌∷◌, ◌++◌, flat_map}
use mathlib.Core.Path.{◌≡◌, refl, sym, ◌∙◌}
use lib.ListN.{length, take, drop, get_or, length-append, drop_of_length-le}
use lib.Seq.{drop-cons}
use Rattle.laws.specs.Wrote.{Wrote}
use Rattle.laws.proofs.Wrote.{part-wrote}
use Rattle.buffers.specs.LittleEndian.{list_bytes}
use Rattle.buffers.proofs.LittleEndian.{part-put}
use Rattle.semantics.specs.Pairs.{pair_words}
use Rattle.couples.specs.Couples.{Couple, couple, crosses, couples_with, couples_of}
use Rattle.couples.specs.Fitting.{as_words, as_bytes, put_at, put_from, CouplesPut, CouplesFound}
use Rattle.std.specs.Simd.{first_chunks}
use Rattle.couples.specs.Records.{pair_of_words, pairs_from}
use borrow.Rule.Slice.PartMut.{put_mid}
use Rattle.couples.proofs.Records.{chunks-length, chunk_pair}
use Rattle.couples.proofs.Putting.{words_sized, bytes-sized, put-fits, put_full, put-filled, put_append}

-- ---- a couple into its place

-- in a buffer of words
pub words_put : (out part a b : List ℕ) (n v w : ℕ) → n < length out / 6 → a ≡ pair_words v → b ≡ pair_words w → part ≡ a ++ (b ++ [])
    → put_mid (6 * n) (6 * n + 6 - 6 * n) out part ≡ put_at 6 as_words out n (couple v w)
words_put out part a b n v w h p q e =
    let size : 6 * n + 6 - 6 * n ≡ 6 = omega arith in
    let z : part ≡ as_words (couple v w) = rw (e, p, q) in
    rw (size, z) (put-fits words_sized out _ n (couple v w) h (part-put out (as_words (couple v w)) (6 * n) 6 refl (omega arith)))

pub words_full : (out : List ℕ) (n v w : ℕ) → length out / 6 ≤ n → out ≡ put_at 6 as_words out n (couple v w)
words_full out n v w h = put_full words_sized out n (couple v w) h

-- in the part of a buffer of bytes from the place on
pub bytes_put : (out part pairs a b : List ℕ) (n v w : ℕ) → n < length out / 48 → a ≡ pair_words v → b ≡ pair_words w → pairs ≡ a ++ (b ++ [])
    → Wrote (take (length out - 48 * n) (drop (48 * n) out)) part 0 (length pairs * 8) (list_bytes 8 pairs)
    → put_mid (48 * n) (length out - 48 * n) out part ≡ put_at 48 as_bytes out n (couple v w)
bytes_put out part pairs a b n v w h p q e wrote =
    let z : pairs ≡ as_words (couple v w) = rw (e, p, q) in
    put-fits bytes-sized out _ n (couple v w) h (part-wrote out (48 * n) 48 part (as_bytes (couple v w)) (omega arith) (rw z at wrote))

pub bytes_full : (out : List ℕ) (n v w : ℕ) → length out / 48 ≤ n → out ≡ put_at 48 as_bytes out n (couple v w)
bytes_full out n v w h = put_full bytes-sized out n (couple v w) h

-- ---- onward

-- the couples `rest`, put behind `count` others, leave what `all`, put behind n, leave
pub record Onward (all : List Couple) (n : ℕ) (words₀ bytes₀ : List ℕ) (rest : List Couple) (count : ℕ) (words bytes : List ℕ) : Type 0 where
  pub counted : count + length rest ≡ n + length all
  pub in_words : put_from 6 as_words words count rest ≡ put_from 6 as_words words₀ n all
  pub in_bytes : put_from 48 as_bytes bytes count rest ≡ put_from 48 as_bytes bytes₀ n all

module _ {all : List Couple} {n : ℕ} {words₀ bytes₀ : List ℕ} {count : ℕ} {words bytes : List ℕ} where
  onward-one : (c : Couple) (rest : List Couple) → Onward all n words₀ bytes₀ (c ∷ rest) count words bytes
      → Onward all n words₀ bytes₀ rest (count + 1) (put_at 6 as_words words count c) (put_at 48 as_bytes bytes count c)
  unfolding put_from
  onward-one c rest o = record { counted = omega (arith, o.counted); in_words = o.in_words; in_bytes = o.in_bytes }

  onward-more : (cs rest : List Couple) (words' bytes' : List ℕ) (r : ℕ) → Onward all n words₀ bytes₀ (cs ++ rest) count words bytes
      → CouplesPut cs count words words' bytes bytes' r → Onward all n words₀ bytes₀ rest r words' bytes'
  onward-more cs rest words' bytes' r o p = record {
    counted = omega (arith, o.counted, length-append cs rest, p.count);
    in_words = rw (p.in_words, p.count) (sym (put_append words_sized cs rest words count) ∙ o.in_words);
    in_bytes = rw (p.in_bytes, p.count) (sym (put_append bytes-sized cs rest bytes count) ∙ o.in_bytes);
  }

  onward-done : Onward all n words₀ bytes₀ [] count words bytes → CouplesPut all n words₀ words bytes₀ bytes count
  unfolding put_from
  onward-done o = record { count = omega (arith, o.counted); in_words = o.in_words; in_bytes = o.in_bytes }

-- ---- the loops, over the pairs of a list read three words at a time

module _ (list : List ℕ) (chunks : List (List ℕ)) (front : chunks ≡ first_chunks 3 (length list / 3) list) (words₀ bytes₀ : List ℕ) (j count : ℕ) (words bytes : List ℕ) where
  module _ (w : ℕ) (d : List ℕ) (h : j < length chunks) (is : w ≡ pair_of_words (get_or chunks j d)) where
    next : drop j (pairs_from list) ≡ w ∷ drop (j + 1) (pairs_from list)
    next = rw (drop-cons (pairs_from list) j 0 (omega (arith, chunks-length list chunks front)), ← chunk_pair list chunks front j d h, is, add-one)

    -- with one pair
    module _ (v n : ℕ) (b : Bool) (e : b ≡ crosses v w)
        (o : Onward (couples_with v (pairs_from list)) n words₀ bytes₀ (couples_with v (drop j (pairs_from list))) count words bytes) where
      pub with_crossing : (words' bytes' : List ℕ) → b ≡ true → words' ≡ put_at 6 as_words words count (couple v w) → bytes' ≡ put_at 48 as_bytes bytes count (couple v w)
          → Onward (couples_with v (pairs_from list)) n words₀ bytes₀ (couples_with v (drop (j + 1) (pairs_from list))) (count + 1) words' bytes'
      unfolding couples_with
      with_crossing words' bytes' z p q = rw (p, q) (onward-one (couple v w) (couples_with v (drop (j + 1) (pairs_from list))) (rw (next, ← e, z) at o))

      pub with_other : b ≡ false → Onward (couples_with v (pairs_from list)) n words₀ bytes₀ (couples_with v (drop (j + 1) (pairs_from list))) count words bytes
      unfolding couples_with
      with_other z = rw (next, ← e, z) at o

    -- with each of another list
    pub of_more : (second : List ℕ) (words' bytes' : List ℕ) (r : ℕ) → CouplesPut (couples_with w second) count words words' bytes bytes' r
        → Onward (couples_of (pairs_from list) second) 0 words₀ bytes₀ (couples_of (drop j (pairs_from list)) second) count words bytes
        → Onward (couples_of (pairs_from list) second) 0 words₀ bytes₀ (couples_of (drop (j + 1) (pairs_from list)) second) r words' bytes'
    unfolding flat_map
    of_more second words' bytes' r p o = onward-more (couples_with w second) (couples_of (drop (j + 1) (pairs_from list)) second) words' bytes' r (rw next at o) p

  none-left : length chunks ≤ j → drop j (pairs_from list) ≡ []
  none-left h = drop_of_length-le (pairs_from list) (omega (arith, chunks-length list chunks front))

  pub with_done : (v n : ℕ) → length chunks ≤ j → Onward (couples_with v (pairs_from list)) n words₀ bytes₀ (couples_with v (drop j (pairs_from list))) count words bytes
      → CouplesPut (couples_with v (pairs_from list)) n words₀ words bytes₀ bytes count
  unfolding couples_with
  with_done v n h o = onward-done (rw (none-left h) at o)

  pub of_done : (second : List ℕ) → length chunks ≤ j → Onward (couples_of (pairs_from list) second) 0 words₀ bytes₀ (couples_of (drop j (pairs_from list)) second) count words bytes
      → CouplesFound (couples_of (pairs_from list) second) words₀ words bytes₀ bytes count
  unfolding flat_map
  of_done second h o =
      let p = onward-done (rw (none-left h) at o) in
      record {
        count = omega (arith, p.count);
        in_words = p.in_words ∙ put-filled words_sized words₀ (couples_of (pairs_from list) second);
        in_bytes = p.in_bytes ∙ put-filled bytes-sized bytes₀ (couples_of (pairs_from list) second);
      }
