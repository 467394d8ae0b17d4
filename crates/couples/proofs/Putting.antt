-- Couples put one after another into their places: the first ones that fit whole are there then, and the rest is as it was (`put-filled`), for words and for bytes.
use Prim.Native.Nat.{ℕ, suc, ◌+◌, ◌-◌, ◌*◌, ◌/◌, ◌<◌, ◌≤◌}
use native.Mathlib.Nat.{mul-zero, mul-suc}
use native.Mathlib.Numerals.{add-one}
use native.Mathlib.Omega.{arith}
use mathlib.Core.Path.{◌≡◌, refl, sym, ap, ◌∙◌}
use mathlib.Core.List.{List, [], ◌∷◌, ◌++◌, append-nil, append_assoc, flat_map}
use mathlib.Core.Logic.{⊎_elim}
use borrow.Author.Tests.{lt-ltb, le-ltb}
use lib.ListN.{length, take}
use lib.Seq.{take-nil}
use Rattle.laws.specs.Wrote.{Wrote, filled}
use Rattle.laws.proofs.Tests.{lt_or_le}
use Rattle.laws.proofs.Wrote.{wrote_none, wrote-more, wrote-length, wrote-filled}
use Rattle.buffers.specs.LittleEndian.{number_bytes, list_bytes}
use Rattle.couples.specs.Couples.{Couple}
use Rattle.couples.specs.Fitting.{as_words, as_bytes, fitting, put_at, put_from}

-- each couple fills `size` cells, and so many behind those of n others are within a buffer that has room for more than n
pub record Sized (size : ℕ) (cells : Couple → List ℕ) : Type 0 where
  pub each : (c : Couple) → length (cells c) ≡ size
  pub room : (n l : ℕ) → n < l / size → size * n + size ≤ l

pub words_sized : Sized 6 as_words
words_sized = record { each = λ c. refl; room = λ n l h. omega arith }

pub bytes-sized : Sized 48 as_bytes
unfolding list_bytes number_bytes
bytes-sized = record { each = λ c. refl; room = λ n l h. omega arith }

module _ {size : ℕ} {cells : Couple → List ℕ} (s : Sized size cells) where
  -- a couple that fits is written at its place
  pub put-fits : (out out' : List ℕ) (n : ℕ) (c : Couple) → n < length out / size → Wrote out out' (size * n) (size * n + size) (cells c) → out' ≡ put_at size cells out n c
  unfolding put_at
  put-fits out out' n c h w = rw (lt-ltb n (length out / size) h) w.written

  -- one that does not is not
  pub put_full : (out : List ℕ) (n : ℕ) (c : Couple) → length out / size ≤ n → out ≡ put_at size cells out n c
  unfolding put_at
  put_full out n c h = rw (le-ltb n (length out / size) h)

  put-wrote : (out : List ℕ) (n : ℕ) (c : Couple) → n < length out / size → Wrote out (put_at size cells out n c) (size * n) (size * n + size) (cells c)
  unfolding put_at
  put-wrote out n c h = record {
    place = rw (s.each c);
    fits = s.room n (length out) h;
    written = rw (lt-ltb n (length out / size) h);
  }

  put-length : (out : List ℕ) (n : ℕ) (c : Couple) → length (put_at size cells out n c) ≡ length out
  put-length out n c =
      ⊎_elim (λ h. wrote-length out (put_at size cells out n c) _ _ (cells c) (put-wrote out n c h)) (λ h. ap length (sym (put_full out n c h))) (lt_or_le n (length out / size))

  -- a full buffer keeps what it has
  from-full : (cs : List Couple) (out : List ℕ) (n : ℕ) → length out / size ≤ n → put_from size cells out n cs ≡ out
  unfolding put_from
  from-full [] out n h = refl
  from-full (c ∷ cs) out n h = rw (← put_full out n c h) (from-full cs out (n + 1) (omega arith))

  -- behind what n couples filled
  from-wrote : (cs : List Couple) (before out : List ℕ) (n : ℕ) (given : List ℕ) → length out ≡ length before → n ≤ length before / size → Wrote before out 0 (size * n) given
      → (next : ℕ) × Wrote before (put_from size cells out n cs) 0 next (given ++ flat_map cells (take (length before / size - n) cs))
  unfolding put_from flat_map
  from-wrote [] before out n given e h w = (size * n, rw (take-nil (length before / size - n), append-nil given) w)
  from-wrote (c ∷ cs) before out n given e h w =
      ⊎_elim
      (λ (b : n < length before / size).
      let k : n < length out / size = rw e b in
      let more : Wrote before (put_at size cells out n c) 0 (size * (n + 1)) (given ++ cells c) =
      rw (add-one n, mul-suc size n) (wrote-more before out (put_at size cells out n c) 0 (size * n) (size * n + size) given (cells c) w (put-wrote out n c k)) in
      let rest = from-wrote cs before (put_at size cells out n c) (n + 1) (given ++ cells c) (put-length out n c ∙ e) (omega arith) more in
      let one : length before / size - n ≡ suc (length before / size - (n + 1)) = omega arith in
      (rest.0, rw (one, ← append_assoc given (cells c) (flat_map cells (take (length before / size - (n + 1)) cs))) rest.1))
      (λ (b : length before / size ≤ n).
      let k : length out / size ≤ n = rw e b in
      let z : length before / size - n ≡ 0 = omega arith in
      (size * n, rw (z, append-nil given, ← put_full out n c k, from-full cs out (n + 1) (omega arith)) w))
      (lt_or_le n (length before / size))

  pub put-filled : (out : List ℕ) (cs : List Couple) → put_from size cells out 0 cs ≡ filled (fitting size cells (length out) cs) out
  put-filled out cs =
      let start : Wrote out out 0 (size * 0) [] = rw (mul-zero size) (wrote_none out 0 (omega arith)) in
      let x = from-wrote cs out out 0 [] refl (omega arith) start in
      let k : length out / size - 0 ≡ length out / size = omega arith in
      wrote-filled out (put_from size cells out 0 cs) 0 x.0 (fitting size cells (length out) cs) (rw k at x.1) refl

  -- couples behind couples
  pub put_append : (cs ds : List Couple) (out : List ℕ) (n : ℕ) → put_from size cells out n (cs ++ ds) ≡ put_from size cells (put_from size cells out n cs) (n + length cs) ds
  unfolding put_from
  put_append [] ds out n = let z : n + 0 ≡ n = omega arith in rw z
  put_append (c ∷ cs) ds out n =
      let z : n + suc (length cs) ≡ n + 1 + length cs = omega arith in rw z (put_append cs ds (put_at size cells out n c) (n + 1))
