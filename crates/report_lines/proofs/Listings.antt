-- The members of a mask, ascending: the lowest comes first, and the others are the members of the mask without it. So an iterator that takes the lowest and clears it
-- yields them all.
use Prim.Native.Nat.{ℕ, zero, suc, ◌+◌, ◌-◌, ◌^◌, ◌<◌, ◌≤◌}
use native.Mathlib.Omega.{arith}
use native.Mathlib.Nat.{pos_of_ne-zero}
use native.Mathlib.Numerals.{add-one}
use mathlib.Core.Path.{◌≡◌, refl, sym, ap, ◌∙◌}
use mathlib.Core.Bool.{Bool, true, false, cond}
use mathlib.Core.List.{List, [], ◌∷◌, ◌++◌, append-nil, append_assoc}
use mathlib.Core.Logic.{⊎_elim}
use lib.Bits.{bit_and}
use lib.Count.{count_trailing_zeros}
use lib.Dec.{eqb}
use lib.ListN.{length, get_or, drop, length-append}
use lib.Seq.{drop-cons}
use borrow.Author.Tests.{eq-eqb, ne_eqb}
use Rattle.std.specs.List.{All}
use Rattle.std.proofs.lemmas.List.Elements.{All-append}
use Rattle.laws.specs.Mask.{bit, in_mask}
use Rattle.laws.proofs.Bits.{bit-none}
use Rattle.laws.proofs.Masks.{digit-out, Lowest, trailing_lowest, trailing_lt, clear_digit}
use Rattle.laws.proofs.Tests.{lt_or_le}
use Rattle.laws.specs.Wrote.{Wrote}
use Rattle.report_lines.specs.Lines.{members, lines_of}
use Rattle.laws.proofs.Wrote.{wrote_none, wrote-more, wrote-length}

members-none : (n m : ℕ) → ((k : ℕ) → k < n → bit m k ≡ 0) → members n m ≡ []
unfolding members
members-none zero m h = refl
members-none (suc n) m h = rw (h n (omega arith)) (append-nil (members n m) ∙ members-none n m (λ k b. h k (omega arith)))

-- m' is m without its lowest member t
module _ (m m' t : ℕ) (low : Lowest m t) (cleared : (k : ℕ) → bit m' k ≡ cond (eqb k t) 0 (bit m k)) where
  below : (k : ℕ) → k < t → bit m' k ≡ 0
  below k h = cleared k ∙ rw (ne_eqb k t (λ e. omega arith)) (low.below k h)

  members-next : (n : ℕ) → t < n → members n m ≡ t ∷ members n m'
  unfolding members
  members-next zero h = absurd (omega arith)
  members-next (suc n) h = ⊎_elim
      (λ (b : t < n).
      let same : bit m' n ≡ bit m n = cleared n ∙ rw (ne_eqb n t (λ e. omega arith)) in
      rw (members-next n b, same))
      (λ (b : n ≤ t).
      let e : n ≡ t = omega arith in
      let one : bit m n ≡ 1 = ap (bit m) e ∙ low.member in
      let none : bit m' n ≡ 0 = cleared n ∙ rw (eq-eqb n t e) in
      rw (one, none, members-none n m (λ k g. low.below k (omega arith)), members-none n m' (λ k g. below k (omega arith))) (ap (λ k. k ∷ []) e))
      (lt_or_le t n)

-- a mask of so many digits that has members
pub lowest-first : (n m : ℕ) → (m ≡ 0 → ⊥) → m < 2 ^ n → members n m ≡ count_trailing_zeros n m ∷ members n (bit_and m (m - 1))
lowest-first n m some small =
    let p = pos_of_ne-zero some in
    members-next m (bit_and m (m - 1)) (count_trailing_zeros n m) (trailing_lowest n m p small) (λ k. clear_digit n m k p small) n (trailing_lt n m p small)

-- a mask without members
pub none-first : (n m : ℕ) → m ≡ 0 → members n m ≡ []
none-first n m e = members-none n m (λ k h. ap (λ x. bit x k) e ∙ bit-none k)

-- a mask of n digits has no members from n on
pub members-upto : (k n m : ℕ) → n ≤ k → m < 2 ^ n → members k m ≡ members n m
unfolding members
members-upto zero n m h small = let e : n ≡ 0 = omega arith in rw e
members-upto (suc k) n m h small =
    ⊎_elim (λ (b : k < n). let e : n ≡ suc k = omega arith in rw e)
    (λ (b : n ≤ k). rw (digit-out m n k small b) (append-nil (members k m) ∙ members-upto k n m b small)) (lt_or_le k n)

pub members-lt : (n m : ℕ) → All (λ k. k < n) (members n m)
unfolding members
members-lt zero m = λ k d h. absurd (omega arith)
members-lt (suc n) m = All-append (λ k. k < suc n) (members n m) _ (λ k d h. omega (arith, members-lt n m k d h)) (go (in_mask m n))
  where
    go : (b : Bool) → All (λ k. k < suc n) (cond b (n ∷ []) [])
    go true zero d h = omega arith
    go true (suc k) d h = absurd (omega arith)
    go false k d h = absurd (omega arith)

-- ---- the loops that write a text f x for each x of a list

-- the buffer where the texts of those that are not left are written
pub record Listing (f : ℕ → List ℕ) (out₀ out : List ℕ) (at i : ℕ) (all left : List ℕ) : Type 0 where
  pub part : List ℕ
  pub wrote : Wrote out₀ out at i part
  pub joined : part ++ lines_of f left ≡ lines_of f all

module _ (f : ℕ → List ℕ) (all : List ℕ) where
  pub listing_none : (out : List ℕ) (at : ℕ) → at ≤ length out → Listing f out out at at all all
  listing_none out at h = record { part = []; wrote = wrote_none out at h; joined = refl }

  module _ (out₀ out : List ℕ) (at i : ℕ) (left rest : List ℕ) (x : ℕ) (e : left ≡ x ∷ rest) (w : Listing f out₀ out at i all left) where
    next-listed : w.part ++ (f x ++ lines_of f rest) ≡ lines_of f all
    unfolding lines_of
    next-listed = rw e at w.joined

    pub listing_room : at + length (lines_of f all) ≤ length out₀ → i + length (f x) ≤ length out
    listing_room h = omega (
      arith,
      ap length next-listed,
      length-append w.part (f x ++ lines_of f rest),
      length-append (f x) (lines_of f rest),
      w.wrote.place,
      wrote-length out₀ out at i w.part w.wrote,
    )

    pub listing_more : (out' : List ℕ) (i' : ℕ) → Wrote out out' i i' (f x) → Listing f out₀ out' at i' all rest
    listing_more out' i' v = record {
      part = w.part ++ f x;
      wrote = wrote-more out₀ out out' at i i' w.part (f x) w.wrote v;
      joined = append_assoc w.part (f x) (lines_of f rest) ∙ next-listed;
    }

  -- the next of those of the list from a place on
  pub listing_step : (out₀ out : List ℕ) (at i k : ℕ) → k < length all → Listing f out₀ out at i all (drop k all) → (out' : List ℕ) (i' : ℕ) → Wrote out out' i i' (f (get_or all k 0))
      → Listing f out₀ out' at i' all (drop (k + 1) all)
  listing_step out₀ out at i k h w out' i' v = listing_more out₀ out at i (drop k all) (drop (k + 1) all) (get_or all k 0) (drop-cons all k 0 h ∙ rw add-one) w out' i' v

  pub listing_done : (out₀ out : List ℕ) (at i : ℕ) (left : List ℕ) → left ≡ [] → Listing f out₀ out at i all left → Wrote out₀ out at i (lines_of f all)
  unfolding lines_of
  listing_done out₀ out at i left e w = let whole : w.part ≡ lines_of f all = sym (append-nil w.part) ∙ rw e at w.joined in rw whole at w.wrote
