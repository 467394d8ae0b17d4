-- What the test `apart` says: any two threads of S are compatible (`Apart`). Where one thread of such a moment is replaced, the moment stays apart,
-- or the new thread is not compatible with another (`Clash`).
use Prim.Native.Nat.{ℕ, zero, suc, ◌≤◌, ◌<◌}
use mathlib.Core.List.{List, [], ◌∷◌}
use mathlib.Core.Bool.{Bool, not, ◌&&◌, ◌||◌}
use mathlib.Core.Logic.{◌⊎◌, inl, inr, ⊎_elim, ◌≢◌}
use mathlib.Core.Path.{◌≡◌, refl, sym, ap, subst}
use native.Mathlib.Omega.{arith}
use lib.ListN.{length, set, get_or-eq_default}
use lib.Dec.{T, eqb, eqb→eq, T_not, not_T}
use lib.Seq.{get_or-set_same, get_or-set_other}
use Rattle.laws.proofs.Tests.{T_and, and_T, T-or, or_T, T-dec, eq_or_ne, lt_or_le, search_below, eq→eqb}
use Rattle.semantics.specs.Run.{ThreadState, compatible, others, with_all, apart, absent_thread, counts}
use Rattle.semantics.proofs.Gateway.Compatible.{HasClaim, Excludes, empty_excludes_none, compatible_or_contended, compatible-sym}

pub excludes_present : (ts : List ThreadState) (i l : ℕ) → Excludes (counts ts i) l → i < length ts
excludes_present ts i l h =
    ⊎_elim (λ b. b) (λ (b : length ts ≤ i). absurd
    (empty_excludes_none l (subst (λ x. Excludes x.count l) (get_or-eq_default ts absent_thread b) h)))
    (lt_or_le i (length ts))

abbrev pub Apart : (ℕ → Bool) → List ThreadState → Type 0
Apart S ts = (i j : ℕ) → i ≢ j → T (S i) → T (S j) → T (compatible (counts ts i) (counts ts j))

-- ---- the test and what it says

pub compatible-empty : (cs : List ℕ) → T (compatible cs [])
compatible-empty cs = ⊎_elim (λ t. t) (λ (r : (l : ℕ) × HasClaim cs l × Excludes [] l). absurd (empty_excludes_none r.0 r.2))
    (compatible_or_contended cs [])

-- a implies b
from_or : (a b : Bool) → T (not a || b) → T a → T b
from_or a b t s = ⊎_elim (λ n. absurd (T_not a n s)) (λ r. r) (T-or (not a) b t)

to_or : (a b : Bool) → (T a → T b) → T (not a || b)
to_or a b f = or_T (not a) b (⊎_elim (λ s. inr (f s)) (λ n. inl (not_T a n)) (T-dec a))

with→ : (S : ℕ → Bool) (cs : List ℕ) (ts : List ThreadState) → T (with_all S cs ts) → (j : ℕ) → T (S j) → T (compatible cs (counts ts j))
unfolding with_all
with→ S cs [] h j s = compatible-empty cs
with→ S cs (t ∷ ts) h zero s =
    from_or (S 0) (compatible cs t.count) (T_and (not (S 0) || compatible cs t.count) (with_all (others S) cs ts) h).0 s
with→ S cs (t ∷ ts) h (suc j) s =
    with→ (others S) cs ts (T_and (not (S 0) || compatible cs t.count) (with_all (others S) cs ts) h).1 j s

with← : (S : ℕ → Bool) (cs : List ℕ) (ts : List ThreadState) → ((j : ℕ) → T (S j) → T (compatible cs (counts ts j))) → T (with_all S cs ts)
unfolding with_all
with← S cs [] h = tt
with← S cs (t ∷ ts) h =
    and_T (not (S 0) || compatible cs t.count) (with_all (others S) cs ts) (to_or (S 0) (compatible cs t.count) (h 0))
    (with← (others S) cs ts (λ j. h (suc j)))

first : (S : ℕ → Bool) (t : ThreadState) (ts : List ThreadState) → T (apart S (t ∷ ts)) → (j : ℕ) → T (S 0) → T (S (suc j))
    → T (compatible t.count (counts ts j))
unfolding apart
first S t ts a j s r =
    with→ (others S) t.count ts
    (from_or (S 0) (with_all (others S) t.count ts) (T_and (not (S 0) || with_all (others S) t.count ts) (apart (others S) ts) a).0 s) j r

pub apart→ : (S : ℕ → Bool) (ts : List ThreadState) → T (apart S ts) → Apart S ts
unfolding apart
apart→ S [] a i j d s r = compatible-empty []
apart→ S (t ∷ ts) a zero zero d s r = absurd (d refl)
apart→ S (t ∷ ts) a zero (suc j) d s r = first S t ts a j s r
apart→ S (t ∷ ts) a (suc i) zero d s r = compatible-sym t.count (counts ts i) (first S t ts a i r s)
apart→ S (t ∷ ts) a (suc i) (suc j) d s r =
    apart→ (others S) ts (T_and (not (S 0) || with_all (others S) t.count ts) (apart (others S) ts) a).1 i j (λ e. d (ap suc e)) s r

pub apart← : (S : ℕ → Bool) (ts : List ThreadState) → Apart S ts → T (apart S ts)
unfolding apart
apart← S [] a = tt
apart← S (t ∷ ts) a =
    and_T (not (S 0) || with_all (others S) t.count ts) (apart (others S) ts)
    (to_or (S 0) (with_all (others S) t.count ts) (λ s. with← (others S) t.count ts (λ j r. a 0 (suc j) (omega arith) s r)))
    (apart← (others S) ts (λ i j d. a (suc i) (suc j) (omega arith)))

-- ---- one thread of an apart moment is replaced

-- y in the place of thread t is not compatible with another thread of S
pub record Clash (S : ℕ → Bool) (ts : List ThreadState) (t : ℕ) (y : ThreadState) : Type 0 where
  pub other : ℕ
  pub differs : other ≢ t
  pub member : T (S other)
  pub against : T (compatible y.count (counts ts other)) → ⊥

module _ (S : ℕ → Bool) (ts : List ThreadState) (t : ℕ) (y : ThreadState) (in-ts : t < length ts) where
  same_at : counts (set ts t y) t ≡ y.count
  same_at = ap (λ x. x.count) (get_or-set_same ts t y absent_thread in-ts)

  other_at : (i : ℕ) → i ≢ t → counts (set ts t y) i ≡ counts ts i
  other_at i d = ap (λ x. x.count) (get_or-set_other ts t i y absent_thread d)

  abbrev barring : ℕ → Bool
  barring j = S j && (not (eqb j t) && not (compatible y.count (counts ts j)))

  pub apart_or_clash : Apart S ts → T (apart S (set ts t y)) ⊎ Clash S ts t y
  apart_or_clash a =
      ⊎_elim
      (λ (r : (j : ℕ) × (j < length ts) × T (barring j)).
      let j = r.0 in
      let (s, q) = T_and (S j) (not (eqb j t) && not (compatible y.count (counts ts j))) r.2 in
      let (d, n) = T_and (not (eqb j t)) (not (compatible y.count (counts ts j))) q in
      inr (record {
        other = j;
        differs = λ e. T_not (eqb j t) d (eq→eqb j t e);
        member = s;
        against = T_not
            (compatible y.count (counts ts j)) n;
      }))
      (λ (none : (j : ℕ) → j < length ts → T (barring j) → ⊥).
      let free : (j : ℕ) → j ≢ t → T (S j) → T (compatible y.count (counts ts j)) =
      λ j d s. ⊎_elim
      (λ (b : j < length ts). ⊎_elim (λ c. c)
      (λ n. absurd (none j b (and_T (S j) (not (eqb j t) && not (compatible y.count (counts ts j))) s
      (and_T (not (eqb j t)) (not (compatible y.count (counts ts j))) (not_T (eqb j t) (λ e. d (eqb→eq j t e)))
      (not_T (compatible y.count (counts ts j)) n)))))
      (T-dec (compatible y.count (counts ts j))))
      (λ (b : length ts ≤ j). subst (λ x. T (compatible y.count x.count)) (sym (get_or-eq_default ts absent_thread b))
      (compatible-empty y.count))
      (lt_or_le j (length ts)) in
      inl (apart← S (set ts t y) (λ i j d s r.
      ⊎_elim
      (λ (e : i ≡ t).
      let f : j ≢ t = λ q. d (omega arith) in
      rw (e, same_at, other_at j f) (free j f r))
      (λ (f : i ≢ t).
      ⊎_elim
      (λ (e : j ≡ t). rw (e, same_at, other_at i f) (compatible-sym y.count (counts ts i) (free i f s)))
      (λ (g : j ≢ t). rw (other_at i f, other_at j g) (a i j d s r))
      (eq_or_ne j t))
      (eq_or_ne i t))))
      (search_below (length ts) barring)

  pub clash-not-apart : T (S t) → Clash S ts t y → T (apart S (set ts t y)) → ⊥
  clash-not-apart s b a =
      b.against (rw (same_at, other_at b.other b.differs) at (apart→ S (set ts t y) a t b.other (λ e. b.differs (sym e)) s b.member))
