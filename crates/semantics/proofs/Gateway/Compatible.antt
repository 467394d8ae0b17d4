-- Which counts two threads can have at once (`compatible`), from which claims a thread `Excludes` the others, and which are `fresh` to it: for counts,
-- then for sets of claims. What follows in other modules uses these laws alone, and does not look inside.
use Prim.Native.Nat.{ℕ, ◌-◌, ◌/◌, ◌^◌, ◌≤◌, ◌<◌, max}
use mathlib.Core.Bool.{true, false, ◌&&◌}
use mathlib.Core.List.{List, []}
use mathlib.Core.Logic.{◌⊎◌, inl, inr, ⊎_elim, ◌↔◌}
use mathlib.Core.Path.{◌≡◌, refl, sym, ap, ◌∙◌, subst}
use native.Mathlib.Nat.{not-suc-le-zero, eq-zero-or-pos}
use native.Mathlib.Omega.{arith}
use lib.Bits.{bit_and, bit_or, and_comm, or_lt}
use lib.ListN.{get_or}
use lib.Dec.{T, eqb, ltb→lt, lt→ltb, eqb→eq, eqb_refl}
use Rattle.limits.specs.Limits.{lock_count, claim_count}
use Rattle.laws.proofs.Places.{zeros_at}
use Rattle.laws.specs.Mask.{bit, in_mask}
use Rattle.laws.proofs.Tests.{T_and, and_T, T_true, same_test, lt_or_le, eq→eqb}
use Rattle.laws.proofs.Bits.{bit-none, bit_lt, bit_or_lem, bit_below, bit-above, bit_quotient, bit-remainder, disjoint, of_disjoint, or_cases, or_left, or_right}
use Rattle.laws.proofs.Masks.{digit-out}
use Rattle.semantics.specs.Claims.{by_share, by_hold, lock_of, is_hold, together}
use Rattle.semantics.specs.Run.{has, compatible, unlocked}
use Rattle.semantics.specs.Pairs.{had, fresh}
use Rattle.semantics.specs.Conflict.{held_locks, shared_locks, bars, CompatibleIn, ExcludesIn}
use Rattle.semantics.specs.Paths.{fresh_in}
use Rattle.semantics.proofs.Ground.Claims.{share-lock, hold-way, share-is, hold-is, Against, share-hold, hold-hold, hold-share, against-map, against-none, against-either, against-swap}
use Rattle.semantics.proofs.Ground.Claims.{together_or, together-not, fresh_to_lem, fresh-not, fresh-not-held}
use Rattle.semantics.proofs.Ground.LockSets.{positive-digit, digit-positive}

abbrev pub HasClaim : List ℕ → ℕ → Type 0
HasClaim cs l = 0 < get_or cs l 0

-- who has the counts cs keeps the others from claim l
unfoldable pub Excludes : List ℕ → ℕ → Type 0
Excludes cs l = Against (HasClaim cs) l

pub empty_excludes_none : (l : ℕ) → Excludes [] l → ⊥
unfolding Excludes
empty_excludes_none l h = against-none (λ a p. not-suc-le-zero p) h

pub unlocked_excludes_none : (l : ℕ) → Excludes unlocked l → ⊥
unfolding Excludes
unlocked_excludes_none l h = against-none (λ a (p : HasClaim unlocked a). omega (arith, zeros_at claim_count a)) h

abbrev test_has : (cs : List ℕ) (a : ℕ) → HasClaim cs a → T (has cs a)
test_has cs a h = lt→ltb 0 (get_or cs a 0) h

abbrev has-test : (cs : List ℕ) (a : ℕ) → T (has cs a) → HasClaim cs a
has-test cs a t = ltb→lt 0 (get_or cs a 0) t

-- what is not compatible has such a claim
pub compatible_or_contended : (cs ds : List ℕ) → T (compatible cs ds) ⊎ ((l : ℕ) × HasClaim cs l × Excludes ds l)
unfolding compatible Excludes
compatible_or_contended cs ds =
    ⊎_elim inl (λ (q : (a : ℕ) × T (has cs a) × Against (λ b. T (has ds b)) a). inr (q.0, has-test cs q.0 q.1, against-map (has-test ds) q.2))
    (together_or (has cs) (has ds))

pub compatible_not_contended : (cs ds : List ℕ) → T (compatible cs ds) → (l : ℕ) → HasClaim cs l → Excludes ds l → ⊥
unfolding compatible Excludes
compatible_not_contended cs ds t l g h = together-not (has cs) (has ds) t l (test_has cs l g) (against-map (test_has ds) h)

pub compatible-sym : (cs ds : List ℕ) → T (compatible cs ds) → T (compatible ds cs)
unfolding Excludes
compatible-sym cs ds t =
    ⊎_elim (λ r. r)
    (λ (r : (l : ℕ) × HasClaim ds l × Excludes cs l).
    let (b, h, e) = against-swap (HasClaim ds) (HasClaim cs) r.0 r.1 r.2 in absurd (compatible_not_contended cs ds t b h e))
    (compatible_or_contended ds cs)

-- a thread does not have a claim from which another excludes it
pub excluded-not-held : (cs ds : List ℕ) → T (compatible cs ds) → (l : ℕ) → Excludes ds l → get_or cs l 0 ≡ 0
excluded-not-held cs ds t l h = ⊎_elim (λ z. z) (λ g. absurd (compatible_not_contended cs ds t l g h)) (eq-zero-or-pos (get_or cs l 0))

-- and the claim is fresh to it
pub excluded-fresh : (cs ds : List ℕ) → T (compatible cs ds) → (l : ℕ) → Excludes ds l → T (fresh cs l)
unfolding Excludes
excluded-fresh cs ds t l h =
    fresh_to_lem (has cs) l (λ s. compatible_not_contended cs ds t l (has-test cs l s) h)
    (λ b s. compatible_not_contended cs ds t (by_hold (lock_of l)) (has-test cs (by_hold (lock_of l)) s) (whole b h))
  where
    no_share : (k : ℕ) → is_hold l ≡ false → l ≡ by_hold k → ⊥
    no_share k b e = let z : true ≡ false = sym (hold-way k) ∙ ap is_hold (sym e) ∙ b in subst T z tt

    -- what stands against a share stands against the hold
    whole : is_hold l ≡ false → Against (HasClaim ds) l → Against (HasClaim ds) (by_hold (lock_of l))
    whole b (share-hold k c e p) = hold-hold k c (ap (λ a. by_hold (lock_of a)) e ∙ ap by_hold (share-lock k)) p
    whole b (hold-hold k c e p) = absurd (no_share k b e)
    whole b (hold-share k c e p) = absurd (no_share k b e)

-- ---- the same of sets of claims

abbrev InSet : ℕ → ℕ → Type 0
InSet m a = bit m a ≡ 1

held-part : (m l : ℕ) → l < lock_count → bit (held_locks m) l ≡ bit m (by_hold l)
held-part m l b = bit-remainder lock_count (m / 2 ^ lock_count) l b ∙ bit_quotient lock_count m l ∙ ap (bit m) (omega (arith, hold-is l b))

shared-part : (m l : ℕ) → l < lock_count → bit (shared_locks m) l ≡ bit m (by_share l)
shared-part m l b = bit-remainder lock_count m l b ∙ ap (bit m) (sym (share-is l b))

held_small : (m : ℕ) → held_locks m < 2 ^ lock_count
held_small m = omega arith

shared-small : (m : ℕ) → shared_locks m < 2 ^ lock_count
shared-small m = omega arith

-- the digits of what is barred
bars-share : (m l : ℕ) → l < lock_count → bit (bars m) (by_share l) ≡ bit m (by_hold l)
unfolding bars
bars-share m l b = ap (bit (bars m)) (share-is l b) ∙ bit_below lock_count (bit_or (held_locks m) (shared_locks m)) (held_locks m) l b ∙ held-part m l b

bars-hold : (m l : ℕ) → l < lock_count → bit (bars m) (by_hold l) ≡ max (bit m (by_hold l)) (bit m (by_share l))
unfolding bars
bars-hold m l b =
    ap (bit (bars m)) (omega (arith, hold-is l b)) ∙ bit-above lock_count (bit_or (held_locks m) (shared_locks m)) (held_locks m) l (held_small m)
    ∙ rw (bit_or_lem, held-part m l b, shared-part m l b) refl

pub bars_lt : (m : ℕ) → bars m < 2 ^ claim_count
unfolding bars
bars_lt m = omega (arith, or_lt lock_count (held_locks m) (shared_locks m) (held_small m) (shared-small m), held_small m)

bars_says : (m a : ℕ) → ExcludesIn m a → Against (InSet m) a
bars_says m a e =
    ⊎_elim (λ (b : a < lock_count). share-hold a b (sym (share-is a b)) (sym (bars-share m a b) ∙ ap (bit (bars m)) (share-is a b) ∙ e))
    (λ (b : lock_count ≤ a).
    ⊎_elim
    (λ (c : a < claim_count). let l : a - lock_count < lock_count = omega arith in by_hold_lem (a - lock_count) l (omega (arith, hold-is (a - lock_count) l)))
    (λ (c : claim_count ≤ a). absurd (omega (arith, e, digit-out (bars m) claim_count a (bars_lt m) c)))
    (lt_or_le a claim_count))
    (lt_or_le a lock_count)
  where
    by_hold_lem : (l : ℕ) → l < lock_count → a ≡ by_hold l → Against (InSet m) a
    by_hold_lem l b h =
        let x : max (bit m (by_hold l)) (bit m (by_share l)) ≡ 1 = sym (bars-hold m l b) ∙ ap (bit (bars m)) (sym h) ∙ e in
        ⊎_elim (λ (z : bit m (by_hold l) ≡ 0). hold-share l b h (omega arith)) (λ (g : 0 < bit m (by_hold l)). hold-hold l b h (omega (arith, bit_lt m (by_hold l))))
        (eq-zero-or-pos (bit m (by_hold l)))

says_bars : (m a : ℕ) → Against (InSet m) a → ExcludesIn m a
says_bars m a (share-hold l b e p) = ap (bit (bars m)) e ∙ bars-share m l b ∙ p
says_bars m a (hold-hold l b e p) = ap (bit (bars m)) e ∙ bars-hold m l b ∙ omega (arith, bit_lt m (by_share l))
says_bars m a (hold-share l b e p) = ap (bit (bars m)) e ∙ bars-hold m l b ∙ omega (arith, bit_lt m (by_hold l))

pub excludes_none : (l : ℕ) → ExcludesIn 0 l → ⊥
excludes_none l e = against-none (λ a (p : InSet 0 a). omega (arith, bit-none a)) (bars_says 0 l e)

pub excludes_left : (m n l : ℕ) → ExcludesIn m l → ExcludesIn (bit_or m n) l
excludes_left m n l e = says_bars (bit_or m n) l (against-map (or_left m n) (bars_says m l e))

pub excludes_right : (m n l : ℕ) → ExcludesIn n l → ExcludesIn (bit_or m n) l
excludes_right m n l e = says_bars (bit_or m n) l (against-map (or_right m n) (bars_says n l e))

pub excludes_cases : (m n l : ℕ) → ExcludesIn (bit_or m n) l → ExcludesIn m l ⊎ ExcludesIn n l
excludes_cases m n l e = ⊎_elim (λ x. inl (says_bars m l x)) (λ x. inr (says_bars n l x)) (against-either (or_cases m n) (bars_says (bit_or m n) l e))

pub apart_by : (m n : ℕ) → ((a : ℕ) → ExcludesIn m a → bit n a ≡ 1 → ⊥) → CompatibleIn m n
apart_by m n f = disjoint (bars m) n (λ k.
    ⊎_elim (λ z. inl z)
    (λ (g : 0 < bit (bars m) k).
    ⊎_elim (λ z. inr z) (λ (h : 0 < bit n k). absurd (f k (omega (arith, bit_lt (bars m) k)) (omega (arith, bit_lt n k)))) (eq-zero-or-pos (bit n k)))
    (eq-zero-or-pos (bit (bars m) k)))

pub by_apart : (m n : ℕ) → CompatibleIn m n → (a : ℕ) → ExcludesIn m a → bit n a ≡ 1 → ⊥
by_apart m n c a e h = omega (arith, of_disjoint (bars m) n c a e)

pub apart-sym : (m n : ℕ) → CompatibleIn m n → CompatibleIn n m
apart-sym m n c = apart_by n m (λ a e h.
    let (b, q, r) = against-swap (InSet m) (InSet n) a h (bars_says n a e) in by_apart m n c b (says_bars m b r) q)

pub apart_none : (n : ℕ) → CompatibleIn 0 n
apart_none n = apart_by 0 n (λ a e h. excludes_none a e)

pub apart-join : (a b n : ℕ) → CompatibleIn a n → CompatibleIn b n → CompatibleIn (bit_or a b) n
apart-join a b n p q = apart_by (bit_or a b) n (λ l e h. ⊎_elim (λ x. by_apart a n p l x h) (λ x. by_apart b n q l x h) (excludes_cases a b l e))

pub apart-left : (a b n : ℕ) → CompatibleIn (bit_or a b) n → CompatibleIn a n
apart-left a b n p = apart_by a n (λ l e h. by_apart (bit_or a b) n p l (excludes_left a b l e) h)

pub apart-right : (a b n : ℕ) → CompatibleIn (bit_or a b) n → CompatibleIn b n
apart-right a b n p = apart_by b n (λ l e h. by_apart (bit_or a b) n p l (excludes_right a b l e) h)

-- the two conditions over sets in the words of `Claims`: "their locks may stand together", and a wish, by itself, "may not stand beside what another has"
pub compatible_sets_lem : (m n : ℕ) → CompatibleIn m n ↔ T (together (in_mask m) (in_mask n))
compatible_sets_lem m n = (
  λ c. ⊎_elim (λ t. t)
      (λ (q : (a : ℕ) × T (in_mask m a) × Against (λ b. T (in_mask n b)) a).
      absurd (by_apart n m (apart-sym m n c) q.0 (says_bars n q.0 (against-map (λ b t. eqb→eq (bit n b) 1 t) q.2)) (eqb→eq (bit m q.0) 1 q.1)))
      (together_or (in_mask m) (in_mask n)),
  λ t. apart-sym n m (apart_by n m (λ a e h.
      together-not (in_mask m) (in_mask n) t a (eq→eqb (bit m a) 1 h) (against-map (λ b p. eq→eqb (bit n b) 1 p) (bars_says n a e)))),
)

pub excludes_sets : (m a : ℕ) → ExcludesIn m a ↔ (T (together (λ b. eqb b a) (in_mask m)) → ⊥)
excludes_sets m a = (
  λ e t. together-not (λ b. eqb b a) (in_mask m) t a (eqb_refl a) (against-map (λ b p. eq→eqb (bit m b) 1 p) (bars_says m a e)),
  λ f. ⊎_elim (λ t. absurd (f t))
      (λ (q : (b : ℕ) × T (eqb b a) × Against (λ b. T (in_mask m b)) b).
      subst (ExcludesIn m) (eqb→eq q.0 a q.1) (says_bars m q.0 (against-map (λ b t. eqb→eq (bit m b) 1 t) q.2)))
      (together_or (λ b. eqb b a) (in_mask m)),
)

-- the test from the other side: none of the claims of m is barred by n
pub apart-meet : (m n : ℕ) → CompatibleIn m n ↔ (bit_and m (bars n) ≡ 0)
apart-meet m n = (λ c. and_comm m (bars n) ∙ apart-sym m n c, λ e. apart-sym n m (and_comm (bars n) m ∙ e))

pub excludes_held : (cs : List ℕ) (l : ℕ) → (Excludes cs l → ExcludesIn (had cs) l) × (ExcludesIn (had cs) l → Excludes cs l)
unfolding Excludes
excludes_held cs l = (
  λ h. says_bars (had cs) l (against-map (positive-digit cs) h),
  λ e. against-map (digit-positive cs) (bars_says (had cs) l e),
)

pub compatible-held : (cs ds : List ℕ) → CompatibleIn (had cs) (had ds) → T (compatible cs ds)
compatible-held cs ds e = compatible-sym ds cs (⊎_elim (λ t. t)
    (λ (r : (l : ℕ) × HasClaim ds l × Excludes cs l). absurd
    (by_apart (had cs) (had ds) e r.0 ((excludes_held cs r.0).0 r.2) (positive-digit ds r.0 r.1)))
    (compatible_or_contended ds cs))

pub held-compatible : (cs ds : List ℕ) → T (compatible cs ds) → CompatibleIn (had cs) (had ds)
held-compatible cs ds t = apart_by (had cs) (had ds) (λ l e h.
    compatible_not_contended ds cs (compatible-sym cs ds t) l (digit-positive ds l h) ((excludes_held cs l).1 e))

-- ---- what is fresh

pub fresh-held : (cs : List ℕ) (l : ℕ) → fresh_in (had cs) l ≡ fresh cs l
fresh-held cs l = same_test (fresh_in (had cs) l) (fresh cs l)
    (λ t. fresh_to_lem (has cs) l (λ h. fresh-not (in_mask (had cs)) l t (in_held l h)) (λ b h. fresh-not-held (in_mask (had cs)) l t b (in_held (by_hold (lock_of l)) h)))
    (λ t. fresh_to_lem (in_mask (had cs)) l (λ h. fresh-not (has cs) l t (held_in l h)) (λ b h. fresh-not-held (has cs) l t b (held_in (by_hold (lock_of l)) h)))
  where
    in_held : (a : ℕ) → T (has cs a) → T (in_mask (had cs) a)
    in_held a h = eq→eqb (bit (had cs) a) 1 (positive-digit cs a (has-test cs a h))

    held_in : (a : ℕ) → T (in_mask (had cs) a) → T (has cs a)
    held_in a h = test_has cs a (digit-positive cs a (eqb→eq (bit (had cs) a) 1 h))

pub fresh_or : (m n l : ℕ) → fresh_in (bit_or m n) l ≡ (fresh_in n l && fresh_in m l)
fresh_or m n l = same_test (fresh_in (bit_or m n) l) (fresh_in n l && fresh_in m l)
    (λ t. and_T (fresh_in n l) (fresh_in m l)
    (fresh_to_lem (in_mask n) l (λ h. fresh-not (in_mask (bit_or m n)) l t (right l h)) (λ b h. fresh-not-held (in_mask (bit_or m n)) l t b (right (by_hold (lock_of l)) h)))
    (fresh_to_lem (in_mask m) l (λ h. fresh-not (in_mask (bit_or m n)) l t (left l h)) (λ b h. fresh-not-held (in_mask (bit_or m n)) l t b (left (by_hold (lock_of l)) h))))
    (λ t. let (x, y) = T_and (fresh_in n l) (fresh_in m l) t in
    fresh_to_lem (in_mask (bit_or m n)) l
    (λ h. ⊎_elim (fresh-not (in_mask m) l y) (fresh-not (in_mask n) l x) (cases l h))
    (λ b h. ⊎_elim (fresh-not-held (in_mask m) l y b) (fresh-not-held (in_mask n) l x b) (cases (by_hold (lock_of l)) h)))
  where
    left : (a : ℕ) → T (in_mask m a) → T (in_mask (bit_or m n) a)
    left a h = eq→eqb (bit (bit_or m n) a) 1 (or_left m n a (eqb→eq (bit m a) 1 h))

    right : (a : ℕ) → T (in_mask n a) → T (in_mask (bit_or m n) a)
    right a h = eq→eqb (bit (bit_or m n) a) 1 (or_right m n a (eqb→eq (bit n a) 1 h))

    cases : (a : ℕ) → T (in_mask (bit_or m n) a) → T (in_mask m a) ⊎ T (in_mask n a)
    cases a h = ⊎_elim (λ e. inl (eq→eqb (bit m a) 1 e)) (λ e. inr (eq→eqb (bit n a) 1 e)) (or_cases m n a (eqb→eq (bit (bit_or m n) a) 1 h))

pub fresh-none : (l : ℕ) → fresh_in 0 l ≡ true
fresh-none l = T_true (fresh_in 0 l) (fresh_to_lem (in_mask 0) l (none l) (λ b. none (by_hold (lock_of l))))
  where
    none : (a : ℕ) → T (in_mask 0 a) → ⊥
    none a h = omega (arith, eqb→eq (bit 0 a) 1 h, bit-none a)
