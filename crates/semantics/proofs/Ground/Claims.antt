-- What stands against a claim (`Against`), as one case for each way, and the two tests over sets of claims in its terms: what may stand together (`together`) and what is fresh
-- (`fresh_to`). Also the numbers that stand for claims.
use Prim.Native.Nat.{ℕ, zero, suc, ◌+◌, ◌*◌, ◌/◌, ◌%◌, ◌^◌, ◌≤◌, ◌<◌}
use mathlib.Core.Bool.{Bool, true, false, not, ◌&&◌, ◌||◌}
use mathlib.Core.List.{List, [], ◌∷◌, flat_map}
use mathlib.Core.Logic.{◌⊎◌, inl, inr, ⊎_elim, ◌↔◌, ◌≢◌}
use mathlib.Core.Path.{◌≡◌, refl, sym, ap, ◌∙◌, subst}
use native.Mathlib.Nat.{not-suc-le-zero, eq-or-lt_of_le}
use native.Mathlib.Omega.{arith}
use lib.Dec.{T, T_not, not_T}
use lib.ListN.{length}
use borrow.Author.Tests.{ne_eqb}
use Rattle.limits.specs.Limits.{lock_count, claim_count}
use Rattle.laws.proofs.Tests.{T_and, and_T, T-or, or_T, T_false, search_below, lt_or_le, eq_or_ne}
use Rattle.semantics.specs.Pairs.{pair_of, had_of, wanted_of, pair_from, held_word, shared_word, wanted_word, words_of}
use Rattle.semantics.specs.Claims.{by_share, by_hold, lock_of, is_hold, claim_word, word_claim, held_in, had_in, clash, none_below, together, fresh_to}

-- ---- claims and their locks

pub share-lock : (l : ℕ) → lock_of (by_share l) ≡ l
unfolding lock_of by_share
share-lock l = omega arith

pub hold-lock : (l : ℕ) → lock_of (by_hold l) ≡ l
unfolding lock_of by_hold by_share
hold-lock l = omega arith

pub share-way : (l : ℕ) → is_hold (by_share l) ≡ false
unfolding is_hold by_share
share-way l = let e : (l / lock_count * claim_count + l % lock_count) / lock_count % 2 ≡ 0 = omega arith in rw e

pub hold-way : (l : ℕ) → is_hold (by_hold l) ≡ true
unfolding is_hold by_hold by_share
hold-way l = let e : (l / lock_count * claim_count + l % lock_count + lock_count) / lock_count % 2 ≡ 1 = omega arith in rw e

-- a claim is one of those of its lock
pub claim_of : (a : ℕ) → ((is_hold a ≡ false) × (by_share (lock_of a) ≡ a)) ⊎ ((is_hold a ≡ true) × (by_hold (lock_of a) ≡ a))
unfolding is_hold by_hold by_share lock_of
claim_of a =
    ⊎_elim (λ (e : a / lock_count % 2 ≡ 1). inr (rw e, omega arith)) (λ (n : a / lock_count % 2 ≢ 1). inl (ne_eqb (a / lock_count % 2) 1 n, omega arith))
    (eq_or_ne (a / lock_count % 2) 1)

-- a lock below 32, and its claims
pub share-is : (l : ℕ) → l < lock_count → by_share l ≡ l
unfolding by_share
share-is l b = omega arith

pub hold-is : (l : ℕ) → l < lock_count → by_hold l ≡ l + lock_count
unfolding by_hold by_share
hold-is l b = omega arith

pub lock_lt : (a : ℕ) → a < claim_count → lock_of a < lock_count
unfolding lock_of
lock_lt a b = omega arith

pub lt_claim : (a : ℕ) → lock_of a < lock_count → a < claim_count
unfolding lock_of
lt_claim a b = omega arith

pub claims_lt : (l : ℕ) → l < lock_count → (by_share l < claim_count) × (by_hold l < claim_count)
unfolding by_hold by_share
claims_lt l b = (omega arith, omega arith)

-- ---- the word of a claim

pub word_claim_lem : (a : ℕ) → a < claim_count → word_claim (claim_word a) ≡ a
word_claim_lem a h = omega arith

pub claim_word_lem : (x : ℕ) → x < claim_count → claim_word (word_claim x) ≡ x
claim_word_lem x h = omega arith

pub claim_word_lt : (a : ℕ) → a < claim_count → claim_word a < claim_count
claim_word_lt a h = omega arith

pub word_claim_lt : (x : ℕ) → x < claim_count → word_claim x < claim_count
word_claim_lt x h = omega arith

-- ---- the number of a pair

low_word : (m x : ℕ) → x < claim_count → (m * claim_count + x) % claim_count ≡ x
low_word m x h = omega arith

pub pair-had : (m a : ℕ) → a < claim_count → had_of (pair_of m a) ≡ m
pair-had m a h = omega (arith, claim_word_lt a h)

pub pair-wants : (m a : ℕ) → a < claim_count → wanted_of (pair_of m a) ≡ a
pair-wants m a h = ap word_claim (low_word m (claim_word a) (claim_word_lt a h)) ∙ word_claim_lem a h

pub wanted_lt : (w : ℕ) → wanted_of w < claim_count
wanted_lt w = word_claim_lt (w % claim_count) (omega arith)

pub pair-whole : (w : ℕ) → pair_of (had_of w) (wanted_of w) ≡ w
pair-whole w = ap (λ x. w / claim_count * claim_count + x) (claim_word_lem (w % claim_count) (omega arith)) ∙ omega arith

-- the words of a pair give it back, and it gives them
pub words_pair : (w : ℕ) → pair_from (held_word w) (shared_word w) (wanted_word w) ≡ w
words_pair w = omega arith

pub pair_words_lem : (h s x : ℕ) → s < 2 ^ lock_count → x < claim_count
    → (held_word (pair_from h s x) ≡ h) × (shared_word (pair_from h s x) ≡ s) × (wanted_word (pair_from h s x) ≡ x)
pair_words_lem h s x a b = (omega arith, omega arith, omega arith)

pub words_length : (ws : List ℕ) → length (words_of ws) ≡ 3 * length ws
unfolding flat_map
words_length [] = refl
words_length (w ∷ ws) = omega (arith, words_length ws)

-- "Order is by these words in turn."
pub pair_order : (v w : ℕ) → (v < w) ↔
    ((held_word v < held_word w) ⊎ ((held_word v ≡ held_word w) × ((shared_word v < shared_word w) ⊎ ((shared_word v ≡ shared_word w) × (wanted_word v < wanted_word w)))))
pair_order v w = (
  λ h. ⊎_elim inl
      (λ (a : held_word w ≤ held_word v).
      inr (omega arith, ⊎_elim inl (λ (b : shared_word w ≤ shared_word v). inr (omega arith, omega arith)) (lt_or_le (shared_word v) (shared_word w))))
      (lt_or_le (held_word v) (held_word w)),
  λ h. ⊎_elim (λ (a : held_word v < held_word w). omega arith)
      (λ (q : (held_word v ≡ held_word w) × ((shared_word v < shared_word w) ⊎ ((shared_word v ≡ shared_word w) × (wanted_word v < wanted_word w)))).
      let a = q.0 in
      ⊎_elim (λ (b : shared_word v < shared_word w). omega arith) (λ (b : (shared_word v ≡ shared_word w) × (wanted_word v < wanted_word w)). omega (arith, b.0, b.1)) q.1)
      h,
)

-- ---- what stands against a claim

-- one of the claims in P stands against claim a: a hold of its lock or, if a is by hold, a share
pub data Against (P : ℕ → Type 0) (a : ℕ) : Type 0 where
  share-hold : (l : ℕ) → l < lock_count → a ≡ by_share l → P (by_hold l) → Against P a
  hold-hold : (l : ℕ) → l < lock_count → a ≡ by_hold l → P (by_hold l) → Against P a
  hold-share : (l : ℕ) → l < lock_count → a ≡ by_hold l → P (by_share l) → Against P a

pub against-map : {P Q : ℕ → Type 0} → ((a : ℕ) → P a → Q a) → {a : ℕ} → Against P a → Against Q a
against-map f (share-hold l b e p) = share-hold l b e (f (by_hold l) p)
against-map f (hold-hold l b e p) = hold-hold l b e (f (by_hold l) p)
against-map f (hold-share l b e p) = hold-share l b e (f (by_share l) p)

pub against-none : {P : ℕ → Type 0} → ((a : ℕ) → P a → ⊥) → {a : ℕ} → Against P a → ⊥
against-none f (share-hold l b e p) = f (by_hold l) p
against-none f (hold-hold l b e p) = f (by_hold l) p
against-none f (hold-share l b e p) = f (by_share l) p

pub against-either : {P Q R : ℕ → Type 0} → ((a : ℕ) → R a → P a ⊎ Q a) → {a : ℕ} → Against R a → Against P a ⊎ Against Q a
against-either f (share-hold l b e r) = ⊎_elim (λ p. inl (share-hold l b e p)) (λ q. inr (share-hold l b e q)) (f (by_hold l) r)
against-either f (hold-hold l b e r) = ⊎_elim (λ p. inl (hold-hold l b e p)) (λ q. inr (hold-hold l b e q)) (f (by_hold l) r)
against-either f (hold-share l b e r) = ⊎_elim (λ p. inl (hold-share l b e p)) (λ q. inr (hold-share l b e q)) (f (by_share l) r)

-- who has a stands against what stands against a
pub against-swap : (P Q : ℕ → Type 0) (a : ℕ) → P a → Against Q a → (b : ℕ) × Q b × Against P b
against-swap P Q a p (share-hold l b e q) = (by_hold l, q, hold-share l b refl (subst P e p))
against-swap P Q a p (hold-hold l b e q) = (by_hold l, q, hold-hold l b refl (subst P e p))
against-swap P Q a p (hold-share l b e q) = (by_share l, q, share-hold l b refl (subst P e p))

pub against_lt : {P : ℕ → Type 0} {a : ℕ} → Against P a → a < claim_count
against_lt (share-hold l b e p) = omega (arith, (claims_lt l b).0)
against_lt (hold-hold l b e p) = omega (arith, (claims_lt l b).1)
against_lt (hold-share l b e p) = omega (arith, (claims_lt l b).1)

-- ---- sets of claims that may stand together

none_below_lem : (n : ℕ) (p : ℕ → Bool) → ((i : ℕ) → i < n → T (p i) → ⊥) → T (none_below n p)
unfolding none_below
none_below_lem zero p h = tt
none_below_lem (suc n) p h = and_T (not (p n)) (none_below n p) (not_T (p n) (h n (omega arith))) (none_below_lem n p (λ i b. h i (omega arith)))

below_none : (n : ℕ) (p : ℕ → Bool) → T (none_below n p) → (i : ℕ) → i < n → T (p i) → ⊥
unfolding none_below
below_none zero p t i b = absurd (not-suc-le-zero b)
below_none (suc n) p t i b =
    let (x, y) = T_and (not (p n)) (none_below n p) t in
    ⊎_elim (λ (e : i ≡ n). subst (λ k. T (p k) → ⊥) (sym e) (T_not (p n) x)) (λ (l : i < n). below_none n p y i l) (eq-or-lt_of_le (omega arith))

module _ (S R : ℕ → Bool) where
  abbrev InS : ℕ → Type 0
  InS a = T (S a)

  abbrev InR : ℕ → Type 0
  InR a = T (R a)

  -- a clash at lock l is a claim of S and one of R that stands against it
  clash-against : (l : ℕ) → l < lock_count → T (clash S R l) → (a : ℕ) × InS a × Against InR a
  clash-against l b t =
      ⊎_elim
      (λ h. let (x, y) = T_and (held_in S l) (had_in R l) h in
      ⊎_elim (λ s. (by_hold l, x, hold-share l b refl s)) (λ s. (by_hold l, x, hold-hold l b refl s)) (T-or (R (by_share l)) (R (by_hold l)) y))
      (λ h. let (x, y) = T_and (held_in R l) (had_in S l) h in
      ⊎_elim (λ s. (by_share l, s, share-hold l b refl x)) (λ s. (by_hold l, s, hold-hold l b refl x)) (T-or (S (by_share l)) (S (by_hold l)) y))
      (T-or (held_in S l && had_in R l) (held_in R l && had_in S l) t)

  abbrev first : (l : ℕ) → InS (by_hold l) → T (had_in R l) → T (clash S R l)
  first l s r = or_T (held_in S l && had_in R l) (held_in R l && had_in S l) (inl (and_T (held_in S l) (had_in R l) s r))

  abbrev second : (l : ℕ) → InR (by_hold l) → T (had_in S l) → T (clash S R l)
  second l r s = or_T (held_in S l && had_in R l) (held_in R l && had_in S l) (inr (and_T (held_in R l) (had_in S l) r s))

  against-clash : (a : ℕ) → InS a → Against InR a → (l : ℕ) × (l < lock_count) × T (clash S R l)
  against-clash a s (share-hold l b e r) = (l, b, second l r (or_T (S (by_share l)) (S (by_hold l)) (inl (subst InS e s))))
  against-clash a s (hold-hold l b e r) = (l, b, second l r (or_T (S (by_share l)) (S (by_hold l)) (inr (subst InS e s))))
  against-clash a s (hold-share l b e r) = (l, b, first l (subst InS e s) (or_T (R (by_share l)) (R (by_hold l)) (inl r)))

  -- they may stand together, or a claim of R stands against one of S
  pub together_or : T (together S R) ⊎ ((a : ℕ) × InS a × Against InR a)
  unfolding together
  together_or =
      ⊎_elim (λ (q : (l : ℕ) × (l < lock_count) × T (clash S R l)). inr (clash-against q.0 q.1 q.2))
      (λ (f : (l : ℕ) → l < lock_count → T (clash S R l) → ⊥). inl (none_below_lem lock_count (clash S R) f))
      (search_below lock_count (clash S R))

  pub together-not : T (together S R) → (a : ℕ) → InS a → Against InR a → ⊥
  unfolding together
  together-not t a s h = let (l, b, c) = against-clash a s h in below_none lock_count (clash S R) t l b c

-- ---- what is fresh

-- a claim that is not had is fresh if it is by hold, or if the lock is not held either
pub fresh_to_lem : (S : ℕ → Bool) (a : ℕ) → (T (S a) → ⊥) → (is_hold a ≡ false → T (S (by_hold (lock_of a))) → ⊥) → T (fresh_to S a)
unfolding fresh_to
fresh_to_lem S a f g =
    ⊎_elim (λ (q : (is_hold a ≡ false) × (by_share (lock_of a) ≡ a)). rw (q.0, q.1, T_false (S a) f, T_false (S (by_hold (lock_of a))) (g q.0)) tt)
    (λ (q : (is_hold a ≡ true) × (by_hold (lock_of a) ≡ a)). rw (q.0, q.1, T_false (S a) f) tt)
    (claim_of a)

or_of_none : (x y : Bool) → T (not (x || y)) → (T x → ⊥) × (T y → ⊥)
or_of_none false false t = (λ h. h, λ h. h)
or_of_none false true t = elim t [ ]
or_of_none true y t = elim t [ ]

pub fresh-not : (S : ℕ → Bool) (a : ℕ) → T (fresh_to S a) → T (S a) → ⊥
unfolding fresh_to
fresh-not S a t =
    ⊎_elim
    (λ (q : (is_hold a ≡ false) × (by_share (lock_of a) ≡ a)).
    let h : T (not (S a || S (by_hold (lock_of a)))) = rw (q.0, q.1) at t in (or_of_none (S a) (S (by_hold (lock_of a))) h).0)
    (λ (q : (is_hold a ≡ true) × (by_hold (lock_of a) ≡ a)). let h : T (not (S a)) = rw (q.0, q.1) at t in T_not (S a) h)
    (claim_of a)

pub fresh-not-held : (S : ℕ → Bool) (a : ℕ) → T (fresh_to S a) → is_hold a ≡ false → T (S (by_hold (lock_of a))) → ⊥
unfolding fresh_to
fresh-not-held S a t b =
    let h : T (not (S (by_share (lock_of a)) || S (by_hold (lock_of a)))) = rw b at t in (or_of_none (S (by_share (lock_of a))) (S (by_hold (lock_of a))) h).1
