-- Source 000, Proposition 6.2: the pairs of a procedure that is called with locks held, from its pairs with none held (`pairs-lift`, `call-pairs`).
-- So one list for each procedure is enough, and it can be computed over sets of claims instead of counts (`lifted_with`, `pairs_lifted`).
use Prim.Native.Nat.{ℕ, zero, suc, ◌^◌, ◌<◌}
use mathlib.Core.List.Memᴰ
use mathlib.Core.List.{List, [], ◌∷◌, ◌++◌, append_assoc, append-nil, Memᴰ}
use mathlib.Core.Bool.{Bool, true, false, cond}
use mathlib.Core.Path.{◌≡◌, refl, ◌∙◌}
use mathlib.Core.Logic.{⊎_elim, ◌↔◌}
use native.Mathlib.Omega.{arith}
use lib.Bits.{bit_or, or_zero_r}
use lib.ListN.{length}
use lib.Dec.{T}
use Rattle.limits.specs.Limits.{claim_count}
use Rattle.laws.proofs.Tests.{T_true, only}
use Rattle.laws.proofs.Bits.{or_assoc}
use Rattle.semantics.specs.Plan.{Block, done, skip, call, hold, loop, either, end, body_in, Written, Sound}
use Rattle.semantics.specs.Run.{up, unlocked}
use Rattle.semantics.specs.Pairs.{pair_of, had_of, wanted_of, had_from, had, pair_at, Critical, pairs_with, pairs_at, pairs}
use Rattle.semantics.specs.Paths.{fresh_in}
use Rattle.semantics.proofs.Ground.Claims.{pair-had, pair-wants, pair-whole, wanted_lt}
use Rattle.semantics.proofs.Ground.LockSets.{held_begin}
use Rattle.semantics.proofs.Thread.Remainders.{length_up, body_below}
use Rattle.semantics.proofs.Gateway.Compatible.{fresh-held, fresh_or, fresh-none}
use Rattle.semantics.proofs.Critical.PairList.{pairs-critical}

-- the pair w of a callee, as its caller has it who has the claims of m: none where what it wants is not fresh
unfoldable pub lift_pair : ℕ → ℕ → List ℕ
lift_pair m w = cond (fresh_in m (wanted_of w)) (pair_of (bit_or m (had_of w)) (wanted_of w) ∷ []) []

unfoldable pub lift : ℕ → List ℕ → List ℕ
lift m [] = []
lift m (w ∷ ws) = lift_pair m w ++ lift m ws

pub lift_append : (m : ℕ) (vs ws : List ℕ) → lift m (vs ++ ws) ≡ lift m vs ++ lift m ws
unfolding lift
lift_append m [] ws = refl
lift_append m (v ∷ vs) ws = rw (lift_append m vs ws, append_assoc)

lift-pair : (m n w : ℕ) → lift m (lift_pair n w) ≡ lift_pair (bit_or m n) w
unfolding lift lift_pair
lift-pair m n w = go (fresh_in n (wanted_of w)) refl
  where
    go : (t : Bool) → fresh_in n (wanted_of w) ≡ t
        → lift m (cond (fresh_in n (wanted_of w)) (pair_of (bit_or n (had_of w)) (wanted_of w) ∷ []) [])
        ≡ cond (fresh_in (bit_or m n) (wanted_of w)) (pair_of (bit_or (bit_or m n) (had_of w)) (wanted_of w) ∷ []) []
    go true e =
        let claim : wanted_of (pair_of (bit_or n (had_of w)) (wanted_of w)) ≡ wanted_of w = pair-wants (bit_or n (had_of w)) (wanted_of w) (wanted_lt w) in
        let locks : had_of (pair_of (bit_or n (had_of w)) (wanted_of w)) ≡ bit_or n (had_of w) = pair-had (bit_or n (had_of w)) (wanted_of w) (wanted_lt w) in
        rw (fresh_or m n (wanted_of w), e, claim, locks, or_assoc, append-nil)
    go false e = rw (fresh_or m n (wanted_of w), e)

pub lift-lift : (m n : ℕ) (ws : List ℕ) → lift m (lift n ws) ≡ lift (bit_or m n) ws
unfolding lift
lift-lift m n [] = refl
lift-lift m n (w ∷ ws) = rw (lift_append, lift-pair, lift-lift m n ws)

pub lift-none : (ws : List ℕ) → lift 0 ws ≡ ws
unfolding lift lift_pair
lift-none [] = refl
lift-none (w ∷ ws) = let e : pair_of (had_of w) (wanted_of w) ≡ w = pair-whole w in rw (fresh-none, e, lift-none ws)

-- membership: w is such a pair of some pair v of ws
pub lift_mem : (m : ℕ) (ws : List ℕ) (w : ℕ) → Memᴰ w (lift m ws)
    → (v : ℕ) × Memᴰ v ws × T (fresh_in m (wanted_of v)) × (w ≡ pair_of (bit_or m (had_of v)) (wanted_of v))
unfolding lift lift_pair
lift_mem m [] w i = absurd (Memᴰ.not-nil i)
lift_mem m (v ∷ ws) w i = ⊎_elim
    (λ j. let (t, e) = only w (pair_of (bit_or m (had_of v)) (wanted_of v)) (fresh_in m (wanted_of v)) j in (v, Memᴰ.head refl, t, e))
    (λ j. let (v', k, free, e) = lift_mem m ws w j in (v', Memᴰ.tail k, free, e))
    (Memᴰ.append_cases (lift_pair m v) i)

pub mem_lift : (m : ℕ) (ws : List ℕ) (v : ℕ) → Memᴰ v ws → T (fresh_in m (wanted_of v))
    → Memᴰ (pair_of (bit_or m (had_of v)) (wanted_of v)) (lift m ws)
unfolding lift lift_pair
mem_lift m [] v i free = absurd (Memᴰ.not-nil i)
mem_lift m (x ∷ ws) v i free = ⊎_elim
    (λ e. rw (← e, T_true (fresh_in m (wanted_of v)) free) (Memᴰ.head refl))
    (λ j. Memᴰ.append_right (lift_pair m x) (mem_lift m ws v j free))
    (Memᴰ.cases_cons i)

-- the same pairs, by sets of claims in place of counts, and with one list for each procedure
unfoldable pub lifted_with : (ℕ → List ℕ) → ℕ → Block → List ℕ
lifted_with g m done = []
lifted_with g m (skip r) = lifted_with g m r
lifted_with g m (call p r) = lift m (g p) ++ lifted_with g m r
lifted_with g m (hold l b r) = lift_pair m (pair_of 0 l) ++ (lifted_with g (bit_or m (2 ^ l)) b ++ lifted_with g m r)
lifted_with g m (loop b r) = lifted_with g m b ++ lifted_with g m r
lifted_with g m (either a b r) = lifted_with g m a ++ (lifted_with g m b ++ lifted_with g m r)
lifted_with g m (end l r) = lifted_with g m r

unfoldable pub lifted_at : ℕ → List Block → ℕ → List ℕ
lifted_at zero ps p = []
lifted_at (suc d) ps p = lifted_with (lifted_at d ps) 0 (body_in ps p)

-- Proposition 6.2, over a block
pub lifted_lift : (g : ℕ → List ℕ) (m n : ℕ) (b : Block) → lift m (lifted_with g n b) ≡ lifted_with g (bit_or m n) b
unfolding lifted_with lift
lifted_lift g m n done = refl
lifted_lift g m n (skip r) = lifted_lift g m n r
lifted_lift g m n (call p r) = rw (lift_append, lift-lift, lifted_lift g m n r)
lifted_lift g m n (hold l b r) =
    rw (lift_append, lift_append, lift-pair, lifted_lift g m (bit_or n (2 ^ l)) b, lifted_lift g m n r, or_assoc)
lifted_lift g m n (loop b r) = rw (lift_append, lifted_lift g m n b, lifted_lift g m n r)
lifted_lift g m n (either a b r) = rw (lift_append, lift_append, lifted_lift g m n a, lifted_lift g m n b, lifted_lift g m n r)
lifted_lift g m n (end l r) = lifted_lift g m n r

pair-lift : (cs : List ℕ) (l : ℕ) → l < claim_count → pair_at cs l ≡ lift_pair (had cs) (pair_of 0 l)
unfolding lift_pair
pair-lift cs l h =
    let claim : wanted_of (pair_of 0 l) ≡ l = pair-wants 0 l h in
    let locks : had_of (pair_of 0 l) ≡ 0 = pair-had 0 l h in
    rw (claim, locks, or_zero_r, fresh-held cs l)

module _ (C : ℕ → Type 0) (f : ℕ → List ℕ → List ℕ) (g : ℕ → List ℕ)
    (called : (p : ℕ) → C p → (cs : List ℕ) → length cs ≡ claim_count → f p cs ≡ lift (had cs) (g p)) where
  pub pairs-lifted_with : (cs : List ℕ) (b : Block) → length cs ≡ claim_count → Written C b → pairs_with f cs b ≡ lifted_with g (had cs) b
  unfolding Written pairs_with lifted_with
  pairs-lifted_with cs done e w = refl
  pairs-lifted_with cs (skip r) e w = pairs-lifted_with cs r e w
  pairs-lifted_with cs (call p r) e w = cc (called p w.0 cs e, pairs-lifted_with cs r e w.1)
  pairs-lifted_with cs (hold l b r) e w =
      let inner : pairs_with f (up l cs) b ≡ lifted_with g (bit_or (had cs) (2 ^ l)) b =
      rw (pairs-lifted_with (up l cs) b (length_up l cs ∙ e) w.1, held_begin cs l (rw e w.0)) in
      cc (pair-lift cs l w.0, inner, pairs-lifted_with cs r e w.2)
  pairs-lifted_with cs (loop b r) e w = cc (pairs-lifted_with cs b e w.0, pairs-lifted_with cs r e w.1)
  pairs-lifted_with cs (either a b r) e w = cc (pairs-lifted_with cs a e w.0, pairs-lifted_with cs b e w.1, pairs-lifted_with cs r e w.2)
  pairs-lifted_with cs (end l r) e w = absurd w

module _ (ps : List Block) (rank : ℕ → ℕ) (s : Sound ps rank) where
  pub pairs-lifted_at : (d p : ℕ) → rank p < d → (cs : List ℕ) → length cs ≡ claim_count → pairs_at d ps p cs ≡ lift (had cs) (lifted_at d ps p)
  unfolding pairs_at lifted_at
  pairs-lifted_at zero p h cs e = absurd (omega arith)
  pairs-lifted_at (suc d) p h cs e = rw (lifted_lift, or_zero_r)
      (pairs-lifted_with (λ q. rank q < d) (pairs_at d ps) (lifted_at d ps) (pairs-lifted_at d) cs (body_in ps p) e (body_below ps rank s d p (omega arith)))

  pub pairs_lifted : (d p : ℕ) → rank p < d → pairs d ps p ≡ lifted_at d ps p
  unfolding had_from
  pairs_lifted d p h = pairs-lifted_at d p h unlocked refl ∙ lift-none (lifted_at d ps p)

  -- Proposition 6.2: the pairs with some locks held, from the pairs with none held
  pub pairs-lift : (d p : ℕ) → rank p < d → (cs : List ℕ) → length cs ≡ claim_count → pairs_at d ps p cs ≡ lift (had cs) (pairs d ps p)
  pairs-lift d p h cs e = rw (pairs_lifted d p h) (pairs-lifted_at d p h cs e)

  -- the same by members, as published: the pairs of a call made with the locks of cs held are those (⌊L⌋ ∪ X, ℓ) of the callee's pairs (X, ℓ) with
  -- ℓ fresh
  pub call-pairs : (d p : ℕ) → rank p < d → (cs : List ℕ) → length cs ≡ claim_count → (w : ℕ)
      → Memᴰ w (pairs_at d ps p cs) ↔
      ((v : ℕ) × Critical ps p v × T (fresh_in (had cs) (wanted_of v)) × (w ≡ pair_of (bit_or (had cs) (had_of v)) (wanted_of v)))
  call-pairs d p h cs e w = rw (pairs-lift d p h cs e) (
    λ m. let (v, i, free, is) = lift_mem (had cs) (pairs d ps p) w m in (v, (pairs-critical ps rank s d p h v).0 i, free, is),
    λ q. rw q.3 (mem_lift (had cs) (pairs d ps p) q.0 ((pairs-critical ps rank s d p h q.0).1 q.1) q.2),
  )
