-- Blocks as read and remainders of threads. A remainder is a block as read in which holds have begun, so that `end`s stand at its top level alone.
use Prim.Native.Nat.{ℕ, zero, suc, ◌+◌, ◌-◌, ◌<◌, ◌≤◌}
use mathlib.Core.List.{List, [], ◌∷◌, map}
use mathlib.Core.Path.{◌≡◌, refl, ap}
use native.Mathlib.Omega.{arith}
use native.Mathlib.Decide.{dec_lt}
use lib.ListN.{length, get_or, set, length-set}
use lib.Seq.{set-set, set-get_or, set_out, get_or-set_same}
use Rattle.limits.specs.Limits.{claim_count}
use Rattle.semantics.specs.Plan.{Block, done, skip, call, hold, loop, either, end, ◌⨾◌, body_in, Written, Sound, AnyCall, Plain}
use Rattle.semantics.specs.Run.{up, down}

pub ⨾-done : (b : Block) → b ⨾ done ≡ b
unfolding ◌⨾◌
⨾-done done = refl
⨾-done (skip r) = ap skip (⨾-done r)
⨾-done (call p r) = ap (call p) (⨾-done r)
⨾-done (hold l b r) = ap (hold l b) (⨾-done r)
⨾-done (loop b r) = ap (loop b) (⨾-done r)
⨾-done (either a b r) = ap (either a b) (⨾-done r)
⨾-done (end l r) = ap (end l) (⨾-done r)

pub absent-body : (ps : List Block) (p : ℕ) → length ps ≤ p → body_in ps p ≡ done
unfolding body_in
absent-body [] p h = refl
absent-body (b ∷ ps) zero h = absurd (omega arith)
absent-body (b ∷ ps) (suc p) h = absent-body ps p (omega arith)

-- a table of the procedures' blocks, by f
pub map-bodies : {A : Type 0} (f : Block → A) (ps : List Block) (p : ℕ) → get_or (map f ps) p (f done) ≡ f (body_in ps p)
unfolding body_in
map-bodies f [] p = refl
map-bodies f (b ∷ ps) zero = refl
map-bodies f (b ∷ ps) (suc p) = map-bodies f ps p

-- to end what was begun leaves the counts as they were
pub down-up : (l : ℕ) (cs : List ℕ) → down l (up l cs) ≡ cs
unfolding up down
down-up l cs = go (dec_lt l (length cs))
  where
    go : Dec (l < length cs) → set (set cs l (get_or cs l 0 + 1)) l (get_or (set cs l (get_or cs l 0 + 1)) l 0 - 1) ≡ cs
    go (yes h) =
        let e : get_or cs l 0 + 1 - 1 ≡ get_or cs l 0 = omega arith in
        rw (set-set, get_or-set_same, e, set-get_or)
    go (no h) = let o : length cs ≤ l = omega arith in rw (set_out cs, set_out cs)

pub length_up : (l : ℕ) (cs : List ℕ) → length (up l cs) ≡ length cs
unfolding up
length_up l cs = simp length-set

pub length-down : (l : ℕ) (cs : List ℕ) → length (down l cs) ≡ length cs
unfolding down
length-down l cs = simp length-set

-- calls that meet C and so meet D
pub written_weaken : (C D : ℕ → Type 0) → ((p : ℕ) → C p → D p) → (b : Block) → Written C b → Written D b
unfolding Written
written_weaken C D h done w = tt
written_weaken C D h (skip r) w = written_weaken C D h r w
written_weaken C D h (call p r) w = (h p w.0, written_weaken C D h r w.1)
written_weaken C D h (hold l b r) w = (w.0, written_weaken C D h b w.1, written_weaken C D h r w.2)
written_weaken C D h (loop b r) w = (written_weaken C D h b w.0, written_weaken C D h r w.1)
written_weaken C D h (either a b r) w = (written_weaken C D h a w.0, written_weaken C D h b w.1, written_weaken C D h r w.2)
written_weaken C D h (end l r) w = absurd w

pub body_below : (ps : List Block) (rank : ℕ → ℕ) → Sound ps rank → (d p : ℕ) → rank p ≤ d → Written (λ q. rank q < d) (body_in ps p)
body_below ps rank s d p h = written_weaken (λ q. rank q < rank p) (λ q. rank q < d) (λ q k. omega arith) (body_in ps p) (s.body p)

-- a remainder: as Written, and the holds that have begun end in it, outside of any other statement
unfoldable pub Remainder : (ℕ → Type 0) → Block → Type 0
Remainder C done = Unit {0}
Remainder C (skip r) = Remainder C r
Remainder C (call p r) = C p × Remainder C r
Remainder C (hold l b r) = (l < claim_count) × Written C b × Remainder C r
Remainder C (loop b r) = Written C b × Remainder C r
Remainder C (either a b r) = Written C a × Written C b × Remainder C r
Remainder C (end l r) = (l < claim_count) × Remainder C r

module _ (C : ℕ → Type 0) where
  pub remainder_⨾ : (a b : Block) → Written C a → Remainder C b → Remainder C (a ⨾ b)
  unfolding Written Remainder ◌⨾◌
  remainder_⨾ done b w v = v
  remainder_⨾ (skip r) b w v = remainder_⨾ r b w v
  remainder_⨾ (call p r) b w v = (w.0, remainder_⨾ r b w.1 v)
  remainder_⨾ (hold l x r) b w v = (w.0, w.1, remainder_⨾ r b w.2 v)
  remainder_⨾ (loop x r) b w v = (w.0, remainder_⨾ r b w.1 v)
  remainder_⨾ (either x y r) b w v = (w.0, w.1, remainder_⨾ r b w.2 v)
  remainder_⨾ (end l r) b w v = absurd w

  pub remainder_of_written : (b : Block) → Written C b → Remainder C b
  unfolding Remainder
  remainder_of_written b w = rw (⨾-done b) at (remainder_⨾ b done w tt)

pub plain_body : {ps : List Block} {rank : ℕ → ℕ} → Sound ps rank → (p : ℕ) → Plain (body_in ps p)
plain_body {ps} {rank} s p = written_weaken (λ q. rank q < rank p) AnyCall (λ q k. tt) (body_in ps p) (s.body p)
