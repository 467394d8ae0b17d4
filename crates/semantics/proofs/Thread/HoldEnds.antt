-- Which holds a remainder will end, and how it goes on after each (`WillEnd`). A step leaves these holds as they are, but that it begins one or ends
-- one.
use Prim.Native.Nat.{ℕ, ◌<◌}
use mathlib.Core.List.{List}
use mathlib.Core.Logic.{◌⊎◌, inl, inr, ⊎_elim}
use mathlib.Core.Path.{◌≡◌, refl}
use native.Mathlib.Omega.{arith}
use lib.Dec.{eqb}
use Rattle.laws.proofs.Tests.{T_true, eq→eqb}
use Rattle.semantics.specs.Plan.{Block, done, skip, call, hold, loop, either, end, ◌⨾◌, body_in, Written, AnyCall, Plain}
use Rattle.semantics.proofs.Thread.Remainders.{⨾-done, Remainder}
use Rattle.semantics.proofs.Thread.Transitions.{Transition, skips, calls, begins, ends, enters, leaves, takes_one, takes_two}
use Rattle.semantics.proofs.Thread.Balance.{end_count}

-- at its top level the remainder ends a hold of l, and goes on as r
unfoldable pub WillEnd : ℕ → Block → Block → Type 0
WillEnd l r done = ⊥
WillEnd l r (skip s) = WillEnd l r s
WillEnd l r (call p s) = WillEnd l r s
WillEnd l r (hold k b s) = WillEnd l r s
WillEnd l r (loop b s) = WillEnd l r s
WillEnd l r (either a b s) = WillEnd l r s
WillEnd l r (end k s) = ((k ≡ l) × (s ≡ r)) ⊎ WillEnd l r s

-- a plain block in front ends nothing, and lets what follows end
pub will_end_⨾ : (l : ℕ) (r : Block) (a b : Block) → Plain a → WillEnd l r (a ⨾ b) → WillEnd l r b
unfolding Written WillEnd ◌⨾◌
will_end_⨾ l r done b w h = h
will_end_⨾ l r (skip s) b w h = will_end_⨾ l r s b w h
will_end_⨾ l r (call p s) b w h = will_end_⨾ l r s b w.1 h
will_end_⨾ l r (hold k x s) b w h = will_end_⨾ l r s b w.2 h
will_end_⨾ l r (loop x s) b w h = will_end_⨾ l r s b w.1 h
will_end_⨾ l r (either x y s) b w h = will_end_⨾ l r s b w.2 h
will_end_⨾ l r (end k s) b w h = absurd w

pub will_end_after : (l : ℕ) (r a b : Block) → WillEnd l r b → WillEnd l r (a ⨾ b)
unfolding WillEnd ◌⨾◌
will_end_after l r done b h = h
will_end_after l r (skip s) b h = will_end_after l r s b h
will_end_after l r (call p s) b h = will_end_after l r s b h
will_end_after l r (hold k x s) b h = will_end_after l r s b h
will_end_after l r (loop x s) b h = will_end_after l r s b h
will_end_after l r (either x y s) b h = will_end_after l r s b h
will_end_after l r (end k s) b h = inr (will_end_after l r s b h)

pub will_end_positive : (l : ℕ) (r b : Block) → WillEnd l r b → 0 < end_count l b
unfolding WillEnd end_count
will_end_positive l r done h = absurd h
will_end_positive l r (skip s) h = will_end_positive l r s h
will_end_positive l r (call p s) h = will_end_positive l r s h
will_end_positive l r (hold k x s) h = will_end_positive l r s h
will_end_positive l r (loop x s) h = will_end_positive l r s h
will_end_positive l r (either x y s) h = will_end_positive l r s h
will_end_positive l r (end k s) h =
    ⊎_elim (λ (e : (k ≡ l) × (s ≡ r)). rw (T_true (eqb k l) (eq→eqb k l e.0)) (omega arith))
    (λ (e : WillEnd l r s). omega (arith, will_end_positive l r s e)) h

pub plain_ends_nothing : (l : ℕ) (r a : Block) → Plain a → WillEnd l r a → ⊥
unfolding WillEnd
plain_ends_nothing l r a w e = will_end_⨾ l r a done w (rw ⨾-done e)

module _ (ps : List Block) (bodies : (p : ℕ) → Plain (body_in ps p)) where
  -- a hold that will end had begun before the step, or begins with it
  pub will_end_before : {c : ℕ} {b b' : Block} {cs cs' : List ℕ} {l : ℕ} {r : Block} → Transition ps c b cs b' cs' → Remainder AnyCall b
      → WillEnd l r b'
      → WillEnd l r b ⊎ ((x : Block) × (b ≡ hold l x r))
  unfolding Remainder WillEnd
  will_end_before {l = m} {r = s} skips k e = inl e
  will_end_before {l = m} {r = s} (calls {p} {r}) k e = inl (will_end_⨾ m s (body_in ps p) r (bodies p) e)
  will_end_before {l = m} {r = s} (begins {l} {b} {r}) k e =
      ⊎_elim (λ q. inr (b, λ i. hold (q.0 i) b (q.1 i))) inl (will_end_⨾ m s b (end l r) k.1 e)
  will_end_before {l = m} {r = s} ends k e = inl (inr e)
  will_end_before {l = m} {r = s} (enters {b} {r}) k e = inl (will_end_⨾ m s b (loop b r) k.0 e)
  will_end_before {l = m} {r = s} leaves k e = inl e
  will_end_before {l = m} {r = s} (takes_one {a} {b} {r}) k e = inl (will_end_⨾ m s a r k.0 e)
  will_end_before {l = m} {r = s} (takes_two {a} {b} {r}) k e = inl (will_end_⨾ m s b r k.1 e)

  -- a hold that begins will end; one that has begun will still end after a step, or ends with it
  pub begin_will_end : {c l : ℕ} {x r b' : Block} {cs cs' : List ℕ} → Transition ps c (hold l x r) cs b' cs' → WillEnd l r b'
  unfolding WillEnd
  begin_will_end (begins {l} {b} {r}) = will_end_after l r b (end l r) (inl (refl, refl))

  pub will_end_next : {c : ℕ} {b b' : Block} {cs cs' : List ℕ} {l : ℕ} {r : Block} → Transition ps c b cs b' cs' → WillEnd l r b
      → WillEnd l r b' ⊎ ((b ≡ end l r) × (b' ≡ r))
  unfolding WillEnd
  will_end_next {l = m} {r = s} skips e = inl e
  will_end_next {l = m} {r = s} (calls {p} {r}) e = inl (will_end_after m s (body_in ps p) r e)
  will_end_next {l = m} {r = s} (begins {l} {b} {r}) e = inl (will_end_after m s b (end l r) (inr e))
  will_end_next {l = m} {r = s} (ends {l} {r}) e = ⊎_elim (λ (q : (l ≡ m) × (r ≡ s)). inr (λ i. end (q.0 i) (q.1 i), q.1)) inl e
  will_end_next {l = m} {r = s} (enters {b} {r}) e = inl (will_end_after m s b (loop b r) e)
  will_end_next {l = m} {r = s} leaves e = inl e
  will_end_next {l = m} {r = s} (takes_one {a} {b} {r}) e = inl (will_end_after m s a r e)
  will_end_next {l = m} {r = s} (takes_two {a} {b} {r}) e = inl (will_end_after m s b r e)
