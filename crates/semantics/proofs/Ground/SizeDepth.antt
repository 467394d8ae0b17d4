-- Sizes through calls. The size of a procedure does not depend on the depth to which calls are followed, once that is above its rank, so `size_of`
-- meets the equations of 01: a call has 1 and the size of what it calls.
use Prim.Native.Nat.{ℕ, ◌<◌}
use mathlib.Core.List.{List}
use mathlib.Core.Path.{◌≡◌, refl}
use lib.ListN.{length}
use Rattle.semantics.specs.Plan.{Block, done, skip, call, hold, loop, either, end, body_in, Written, Sound}
use Rattle.semantics.specs.Sizes.{size_with, size_at, size_of}
use Rattle.semantics.proofs.Ground.CallDepth.{depth_irrelevant, depth_unfolds}

-- s and t agree where the calls meet C
pub size-agree : (C : ℕ → Type 0) (s t : ℕ → ℕ) → ((p : ℕ) → C p → s p ≡ t p) → (b : Block) → Written C b → size_with s b ≡ size_with t b
unfolding size_with Written
size-agree C s t e done w = refl
size-agree C s t e (skip r) w = cc (size-agree C s t e r w)
size-agree C s t e (call p r) w = cc (e p w.0, size-agree C s t e r w.1)
size-agree C s t e (hold l b r) w = cc (size-agree C s t e b w.1, size-agree C s t e r w.2)
size-agree C s t e (loop b r) w = cc (size-agree C s t e b w.0, size-agree C s t e r w.1)
size-agree C s t e (either a b r) w = cc (size-agree C s t e a w.0, size-agree C s t e b w.1, size-agree C s t e r w.2)
size-agree C s t e (end l r) w = absurd w

module _ (ps : List Block) (rank : ℕ → ℕ) (s : Sound ps rank) where
  pub size-depth : (d e p : ℕ) → rank p < d → rank p < e → size_at d ps p ≡ size_at e ps p
  unfolding size_at
  size-depth = depth_irrelevant ps rank s size_with size-agree (λ d p. size_at d ps p) (λ d p. refl)

  pub size_unfolds : (d p : ℕ) → rank p < d → size_at d ps p ≡ size_with (size_at d ps) (body_in ps p)
  unfolding size_at
  size_unfolds = depth_unfolds ps rank s size_with size-agree (λ d p. size_at d ps p) (λ d p. refl)

  -- "1 plus the callee's size for call": the size of a procedure is that of its block, where a call counts the size of the procedure called
  pub size_of-body : (p : ℕ) → rank p < length ps → size_of ps p ≡ size_with (size_of ps) (body_in ps p)
  unfolding size_of
  size_of-body p h = size_unfolds (length ps) p h
