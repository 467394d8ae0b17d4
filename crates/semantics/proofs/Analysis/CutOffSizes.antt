-- Sizes cut off at a limit: what is cut off can be added and cut off again, so the size of a procedure, cut off, follows from those of its callees, cut off (`size_by_callees`).
use Prim.Native.Nat.{ℕ, ◌+◌, ◌<◌, min}
use mathlib.Core.List.{List}
use mathlib.Core.Path.{◌≡◌, refl, sym, ap, ◌∙◌}
use native.Mathlib.Omega.{arith}
use lib.Dec.{T}
use lib.ListN.{length}
use Rattle.semantics.specs.Plan.{Block, done, skip, call, hold, loop, either, end, body_in, Ranks}
use Rattle.semantics.specs.Calls.{has_call}
use Rattle.semantics.specs.Sizes.{size_with, size_of}
use Rattle.semantics.proofs.Ground.SizeDepth.{size-agree, size_of-body}
use Rattle.semantics.proofs.Calls.Ranks.{call-written}

module _ (limit : ℕ) where
  pub saturate_add : (a b : ℕ) → min limit (min limit a + min limit b) ≡ min limit (a + b)
  saturate_add a b = omega arith

  pub saturate_cong : (a b c d : ℕ) → min limit a ≡ min limit c → min limit b ≡ min limit d → min limit (a + b) ≡ min limit (c + d)
  saturate_cong a b c d e f = sym (saturate_add a b) ∙ rw (e, f) (saturate_add c d)

-- the size of a block, where the sizes of procedures are cut off
pub size_saturates : (limit : ℕ) (s t : ℕ → ℕ) → ((p : ℕ) → min limit (s p) ≡ min limit (t p)) → (b : Block)
    → min limit (size_with s b) ≡ min limit (size_with t b)
unfolding size_with
size_saturates limit s t e done = refl
size_saturates limit s t e (skip r) = saturate_cong limit 1 _ 1 _ refl (size_saturates limit s t e r)
size_saturates limit s t e (call p r) =
    saturate_cong limit (1 + s p) _ (1 + t p) _ (saturate_cong limit 1 _ 1 _ refl (e p)) (size_saturates limit s t e r)
size_saturates limit s t e (hold l b r) =
    saturate_cong limit (2 + size_with s b) _ (2 + size_with t b) _
    (saturate_cong limit 2 _ 2 _ refl (size_saturates limit s t e b)) (size_saturates limit s t e r)
size_saturates limit s t e (loop b r) =
    saturate_cong limit (2 + size_with s b) _ (2 + size_with t b) _
    (saturate_cong limit 2 _ 2 _ refl (size_saturates limit s t e b)) (size_saturates limit s t e r)
size_saturates limit s t e (either a b r) =
    saturate_cong limit (1 + size_with s a + size_with s b) _ (1 + size_with t a + size_with t b) _
    (saturate_cong limit (1 + size_with s a) _ (1 + size_with t a) _
    (saturate_cong limit 1 _ 1 _ refl (size_saturates limit s t e a)) (size_saturates limit s t e b))
    (size_saturates limit s t e r)
size_saturates limit s t e (end l r) = saturate_cong limit 1 _ 1 _ refl (size_saturates limit s t e r)

-- the size of a procedure, by the sizes of its callees, cut off
pub size_by_callees : (limit : ℕ) (ps : List Block) (r : Ranks ps) (known : ℕ → ℕ) (p : ℕ) → p < length ps
    → ((q : ℕ) → T (has_call (body_in ps p) q) → known q ≡ min limit (size_of ps q)) → min limit (size_with known (body_in ps p)) ≡ min limit (size_of ps p)
size_by_callees limit ps r known p h e =
    let cut : ℕ → ℕ = λ q. min limit (size_of ps q) in
    let callees = call-written (λ q. r.rank q < r.rank p) (λ q. known q ≡ cut q) (body_in ps p) (r.sound.body p) (λ q c _. e q c) in
    ap (min limit) (size-agree (λ q. known q ≡ cut q) known cut (λ q c. c) (body_in ps p) callees)
    ∙ size_saturates limit cut (size_of ps) (λ q. omega arith) (body_in ps p)
    ∙ ap (min limit) (sym (size_of-body ps r.rank r.sound p (r.below p h)))
