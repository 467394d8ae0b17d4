-- The depth of calls. What is computed of a procedure through its calls does not depend on the depth to which calls are followed, once that is above
-- the procedure's rank: calls go to lower ranks, so none is cut off.
use Prim.Native.Nat.{ℕ, zero, suc, ◌<◌}
use mathlib.Core.List.{List}
use mathlib.Core.Path.{◌≡◌, sym, ◌∙◌}
use native.Mathlib.Omega.{arith}
use Rattle.semantics.specs.Plan.{Block, body_in, Written, Sound}

-- What is computed of a block by F, with calls at most d deep, does not depend on a depth d above the rank: a is a solution of F's equations there.
module _ {A : Type 0} (ps : List Block) (rank : ℕ → ℕ) (s : Sound ps rank) (F : (ℕ → A) → Block → A)
    (agree : (C : ℕ → Type 0) (f g : ℕ → A) → ((p : ℕ) → C p → f p ≡ g p) → (b : Block) → Written C b → F f b ≡ F g b)
    (a : ℕ → ℕ → A) (deeper : (d p : ℕ) → a (suc d) p ≡ F (a d) (body_in ps p)) where
  pub depth_irrelevant : (d e p : ℕ) → rank p < d → rank p < e → a d p ≡ a e p
  depth_irrelevant zero e p h k = absurd (omega arith)
  depth_irrelevant (suc d) zero p h k = absurd (omega arith)
  depth_irrelevant (suc d) (suc e) p h k = deeper d p
      ∙ agree (λ q. rank q < rank p) (a d) (a e) (λ q l. depth_irrelevant d e q (omega arith) (omega arith)) (body_in ps p) (s.body p)
      ∙ sym (deeper e p)

  pub depth_unfolds : (d p : ℕ) → rank p < d → a d p ≡ F (a d) (body_in ps p)
  depth_unfolds d p h = depth_irrelevant d (suc d) p h (omega arith) ∙ deeper d p
