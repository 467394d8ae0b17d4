-- Sizes and pairs, whatever the order in which the procedures stand in the text: 02, change 2, "Sizes and pairs follow the calls and not the text order." They are computed with
-- calls followed less deep than there are procedures. That is deep enough for every plan that rule 9 is asked of (theorem `follows-calls`), and so for every accepted one
-- (`accepted-follows-calls`).
use Rattle.std.specs.Prelude.{ℕ, ◌<◌, ◌≤◌, List, ◌≡◌, length}
use Rattle.semantics.specs.Plan.{Block, body_in}
use Rattle.semantics.specs.Sizes.{size_with, size_at, size_of}
use Rattle.semantics.specs.Pairs.{pairs_with, pairs_at, pairs}

pub record FollowsCalls (ps : List Block) : Type 0 where
  -- 01: "1 plus the callee's size for call", wherever the callee stands
  pub size_of-block : (p : ℕ) → p < length ps → size_of ps p ≡ size_with (size_of ps) (body_in ps p)
  -- that settles the sizes
  pub size-unique : (s : ℕ → ℕ) → ((p : ℕ) → s p ≡ size_with s (body_in ps p)) → (p : ℕ) → p < length ps → s p ≡ size_of ps p
  -- no greater depth gives another size
  pub size-deeper : (d p : ℕ) → length ps ≤ d → p < length ps → size_at d ps p ≡ size_of ps p
  -- a call has the pairs of its callee, with what is had at the call
  pub pairs_of-block : (p : ℕ) → p < length ps → (cs : List ℕ) → pairs_at (length ps) ps p cs ≡ pairs_with (pairs_at (length ps) ps) cs (body_in ps p)
  -- no greater depth gives other pairs
  pub pairs-deeper : (d p : ℕ) → length ps ≤ d → p < length ps → pairs d ps p ≡ pairs (length ps) ps p
