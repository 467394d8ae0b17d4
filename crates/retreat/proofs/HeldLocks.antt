-- What the threads have: the masks along a path, and the table of them at the threads' positions.
use Prim.Native.Nat.{ℕ, zero, suc, ◌+◌, ◌-◌, ◌*◌, ◌<◌, ◌≤◌}
use native.Mathlib.Omega.{arith}
use mathlib.Core.Path.{◌≡◌, refl, sym, ap, ◌∙◌}
use mathlib.Core.Logic.{⊎_elim, ◌≢◌}
use mathlib.Core.Bool.{Bool}
use mathlib.Core.List.{List}
use lib.ListN.{length, get_or, set}
use lib.Seq.{get_or-drop, get_or-set_same, get_or-set_other}
use Rattle.limits.specs.Limits.{max_threads, max_size}
use Rattle.laws.proofs.Tests.{eq_or_ne}
use Rattle.semantics.specs.Conflict.{bars}
use Rattle.semantics.specs.Joins.{join_below, other_than}
use Rattle.semantics.specs.Retreat.{others_at}
use Rattle.retreat.specs.Paths.{masks_of, InRows, Holding, barred_by_others}

pub mask_first : (rows : List ℕ) (t j : ℕ) → j ≡ 0 → 0 ≡ get_or (masks_of rows t) j 0
unfolding masks_of
mask_first rows t j e = rw e

pub mask_next : (rows : List ℕ) (t j r : ℕ) → (j ≡ 0 → ⊥) → r ≡ get_or rows (max_size * t + (j - 1)) 0 → r ≡ get_or (masks_of rows t) j 0
unfolding masks_of
mask_next rows t zero r n f = absurd (n refl)
mask_next rows t (suc j) r n f =
    let e : suc j - 1 ≡ j = omega arith in
    (rw e at f) ∙ sym (get_or-drop (max_size * t) rows j 0)

pub within-at : (positions : List ℕ) (n t : ℕ) → InRows positions n → t < n → get_or positions t 0 ≤ max_size
unfolding InRows
within-at positions n t w h = w t h

-- ---- the table of what the threads have

pub holding-none : (rows positions masks : List ℕ) → Holding rows positions masks 0
unfolding Holding
holding-none rows positions masks t h = absurd (omega arith)

pub holding-more : (rows positions masks : List ℕ) (n t v : ℕ) → max_threads ≡ length masks → n ≤ max_threads → t < n
    → v ≡ get_or (masks_of rows t) (get_or positions t 0) 0 → Holding rows positions masks t → Holding rows positions (set masks t v) (t + 1)
unfolding Holding
holding-more rows positions masks n t v s c h e k i l =
    ⊎_elim
    (λ (z : i ≡ t).
    ap (λ u. get_or (set masks t v) u 0) z ∙ get_or-set_same masks t v 0 (omega arith) ∙ e ∙ ap (λ u. get_or (masks_of rows u) (get_or positions u 0) 0) (sym z))
    (λ (z : i ≢ t). get_or-set_other masks t i v 0 z ∙ k i (omega arith))
    (eq_or_ne i t)

-- what may not stand beside what the others have, from the table of what each has
pub join-same : (p : ℕ → Bool) (f g : ℕ → ℕ) (n : ℕ) → ((i : ℕ) → i < n → f i ≡ g i) → join_below n p f ≡ join_below n p g
unfolding join_below
join-same p f g zero h = refl
join-same p f g (suc n) h = rw (join-same p f g n (λ i b. h i (omega arith)), h n (omega arith))

pub others-held : (rows positions masks : List ℕ) (n k : ℕ) → Holding rows positions masks n → barred_by_others masks n k ≡ others_at n (masks_of rows) positions k
unfolding Holding barred_by_others others_at
others-held rows positions masks n k h = join-same (other_than k) (λ i. bars (get_or masks i 0)) (λ i. bars (get_or (masks_of rows i) (get_or positions i 0) 0)) n (λ i b. ap bars (h i b))
