-- What ends the walk: a call goes one deeper, and every other step goes forward in the table.
use Prim.Native.Nat.{ℕ, zero, suc, ◌+◌, ◌-◌, ◌*◌, ◌<◌}
use native.Mathlib.Nat.{suc-mul}
use native.Mathlib.Omega.{arith}
use mathlib.Core.Path.{◌≡◌, refl}

-- Of a walk at a place of a table of n forms, with calls less than d deep. The functions call each other at the same place too: k is 3 for a statement, 2 for
-- those of a call and of the brackets, 1 for `enter`, and 0 for `walk`.
unfoldable pub measure : ℕ → ℕ → ℕ → ℕ → ℕ
measure d n at k = d * (4 * n + 8) + 4 * (n + 1 - at) + k

pub deeper-falls : (d n t at q : ℕ) → measure d n at 2 ≡ t → (d ≡ 0 → ⊥) → measure (d - 1) n q 1 < t
unfolding measure
deeper-falls d n t at q e z = go d z e
  where
    go : (d : ℕ) → (d ≡ 0 → ⊥) → measure d n at 2 ≡ t → measure (d - 1) n q 1 < t
    go zero z e = absurd (z refl)
    go (suc d) z e = let h : suc d - 1 ≡ d = omega arith in rw h (omega (arith, suc-mul d (4 * n + 8)))
