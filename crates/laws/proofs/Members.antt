-- Members of a list by their places: an entry within the list is a member, and a member stands at some place.
use Prim.Native.Nat.{ℕ, zero, suc, ◌<◌}
use native.Mathlib.Omega.{arith}
use mathlib.Core.List.Memᴰ
use mathlib.Core.List.{List, [], ◌∷◌, Memᴰ}
use mathlib.Core.Logic.{⊎_elim}
use mathlib.Core.Path.{◌≡◌, refl, sym}
use lib.ListN.{length, get_or}

pub get_or-mem : (l : List ℕ) (i d : ℕ) → i < length l → Memᴰ (get_or l i d) l
get_or-mem [] i d h = absurd (omega arith)
get_or-mem (x ∷ xs) zero d h = Memᴰ.head refl
get_or-mem (x ∷ xs) (suc i) d h = Memᴰ.tail (get_or-mem xs i d (omega arith))

pub mem-get_or : (l : List ℕ) (e : ℕ) → Memᴰ e l → (i : ℕ) × (i < length l) × (get_or l i 0 ≡ e)
mem-get_or [] e m = absurd (Memᴰ.not-nil m)
mem-get_or (x ∷ xs) e m = ⊎_elim (λ (z : e ≡ x). (0, omega arith, sym z))
    (λ j. let (i, b, z) = mem-get_or xs e j in (suc i, omega arith, z)) (Memᴰ.cases_cons m)
