-- The first number of which something holds: there is at most one, so a search that finds such a number names it (`names-scanned`). Tests, and what they say.
use Prim.Native.Nat.{ℕ, ◌<◌, ◌≤◌}
use mathlib.Core.Bool.{Bool, true, false, not, ◌||◌}
use mathlib.Core.Logic.{◌⊎◌, inl, inr, ⊎_elim, ◌≢◌, ◌↔◌}
use mathlib.Core.Option.{Option, none, some, none-ne-some, some-injective}
use mathlib.Core.Path.{◌≡◌, refl, sym, ap, subst, ◌∙◌}
use native.Mathlib.Omega.{arith}
use lib.Dec.{T, ltb, leb, eqb}
use borrow.Author.Tests.{lt-ltb, le-ltb, le-leb, lt-leb, eq-eqb, ne_eqb}
use Rattle.laws.proofs.Tests.{lt_or_le, eq_or_ne}
use Rattle.demands.specs.Lines.{First}
use Rattle.demands.proofs.Order.{Names}

pub first-unique : (P : ℕ → Type 0) (m n : ℕ) → First P m → First P n → m ≡ n
first-unique P m n x y =
    ⊎_elim (λ (h : m < n). absurd (y.none_before m h x.here))
    (λ (h : n ≤ m). ⊎_elim (λ (k : n < m). absurd (x.none_before n k y.here)) (λ (k : m ≤ n). omega arith) (lt_or_le n m))
    (lt_or_le m n)

-- a test says whether P
abbrev pub Decides : Bool → Type 0 → Type 0
Decides b P = ((b ≡ true) × P) ⊎ ((b ≡ false) × (P → ⊥))

pub holds_where : (b : Bool) (P : Type 0) → Decides b P → b ≡ true → P
holds_where b P (inl x) e = x.1
holds_where b P (inr x) e = absurd (subst T (sym e ∙ x.0) tt)

pub fails_where : (b : Bool) (P : Type 0) → Decides b P → b ≡ false → P → ⊥
fails_where b P (inl x) e r = subst T (sym x.0 ∙ e) tt
fails_where b P (inr x) e r = x.1 r

pub false_where : (b : Bool) (P : Type 0) → Decides b P → (P → ⊥) → b ≡ false
false_where b P (inl x) f = absurd (f x.1)
false_where b P (inr x) f = x.0

-- a test of what is the same
pub decides_iff : (b : Bool) (P Q : Type 0) → P ↔ Q → Decides b P → Decides b Q
decides_iff b P Q e (inl x) = inl (x.0, e.0 x.1)
decides_iff b P Q e (inr x) = inr (x.0, λ q. x.1 (e.1 q))

pub decides_itself : (b : Bool) → Decides b (T b)
decides_itself true = inl (refl, tt)
decides_itself false = inr (refl, λ t. t)

-- a test that something fails
pub decides_not : (b : Bool) (P : Type 0) → Decides b P → Decides (not b) (P → ⊥)
decides_not b P (inl x) = inr (ap not x.0, λ f. f x.1)
decides_not b P (inr x) = inl (ap not x.0, x.1)

-- a test that one of two holds
pub decides_or : (a b : Bool) (P Q : Type 0) → Decides a P → Decides b Q → Decides (a || b) (P ⊎ Q)
decides_or a b P Q (inl x) y = rw x.0 (inl (refl, inl x.1))
decides_or a b P Q (inr x) (inl y) = rw x.0 (inl (y.0, inr y.1))
decides_or a b P Q (inr x) (inr y) = rw x.0 (inr (y.0, ⊎_elim x.1 y.1))

pub equal : (m n : ℕ) → Decides (eqb m n) (m ≡ n)
equal m n = ⊎_elim (λ (h : m ≡ n). inl (eq-eqb m n h, h)) (λ (h : m ≢ n). inr (ne_eqb m n h, h)) (eq_or_ne m n)

pub below : (m n : ℕ) → Decides (ltb m n) (m < n)
below m n = ⊎_elim (λ (h : m < n). inl (lt-ltb m n h, h)) (λ (h : n ≤ m). inr (le-ltb m n h, λ k. omega arith)) (lt_or_le m n)

pub at_most : (m n : ℕ) → Decides (leb m n) (m ≤ n)
at_most m n = ⊎_elim (λ (h : n < m). inr (lt-leb m n h, λ k. omega arith)) (λ (h : m ≤ n). inl (le-leb m n h, h)) (lt_or_le n m)

-- what a search says by its answer: the first number of which P holds, or that there is none
abbrev pub Scanned : (ℕ → Type 0) → Option ℕ → Type 0
Scanned P none = (n : ℕ) → P n → ⊥
Scanned P (some n) = First P n

pub names-scanned : (o : Option ℕ) (P : ℕ → Type 0) → Scanned P o → Names o (First P)
names-scanned none P s n = (λ e. absurd (none-ne-some n e), λ f. absurd (s n f.here))
names-scanned (some m) P s n = (λ e. subst (First P) (some-injective m n e) s, λ f. ap {B = Option ℕ} some (first-unique P m n s f))
