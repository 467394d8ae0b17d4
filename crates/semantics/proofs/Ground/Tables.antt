-- Functions on the threads' numbers as lists of threads (`table`).
use Prim.Native.Nat.{ℕ, zero, suc, ◌<◌}
use mathlib.Core.List.{List}
use mathlib.Core.Logic.{⊎_elim, ◌≢◌}
use mathlib.Core.Path.{◌≡◌, refl, sym, ap, ◌∙◌, subst}
use native.Mathlib.Nat.{not-suc-le-zero, le_of_suc-le-suc}
use lib.ListN.{length, set, length-set}
use lib.Seq.{ext_get_or, get_or-set_same, get_or-set_other}
use Rattle.laws.proofs.Tests.{eq_or_ne}
use Rattle.semantics.specs.Run.{ThreadState, nth, absent_thread}
use Rattle.semantics.specs.Retreat.{table}

pub length-table : (n : ℕ) (f : ℕ → ThreadState) → length (table n f) ≡ n
unfolding table
length-table zero f = refl
length-table (suc n) f = ap suc (length-table n (λ i. f (suc i)))

pub nth-table : (n : ℕ) (f : ℕ → ThreadState) (i : ℕ) → i < n → nth (table n f) i ≡ f i
unfolding table
nth-table zero f i h = absurd (not-suc-le-zero h)
nth-table (suc n) f zero h = refl
nth-table (suc n) f (suc i) h = nth-table n (λ i. f (suc i)) i (le_of_suc-le-suc h)

-- a list of n threads is the table of what stands in it
pub is-table : (n : ℕ) (f : ℕ → ThreadState) (ts : List ThreadState) → length ts ≡ n → ((i : ℕ) → i < n → nth ts i ≡ f i) → ts ≡ table n f
is-table n f ts e h =
    ext_get_or absent_thread ts (table n f) (e ∙ sym (length-table n f))
    (λ i b. let c : i < n = subst (λ m. i < m) e b in h i c ∙ sym (nth-table n f i c))

pub set-table : (n : ℕ) (f g : ℕ → ThreadState) (k : ℕ) → k < n → ((i : ℕ) → i ≢ k → f i ≡ g i) → set (table n f) k (g k) ≡ table n g
set-table n f g k b h =
    is-table n g (set (table n f) k (g k)) (length-set (table n f) k (g k) ∙ length-table n f)
    (λ i c. ⊎_elim
    (λ (e : i ≡ k). ap (nth (set (table n f) k (g k))) e
    ∙ get_or-set_same (table n f) k (g k) absent_thread (subst (λ m. k < m) (sym (length-table n f)) b) ∙ ap g (sym e))
    (λ (d : i ≢ k). get_or-set_other (table n f) k i (g k) absent_thread d ∙ nth-table n f i c ∙ h i d)
    (eq_or_ne i k))
