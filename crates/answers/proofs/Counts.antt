-- An answer that says how much, or the refusal, by its cases: which of the two it is the rules decide (`counted_is`), and part b of its number is small (`counted_carried`).
use Prim.Native.Nat.{ℕ, ◌^◌, ◌<◌}
use mathlib.Core.Logic.{◌↔◌}
use mathlib.Core.Option.{Option, none, some, none-ne-some, some-injective}
use mathlib.Core.Path.{◌≡◌, refl, sym, ap, ◌∙◌}
use Rattle.std.proofs.Common.{Result, Ok, Err, IsErrAnd}
use Rattle.text.specs.declared.Refusal.{Refusal}
use Rattle.answers.specs.Answers.{counted_of, counted_high}
use Rattle.answers.proofs.LineBounds.{Numbers}

-- the refusal that a `?` hands on
pub handed-on : {A : Type 0} (r : Result A Refusal) (x : Refusal) → IsErrAnd r (λ y. y ≡ x) → r ≡ Err x
handed-on (Ok a) x e = elim e [ ]
handed-on (Err y) x e = ap Err e

-- the case of a refusal
pub counted_is : (a : Option Refusal) (n : ℕ) (x : Refusal) → (counted_of a n ≡ Err x) ↔ (a ≡ some x)
unfolding counted_of
counted_is none n x = (λ e. cc, λ e. absurd (none-ne-some x e))
counted_is (some y) n x = (λ e. let i : y ≡ x = cc in ap {B = Option Refusal} some i, λ e. ap Err (some-injective y x e))

pub counted-refused : (a : Option Refusal) (r : Result ℕ Refusal) (n : ℕ) (x : Refusal) → r ≡ counted_of a n → r ≡ Err x → a ≡ some x
counted-refused a r n x e g = (counted_is a n x).0 (sym e ∙ g)

-- the other case: nothing is refused, and there are as many as the answer says
pub counted-kept : (a : Option Refusal) (r : Result ℕ Refusal) (n m : ℕ) → r ≡ counted_of a n → r ≡ Ok m → (a ≡ none) × (m ≡ n)
unfolding counted_of
counted-kept none r n m e g = (refl, cc)
counted-kept (some w) r n m e g = cc

pub counted_carried : (a : Option Refusal) (r : Result ℕ Refusal) (n : ℕ) → r ≡ counted_of a n → (a ≡ none → n < 2 ^ 40) → ((w : Refusal) → a ≡ some w → Numbers w)
    → counted_high r < 2 ^ 40
unfolding counted_of counted_high
counted_carried none r n e h k = rw e (h refl)
counted_carried (some w) r n e h k = rw e (k w refl).line
