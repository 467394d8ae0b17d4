-- What gives the pair.
use Prim.Native.Nat.{ℕ, ◌<◌}
use mathlib.Core.Bool.{Bool, true, ◌&&◌}
use mathlib.Core.Path.{◌≡◌, sym, ap, ◌∙◌}
use lib.Dec.{eqb}
use Rattle.limits.specs.Limits.{claim_count}
use Rattle.semantics.specs.Claims.{claim_word}
use Rattle.semantics.specs.Pairs.{pair_of}
use Rattle.semantics.specs.Paths.{gives, fresh_in}
use Rattle.columns.specs.Columns.{pair_number}
use Rattle.columns.proofs.Numbers.{number_as}

-- a fresh claim gives the pair that it makes
pub gives-tested : (m a w k : ℕ) (f r : Bool) → f ≡ fresh_in m a → f ≡ true → k ≡ claim_word a → r ≡ eqb (pair_number m k) w → a < claim_count → r ≡ gives w m a
gives-tested m a w k f r e z d t h = t ∙ ap (λ v. eqb v w) (number_as m a k h d) ∙ sym (ap (λ b. b && eqb (pair_of m a) w) (sym e ∙ z))
