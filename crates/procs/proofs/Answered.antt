-- What a check by rules answers, rule after rule, behind a `?`.
use mathlib.Core.Path.{◌≡◌}
use mathlib.Core.Option.{Option, none, some, or_else}
use Rattle.std.specs.Prelude.{Result, Ok, Err}
use Rattle.text.specs.declared.Refusal.{Refusal}
use Rattle.procs.specs.Ruled.{Ruled}

module _ (first later : Option Refusal) where
  pub first_refuses : (x : Refusal) → first ≡ some x → or_else first later ≡ some x
  unfolding or_else
  first_refuses x e = rw e

  pub later_refuses : (x : Refusal) → first ≡ none → later ≡ some x → or_else first later ≡ some x
  unfolding or_else
  later_refuses x e g = rw (e, g)

  pub none_refuses : first ≡ none → later ≡ none → or_else first later ≡ none
  unfolding or_else
  none_refuses e g = rw (e, g)

module _ {A : Type 0} (P : A → Type 0) (r : Result A Refusal) where
  -- a refusal is handed on
  pub ruled_err : (refused : Option Refusal) (x : Refusal) → r ≡ Err x → refused ≡ some x → Ruled refused P r
  ruled_err refused x e g = rw e g

  -- the rules before refuse nothing
  pub ruled_later : (first later : Option Refusal) → first ≡ none → Ruled later P r → Ruled (or_else first later) P r
  unfolding or_else
  ruled_later first later e d = rw e d

pub ruleset in_order = (first_refuses, later_refuses, none_refuses, ruled_err, ruled_later)
