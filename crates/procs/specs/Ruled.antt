-- The answer of a check by rules.
use Rattle.std.specs.Prelude.{Result, Ok, Err, ◌≡◌}
use Rattle.std.proofs.Math.Option.{Option, none, some}
use Rattle.text.specs.declared.Refusal.{Refusal}

-- Where `refused` says that no rule refuses, a value that has P; and exactly the refusal where one does.
abbrev pub Ruled : {A : Type 0} → Option Refusal → (A → Type 0) → Result A Refusal → Type 0
Ruled refused P (Ok a) = (refused ≡ none) × P a
Ruled refused P (Err x) = refused ≡ some x
