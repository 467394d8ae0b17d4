-- A lent buffer that is written into: what is given fills it from a place on, mostly its start, and the rest is kept. For any element.
use Rattle.std.specs.Prelude.{ℕ, ◌+◌, ◌≤◌, List, ◌++◌, ◌≡◌, length, take, drop}

-- "fill the buffer's start (the rest kept)"
abbrev pub filled : {A : Type 0} → List A → List A → List A
filled given before = given ++ drop (length given) before

-- `after` is `before` with `given` written over it at a place, and `next` the place behind that, within the buffer
pub record Wrote {A : Type 0} (before after : List A) (at next : ℕ) (given : List A) : Type 0 where
  pub place : next ≡ at + length given
  pub fits : next ≤ length before
  pub written : after ≡ take at before ++ given ++ drop next before
