-- A choice by a flag.
use Rattle.std.specs.Prelude.{Bool, cond}

-- `cond`, shut: for tests by a flag that a call answered. Tests of numbers use `cond` itself, which is opened everywhere
unfoldable pub pick : {A : Type 0} → Bool → A → A → A
pick b x y = cond b x y
