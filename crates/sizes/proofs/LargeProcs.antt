-- Rule 9 by a table of sizes: what the test of a procedure's size says.
use Prim.Native.Nat.{ℕ, ◌<◌}
use native.Mathlib.Omega.{arith}
use mathlib.Core.Path.{◌≡◌}
use mathlib.Core.Bool.{Bool}
use mathlib.Core.List.{List}
use lib.Dec.{ltb}
use lib.ListN.{get_or}
use Rattle.std.proofs.lemmas.Bool.Decides.{nat_tests}
use Rattle.limits.specs.Limits.{max_size}
use Rattle.semantics.specs.Sizes.{size_of}
use Rattle.plan.specs.Settled.{table_plan}
use Rattle.procs.specs.declared.Layout.{Layout}
use Rattle.procs.specs.Laid.{Laid}
use Rattle.sizes.specs.Sized.{Sized}

-- "Some procedure's size exceeds 1,024"
abbrev pub large : List ℕ → ℕ → Bool
large table p = ltb max_size (size_of (table_plan table).procs p)

pub large_tested : (table sizes : List ℕ) (l : Layout) (p : ℕ) (q : Bool) → Laid table l → Sized table sizes → p < l.procs → q ≡ ltb max_size (get_or sizes p 0) → q ≡ large table p
large_tested table sizes l p q d s h e =
    let k = s.entries p (omega (arith, d.procs-all)) in
    grind (arith, nat_tests)
