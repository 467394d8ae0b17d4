-- The steps of two columns: a part of the columns has the steps of that part, and what is stored in both is stored in the steps.
use Prim.Native.Nat.{ℕ, ◌%◌, ◌<◌, min}
use native.Mathlib.Omega.{arith}
use mathlib.Core.List.{List, ◌++◌}
use mathlib.Core.Path.{◌≡◌}
use lib.ListN.{length, take, drop, get_or, set}
use Rattle.semantics.specs.Paths.{step_of, choice_of, mask_in}
use Rattle.std.proofs.lemmas.Simd.{get_or-zip2}
use Rattle.columns.specs.Columns.{steps}
use Rattle.columns.proofs.Zipped.{zipped-length, zipped-take, zipped-drop, zipped-set, zipped-append}

-- one row
abbrev step : ℕ → ℕ → ℕ
step c m = step_of (c % 4) m

pub steps-length : (cs ms : List ℕ) → length (steps cs ms) ≡ min (length cs) (length ms)
unfolding steps
steps-length = zipped-length step

pub steps-take : (n : ℕ) (cs ms : List ℕ) → take n (steps cs ms) ≡ steps (take n cs) (take n ms)
unfolding steps
steps-take = zipped-take step

pub steps-drop : (n : ℕ) (cs ms : List ℕ) → drop n (steps cs ms) ≡ steps (drop n cs) (drop n ms)
unfolding steps
steps-drop = zipped-drop step

pub steps-at : (cs ms : List ℕ) (i : ℕ) → i < length cs → i < length ms → get_or (steps cs ms) i 0 ≡ step_of (get_or cs i 0 % 4) (get_or ms i 0)
unfolding steps
steps-at cs ms i h l = get_or-zip2 step cs ms i 0 0 0 h l

pub steps-set : (cs ms : List ℕ) (n c m : ℕ) → set (steps cs ms) n (step_of (c % 4) m) ≡ steps (set cs n c) (set ms n m)
unfolding steps
steps-set = zipped-set step

pub steps_append : (us vs cs ms : List ℕ) → length us ≡ length vs → steps (us ++ cs) (vs ++ ms) ≡ steps us vs ++ steps cs ms
unfolding steps
steps_append = zipped-append step

-- its choice and its mask
pub step-choice : (c m : ℕ) → choice_of (step_of (c % 4) m) ≡ c % 4
step-choice c m = omega arith

pub step-mask : (c m : ℕ) → mask_in (step_of (c % 4) m) ≡ m
step-mask c m = omega arith
