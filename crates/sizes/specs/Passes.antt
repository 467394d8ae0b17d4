-- What the forms of a procedure cost, as a pass over them.
use Rattle.std.specs.Prelude.{ℕ, ◌+◌, min, cond, List, [], ◌∷◌, drop, get_or}
use Rattle.limits.specs.Limits.{size_room}
use Rattle.text.specs.declared.Form.{Form}
use Rattle.text.specs.declared.Form.TheVariants.{Skip, Hold, Loop, Either, Share}
use Rattle.text.specs.Forms.{number_in, kind_in, is_call, begins_other}
use Rattle.plan.specs.Table.{table_forms}

-- what a form adds to the size of the procedure in which it stands, where s p is the size of procedure p: "1 for skip, 1 plus the callee's size for
-- call, 2 plus the block for hold and loop, 1 plus both blocks for either"; 02, change 9: a share is "of size 2 plus its block"
unfoldable pub cost_of : (ℕ → ℕ) → Form → ℕ
cost_of s f = cond (kind_in (Skip ∷ Either ∷ []) f) 1 (cond (is_call f) (1 + s (number_in f)) (cond (kind_in (Hold 0 ∷ Loop ∷ Share 0 ∷ []) f) 2 0))

-- what the forms cost up to the first that does not stand within a procedure
unfoldable pub cost_from : (ℕ → ℕ) → List Form → ℕ
cost_from s [] = 0
cost_from s (f ∷ fs) = cond (begins_other f) 0 (cost_of s f + cost_from s fs)

-- the size that a table has of procedure p, 0 where it has none
abbrev pub known_size : List ℕ → ℕ → ℕ
known_size table p = get_or table p 0

-- what the forms from a place of a table on cost by a table of sizes, cut off at one more than rule 9 allows
unfoldable pub size_from : List ℕ → List ℕ → ℕ → ℕ
size_from ws sizes place = min size_room (cost_from (known_size sizes) (table_forms (drop place ws)))
