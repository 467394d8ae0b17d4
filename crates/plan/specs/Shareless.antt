-- Texts without share, and how 01's grammar has their trees. 02, change 9: "Plans without share keep their answers, written as records." (theorem `text-answers-kept`).
use Rattle.std.specs.Prelude.{ℕ, ◌≡◌}
use mathlib.Core.List.{List, [], ◌∷◌, Memᴰ}
use Rattle.text.specs.declared.Form.{Form}
use Rattle.text.specs.declared.Form.TheVariants.{Plan, Proc, Close, Skip, Call, Hold, Loop, Either, One, Two, Share}
use Rattle.text.specs.Forms.{IsForm, is_share}
use Rattle.text.specs.Lines.{split, unindented}
use Rattle.semantics.specs.Plan.{Block, done, skip, call, hold, loop, either, end, LockPlan}
use Rattle.plan.specs.Grammar.{thread_forms}
use Rattle.plan.specs.Limits.{count_if}

-- no form is a `(share N`
abbrev pub NoShare : List Form → Type 0
NoShare fs = count_if is_share fs ≡ 0

-- no line of a text is one, behind its spaces
abbrev pub NoShareLine : List ℕ → Type 0
NoShareLine text = (line : List ℕ) → Memᴰ line (split text).ended → (n : ℕ) → IsForm (unindented line) (Share n) → ⊥

-- 01's grammar: the number of a hold in a tree is its lock. The forms of b, and then fs
unfoldable pub block_forms01 : Block → List Form → List Form
block_forms01 done fs = fs
block_forms01 (skip r) fs = Skip ∷ block_forms01 r fs
block_forms01 (call n r) fs = Call n ∷ block_forms01 r fs
block_forms01 (hold l b r) fs = Hold l ∷ block_forms01 b (Close ∷ block_forms01 r fs)
block_forms01 (loop b r) fs = Loop ∷ block_forms01 b (Close ∷ block_forms01 r fs)
block_forms01 (either a b r) fs = Either ∷ One ∷ block_forms01 a (Close ∷ Two ∷ block_forms01 b (Close ∷ Close ∷ block_forms01 r fs))
block_forms01 (end l r) fs = block_forms01 r fs

unfoldable pub proc_forms01 : List Block → List Form → List Form
proc_forms01 [] fs = fs
proc_forms01 (b ∷ bs) fs = Proc ∷ block_forms01 b (Close ∷ proc_forms01 bs fs)

unfoldable pub forms01 : LockPlan → List Form
forms01 plan = Plan ∷ proc_forms01 plan.procs (thread_forms plan.threads (Close ∷ []))
