-- The grammar: how a plan's tree is written down as forms, one a line, and the tree that forms denote. 01, "The plan text"; 02, change 9, "Add `(share N`, block, `)`".
use Rattle.std.specs.Prelude.{ℕ, ◌<◌, false, cond, List, [], ◌∷◌, length}
use Rattle.text.specs.declared.Form.{Form}
use Rattle.text.specs.declared.Form.TheVariants.{Plan, Proc, Thread, Close, Skip, Call, Hold, Loop, Either, One, Two, Share}
use Rattle.semantics.specs.Plan.{Block, done, skip, call, hold, loop, either, end, LockPlan, body_in, WellFormed}
use Rattle.semantics.specs.Claims.{by_share, by_hold, lock_of, is_hold}

-- the form that takes a claim: `(hold N` or `(share N`, by the way in which it has its lock
unfoldable pub claim_form : ℕ → Form
claim_form a = cond (is_hold a) (Hold (lock_of a)) (Share (lock_of a))

-- "A statement is `(skip)`; `(call N)`; `(hold N`, block, `)`; `(loop`, block, `)`; or `(either`, `(one`, block, `)`, `(two`, block, `)`, `)`."; and
-- `(share N`, block, `)`. The forms of b, and then fs
unfoldable pub block_forms : Block → List Form → List Form
block_forms done fs = fs
block_forms (skip r) fs = Skip ∷ block_forms r fs
block_forms (call n r) fs = Call n ∷ block_forms r fs
block_forms (hold a b r) fs = claim_form a ∷ block_forms b (Close ∷ block_forms r fs)
block_forms (loop b r) fs = Loop ∷ block_forms b (Close ∷ block_forms r fs)
block_forms (either a b r) fs = Either ∷ One ∷ block_forms a (Close ∷ Two ∷ block_forms b (Close ∷ Close ∷ block_forms r fs))
block_forms (end a r) fs = block_forms r fs

-- "A procedure is `(proc`, a block, `)`."
unfoldable pub proc_forms : List Block → List Form → List Form
proc_forms [] fs = fs
proc_forms (b ∷ bs) fs = Proc ∷ block_forms b (Close ∷ proc_forms bs fs)

-- lines `(thread N)`
unfoldable pub thread_forms : List ℕ → List Form → List Form
thread_forms [] fs = fs
thread_forms (n ∷ ns) fs = Thread n ∷ thread_forms ns fs

-- "First line `(plan`, then one or more procedures, then one or more lines `(thread N)`, then `)`. Nothing follows."
unfoldable pub forms : LockPlan → List Form
forms plan = Plan ∷ proc_forms plan.procs (thread_forms plan.threads (Close ∷ []))

-- the trees that the grammar has: "one or more procedures", "one or more lines `(thread N)`", and blocks of one or more statements
pub record Grammatical (plan : LockPlan) : Type 0 where
  pub some_procedure : 0 < length plan.procs
  pub some-thread : 0 < length plan.threads
  pub blocks : (p : ℕ) → p < length plan.procs → WellFormed false (body_in plan.procs p)

-- What the forms behind a place denote: the blocks that are open there, innermost first, each from the place on; the procedures and threads that begin behind it.
pub record Behind : Type 0 where
  pub blocks : List Block
  pub procs : List Block
  pub threads : List ℕ

-- the innermost open block, with one statement in front
abbrev pub at_top : (Block → Block) → List Block → List Block
at_top f [] = []
at_top f (b ∷ bs) = f b ∷ bs

-- a bracket with its block, and the block that goes on behind it
abbrev pub at_two : (Block → Block → Block) → List Block → List Block
at_two f [] = []
at_two f (b ∷ []) = []
at_two f (b ∷ r ∷ bs) = f b r ∷ bs

-- an either with the blocks of one and two and the empty one up to its own closing form, and the block that goes on behind it
abbrev pub at_four : (Block → Block → Block → Block) → List Block → List Block
at_four f [] = []
at_four f (a ∷ []) = []
at_four f (a ∷ b ∷ []) = []
at_four f (a ∷ b ∷ e ∷ []) = []
at_four f (a ∷ b ∷ e ∷ r ∷ bs) = f a b r ∷ bs

abbrev pub with_open : List Block → Behind → Behind
with_open bs x = record { blocks = bs; procs = x.procs; threads = x.threads }

-- a procedure that begins here
abbrev pub begin_proc : List Block → Behind → Behind
begin_proc [] x = x
begin_proc (b ∷ bs) x = record { blocks = bs; procs = b ∷ x.procs; threads = x.threads }

-- one form in front
unfoldable pub in_front : Form → Behind → Behind
in_front Plan x = x
in_front Proc x = begin_proc x.blocks x
in_front (Thread n) x = record { blocks = x.blocks; procs = x.procs; threads = n ∷ x.threads }
in_front Close x = with_open (done ∷ x.blocks) x
in_front Skip x = with_open (at_top skip x.blocks) x
in_front (Call n) x = with_open (at_top (call n) x.blocks) x
in_front (Hold l) x = with_open (at_two (hold (by_hold l)) x.blocks) x
in_front Loop x = with_open (at_two loop x.blocks) x
in_front Either x = with_open (at_four either x.blocks) x
in_front One x = x
in_front Two x = x
in_front (Share l) x = with_open (at_two (hold (by_share l)) x.blocks) x

unfoldable pub behind : List Form → Behind
behind [] = record { blocks = []; procs = []; threads = [] }
behind (f ∷ fs) = in_front f (behind fs)

-- the tree that forms denote: p where they are the forms of a grammatical p (theorem `plan_of-forms`)
unfoldable pub plan_in : List Form → LockPlan
plan_in fs = record { procs = (behind fs).procs; threads = (behind fs).threads }
