-- Calls between procedures: which ones a block calls, which ones a procedure reaches, and which ones are reachable from the threads of a plan. 02, change 2: "any procedure may
-- call any other, as source 000 allows, so long as none reaches itself through calls." Change 6: "No idle procedures."
use Rattle.std.specs.Prelude.{ℕ, Bool, false, ◌||◌, T, eqb}
use mathlib.Core.List.{List, Memᴰ}
use Rattle.semantics.specs.Plan.{Block, done, skip, call, hold, loop, either, end, LockPlan, body_in}

-- whether a block has a call of procedure q, in itself or in a block within it
unfoldable pub has_call : Block → ℕ → Bool
has_call done q = false
has_call (skip r) q = has_call r q
has_call (call p r) q = eqb q p || has_call r q
has_call (hold l b r) q = has_call b q || has_call r q
has_call (loop b r) q = has_call b q || has_call r q
has_call (either a b r) q = has_call a q || (has_call b q || has_call r q)
has_call (end l r) q = has_call r q

-- p reaches q through calls: p's block has a call of q, or of a procedure that reaches q
pub data Reaches (ps : List Block) : ℕ → ℕ → Type 0 where
  directly : {p q : ℕ} → T (has_call (body_in ps p) q) → Reaches ps p q
  through : {p r q : ℕ} → T (has_call (body_in ps p) r) → Reaches ps r q → Reaches ps p q

-- "a procedure that reaches itself", and not one that merely reaches such a procedure. 000: "We forbid recursion in statements; i.e., for all p ∈ Procs, p ∉ callees(body(p))."
abbrev pub Recursive : List Block → ℕ → Type 0
Recursive ps p = Reaches ps p p

-- p is a procedure that some thread, 02, change 6, "names or reaches through calls": a thread line names it, or names one that reaches it
pub data Reachable (plan : LockPlan) (p : ℕ) : Type 0 where
  named : Memᴰ p plan.threads → Reachable plan p
  through-calls : {q : ℕ} → Memᴰ q plan.threads → Reaches plan.procs q p → Reachable plan p

-- "a procedure that no thread names or reaches through calls", so also one that only idle ones reach. That p is there is asked where this is used
abbrev pub Idle : LockPlan → ℕ → Type 0
Idle plan p = Reachable plan p → ⊥
