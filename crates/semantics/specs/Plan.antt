-- The tree of a lock plan, and what the rules settle of it. 01, "The plan text".
use Rattle.std.specs.Prelude.{ℕ, ◌<◌, Bool, true, false, List, [], ◌∷◌, T, length, get_or}
use Rattle.limits.specs.Limits.{claim_count}

-- "A block is one or more statements. A statement is `(skip)`; `(call N)`; `(hold N`, block, `)`; `(loop`, block, `)`; or `(either`, `(one`, block, `)`,
-- `(two`, block, `)`, `)`." 02, change 9: "Add `(share N`, block, `)`". A value is the first statement, then the rest; `done` has none. A hold and a share are one case, which
-- has the claim: `hold (by_hold N) b r` is `(hold N`, b, `)`, then r, and `hold (by_share N) b r` is `(share N`, b, `)`, then r. Where definitions speak of a hold of a claim, it
-- is either. `end` closes one that has begun: only what a thread has still to do contains it.
pub data Block : Type 0 where
  done : Block
  skip : Block → Block
  call : ℕ → Block → Block
  hold : ℕ → Block → Block → Block
  loop : Block → Block → Block
  either : Block → Block → Block → Block
  end : ℕ → Block → Block

-- A lock plan: the blocks of its procedures, "numbered from 0 in text order", and the procedure that each thread runs, "threads from 0".
pub record LockPlan : Type 0 where
  pub procs : List Block
  pub threads : List ℕ

-- the procedure that thread t runs; 0 where there is no such thread
abbrev pub thread_proc : LockPlan → ℕ → ℕ
thread_proc plan t = get_or plan.threads t 0

infixr 50 ◌⨾◌
-- a, then b
unfoldable pub ◌⨾◌ : Block → Block → Block
done ⨾ b = b
skip r ⨾ b = skip (r ⨾ b)
call p r ⨾ b = call p (r ⨾ b)
hold l x r ⨾ b = hold l x (r ⨾ b)
loop x r ⨾ b = loop x (r ⨾ b)
either x y r ⨾ b = either x y (r ⨾ b)
end l r ⨾ b = end l (r ⨾ b)

-- the block of procedure p
unfoldable pub body_in : List Block → ℕ → Block
body_in [] p = done
body_in (b ∷ bs) ℕ.zero = b
body_in (b ∷ bs) (ℕ.suc p) = body_in bs p

-- A block as the grammar has it: "one or more statements" in each block within it and, unless `empty`, in itself; no hold has begun.
unfoldable pub WellFormed : Bool → Block → Type 0
WellFormed empty done = T empty
WellFormed empty (skip r) = WellFormed true r
WellFormed empty (call p r) = WellFormed true r
WellFormed empty (hold l b r) = WellFormed false b × WellFormed true r
WellFormed empty (loop b r) = WellFormed false b × WellFormed true r
WellFormed empty (either a b r) = WellFormed false a × WellFormed false b × WellFormed true r
WellFormed empty (end l r) = ⊥

-- A block in which each call meets C, each lock is below 32 (rule 6) and so each claim below 64, and no hold has begun.
unfoldable pub Written : (ℕ → Type 0) → Block → Type 0
Written C done = Unit {0}
Written C (skip r) = Written C r
Written C (call p r) = C p × Written C r
Written C (hold l b r) = (l < claim_count) × Written C b × Written C r
Written C (loop b r) = Written C b × Written C r
Written C (either a b r) = Written C a × Written C b × Written C r
Written C (end l r) = ⊥

-- What the rules settle of the procedures: calls go to a lower rank, claims are below 64, no block is empty.
pub record Sound (ps : List Block) (rank : ℕ → ℕ) : Type 0 where
  pub body : (p : ℕ) → Written (λ q. rank q < rank p) (body_in ps p)
  pub filled : (p : ℕ) → p < length ps → WellFormed false (body_in ps p)

-- Ranks that fall along calls and are below the number of procedures, so that a chain of calls has fewer calls than there are procedures. Procedures that rules 4 to 8 let pass
-- have them exactly if none reaches itself (theorems `acyclic-ranks`, `ranks-acyclic`).
pub record Ranks (ps : List Block) : Type 0 where
  pub rank : ℕ → ℕ
  pub sound : Sound ps rank
  pub below : (p : ℕ) → p < length ps → rank p < length ps

-- no demand on a call
abbrev pub AnyCall : ℕ → Type 0
AnyCall p = Unit {0}

-- a block with claims below 64 in which no hold has begun, its calls left open
abbrev pub Plain : Block → Type 0
Plain b = Written AnyCall b
