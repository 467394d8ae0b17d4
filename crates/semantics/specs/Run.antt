-- How a gateway steps: one thread by itself (`move`), one thread among others (`step_in`), a list of schedule entries (`run`). 01, "How a gateway steps".
use Rattle.std.specs.Prelude.{ℕ, ◌+◌, ◌-◌, ◌/◌, ◌%◌, List, [], ◌∷◌, map, Bool, true, not, ◌&&◌, ◌||◌, cond, get_or, set, replicate, eqb, ltb}
use Rattle.std.proofs.Math.Option.{Option, none, some, bind}
use Rattle.limits.specs.Limits.{claim_count}
use Rattle.semantics.specs.Claims.{together}
use Rattle.semantics.specs.Plan.{Block, done, skip, call, hold, loop, either, end, ◌⨾◌, body_in}

-- "Each thread has a remainder, .. and a count for each lock"; 02, change 9: a share's is "a second count for each lock". So a thread has a count for each claim
pub record ThreadState : Type 0 where
  pub rest : Block
  pub count : List ℕ

-- the thread with this remainder and these counts
abbrev pub thread : Block → List ℕ → ThreadState
thread b cs = record { rest = b; count = cs }

-- "count up by 1"
unfoldable pub up : ℕ → List ℕ → List ℕ
up l cs = set cs l (get_or cs l 0 + 1)

-- "down by 1"
unfoldable pub down : ℕ → List ℕ → List ℕ
down l cs = set cs l (get_or cs l 0 - 1)

-- "One step of one thread: pass a skip; replace a call by the body; begin a hold (count up by 1) and later end it (down by 1); choose one or two of an either; at
-- a loop's head enter the body, coming back to the head, or leave. Sequencing costs no step". "choice 1 for one or entering, 2 for two or leaving, 0 for every
-- other step"; "one with nothing left, or with a choice that its remainder does not offer" has no step.
unfoldable pub move : List Block → ℕ → Block → List ℕ → Option ThreadState
move ps c done cs = none
move ps c (skip r) cs = cond (eqb c 0) (some (thread r cs)) none
move ps c (call p r) cs = cond (eqb c 0) (some (thread (body_in ps p ⨾ r) cs)) none
move ps c (hold l b r) cs = cond (eqb c 0) (some (thread (b ⨾ end l r) (up l cs))) none
move ps c (end l r) cs = cond (eqb c 0) (some (thread r (down l cs))) none
move ps c (loop b r) cs = cond (eqb c 1) (some (thread (b ⨾ loop b r) cs)) (cond (eqb c 2) (some (thread r cs)) none)
move ps c (either a b r) cs = cond (eqb c 1) (some (thread (a ⨾ r) cs)) (cond (eqb c 2) (some (thread (b ⨾ r) cs)) none)

-- whether a thread with these counts has claim a: its count is positive
abbrev pub has : List ℕ → ℕ → Bool
has cs a = ltb 0 (get_or cs a 0)

-- what the two have may stand together: "no lock is held by hold in one thread while another holds it in any way"
unfoldable pub compatible : List ℕ → List ℕ → Bool
compatible cs ds = together (has cs) (has ds)

-- the set S of threads without thread 0, the others counted from 0
abbrev pub others : (ℕ → Bool) → ℕ → Bool
others S t = S (ℕ.suc t)

-- each thread in S is compatible with the counts cs
unfoldable pub with_all : (ℕ → Bool) → List ℕ → List ThreadState → Bool
with_all S cs [] = true
with_all S cs (t ∷ ts) = (not (S 0) || compatible cs t.count) && with_all (others S) cs ts

-- "no lock is held by hold in one thread while another holds it in any way", of those in S
unfoldable pub apart : (ℕ → Bool) → List ThreadState → Bool
apart S [] = true
apart S (t ∷ ts) = (not (S 0) || with_all (others S) t.count ts) && apart (others S) ts

-- all threads
abbrev pub everyone : ℕ → Bool
everyone t = true

-- thread n, unless it is absent
unfoldable pub thread_at : List ThreadState → ℕ → Option ThreadState
thread_at [] n = none
thread_at (t ∷ ts) ℕ.zero = some t
thread_at (t ∷ ts) (ℕ.suc n) = thread_at ts n

-- the step of thread t under choice c, the threads outside S forgotten. "A step is permitted when afterwards no lock is held by hold in one thread while another holds it in any
-- way" (02, change 9).
unfoldable pub step_in : (ℕ → Bool) → List Block → List ThreadState → ℕ → ℕ → Option (List ThreadState)
step_in S ps ts t c =
    bind (thread_at ts t) (λ x.
    bind (move ps c x.rest x.count) (λ y.
    cond (apart S (set ts t y)) (some (set ts t y)) none))

-- "A 16-bit entry is one step: thread + 8 × choice"
unfoldable pub step : List Block → List ThreadState → ℕ → Option (List ThreadState)
step ps ts e = step_in everyone ps ts (e % 8) (e / 8)

-- "A run is any finite list of steps ..; the empty list is one. The first step is taken at the start .., each later one in the state that the step before left, and
-- nothing else alters the state. Each must be permitted where it is taken: a list with one step that is not is no run."
unfoldable pub run : List Block → List ThreadState → List ℕ → Option (List ThreadState)
run ps ts [] = some ts
run ps ts (e ∷ es) = bind (step ps ts e) (λ ts'. run ps ts' es)

-- "a count for each lock, at first 0", and so for each claim
abbrev pub unlocked : List ℕ
unlocked = replicate claim_count 0

-- a thread of procedure p before its first step: the remainder is "at first its procedure's block"
abbrev pub initial : List Block → ℕ → ThreadState
initial ps p = thread (body_in ps p) unlocked

-- the start of a gateway whose threads run the procedures ns
unfoldable pub start : List Block → List ℕ → List ThreadState
start ps ns = map (initial ps) ns

-- a thread with nothing to do and nothing had
abbrev pub absent_thread : ThreadState
absent_thread = thread done []

-- thread i of a list, that one where there is none
abbrev pub nth : List ThreadState → ℕ → ThreadState
nth ts i = get_or ts i absent_thread

-- its counts
abbrev pub counts : List ThreadState → ℕ → List ℕ
counts ts i = (nth ts i).count
