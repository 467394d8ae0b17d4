-- What the program `crossings` prints of a text when it is asked for no two threads: which threads cross at all. `(crossings`, `(cross T U N)` for each two threads T < U, N the
-- number of their couples, `)`; of a refused text `(refused R L)` alone. The words are our own: 02 has none. Where N is 0 everywhere no two threads alone can become stuck, but
-- three may (01, case D); where one N is above 0 the plan has a deadlock (theorem `crossings-exact`, `free`).
use Rattle.std.specs.Prelude.{ℕ, zero, suc, ◌+◌, ◌*◌, ◌≤◌, cond, List, [], ◌++◌, ◌≡◌, ltb, length}
use Rattle.std.proofs.Math.Option.{none}
use Rattle.limits.specs.Limits.{max_threads}
use Rattle.laws.specs.Bytes.{bytes}
use Rattle.semantics.specs.Plan.{LockPlan}
use Rattle.plan.specs.Rules.{plan_of, plan_refusal}
use Rattle.report_lines.specs.Lines.{closing, unless_refused}
use Rattle.couples.specs.Couples.{couples}
use Rattle.couple_lines.specs.CoupleLines.{cross_line, cross_line_room}

-- the line of t and u, where t < u, and `number t u` says how many couples they have
unfoldable pub cross_entry : (ℕ → ℕ → ℕ) → ℕ → ℕ → List ℕ
cross_entry number t u = cond (ltb t u) (cross_line t u (number t u)) []

-- the lines of thread t with the threads above it and below k, ascending
unfoldable pub cross_row : (ℕ → ℕ → ℕ) → ℕ → ℕ → List ℕ
cross_row number t zero = []
cross_row number t (suc k) = cross_row number t k ++ cross_entry number t k

-- those of the threads below k, where there are n
unfoldable pub cross_rows : (ℕ → ℕ → ℕ) → ℕ → ℕ → List ℕ
cross_rows number n zero = []
cross_rows number n (suc k) = cross_rows number n k ++ cross_row number k n

-- `(crossings`
unfoldable pub crossings_open : List ℕ
crossings_open = bytes "(crossings\n"

-- how many couples the threads t and u of a plan have
unfoldable pub cross_number : LockPlan → ℕ → ℕ → ℕ
cross_number plan t u = length (couples plan t u)

-- the table of a plan
unfoldable pub crossings_of : LockPlan → List ℕ
crossings_of plan = crossings_open ++ cross_rows (cross_number plan) (length plan.threads) (length plan.threads) ++ closing

-- what is printed of a text
unfoldable pub printed_crossings : List ℕ → List ℕ
printed_crossings text = unless_refused (plan_refusal text) (crossings_of (plan_of text))

-- the plan of a text is accepted, and has n threads
pub record AcceptedThreads (text : List ℕ) (n : ℕ) : Type 0 where
  pub accepted : plan_refusal text ≡ none
  pub all : n ≡ length (plan_of text).threads
  pub few : n ≤ max_threads

-- ---- bytes that suffice

-- for the lines of a thread, and for all of it; the line of a refusal is no longer
abbrev pub cross_row_room : ℕ
cross_row_room = max_threads * cross_line_room

abbrev pub crossings_room : ℕ
crossings_room = 11 + max_threads * cross_row_room + 2
