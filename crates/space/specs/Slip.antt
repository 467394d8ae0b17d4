-- The space that a schedule needs: what the calls promise, and the slip, byte for byte. 02, change 4: "For a plan that passes every rule on it up to and with 9, in checking
-- order, a small program prints `(size T S)` for each thread, then `(sum S)`; for any other, only its `(refused R L)`."
use Rattle.std.specs.Prelude.{ℕ, zero, suc, ◌+◌, ◌*◌, List, [], ◌++◌, ◌≡◌, length, Result}
use Rattle.limits.specs.Limits.{max_threads}
use Rattle.laws.specs.Bytes.{bytes}
use Rattle.text.specs.declared.Refusal.{Refusal}
use Rattle.semantics.specs.Plan.{LockPlan}
use Rattle.semantics.specs.Sizes.{thread_size, thread_sizes}
use Rattle.plan.specs.Rules.{plan_of, plan_refusal}
use Rattle.report_lines.specs.Lines.{digits, unless_refused}
use Rattle.answers.specs.Answers.{counted_of, counted_number}

-- ---- the calls

-- how many entries a schedule needs: the sum of the threads' sizes, or the refusal by the plan's rules
unfoldable pub needed_entries : List ℕ → Result ℕ Refusal
needed_entries text = counted_of (plan_refusal text) (thread_sizes (plan_of text))

-- the answer of the call
abbrev pub Needs : List ℕ → Result ℕ Refusal → Type 0
Needs text r = r ≡ needed_entries text

-- and as a number
abbrev pub NeedsNumber : List ℕ → ℕ → Type 0
NeedsNumber text r = r ≡ counted_number (needed_entries text)

-- ---- the slip

-- "`(size T S)`": a thread, by its number, and its size
unfoldable pub size_line : ℕ → ℕ → List ℕ
size_line t s = bytes "(size " ++ digits t ++ (bytes " " ++ digits s) ++ bytes ")\n"

-- "`(sum S)`"
unfoldable pub sum_line : ℕ → List ℕ
sum_line s = bytes "(sum " ++ digits s ++ bytes ")\n"

-- the lines of the threads below n, ascending, where size t is that of thread t
unfoldable pub size_lines : (ℕ → ℕ) → ℕ → List ℕ
size_lines size zero = []
size_lines size (suc n) = size_lines size n ++ size_line n (size n)

-- "`(size T S)` for each thread, then `(sum S)`"
unfoldable pub slip_of : LockPlan → List ℕ
slip_of plan = size_lines (thread_size plan) (length plan.threads) ++ sum_line (thread_sizes plan)

-- what the program prints of a text
unfoldable pub printed_slip : List ℕ → List ℕ
printed_slip text = unless_refused (plan_refusal text) (slip_of (plan_of text))

-- ---- bytes that suffice: a machine number has at most 20 digits

-- for `(size T S)`
abbrev pub size_line_room : ℕ
size_line_room = 6 + 20 + 1 + 20 + 2

-- for `(sum S)`
abbrev pub sum_line_room : ℕ
sum_line_room = 5 + 20 + 2

-- for all of it; the line of a refusal is no longer
abbrev pub slip_room : ℕ
slip_room = max_threads * size_line_room + sum_line_room
