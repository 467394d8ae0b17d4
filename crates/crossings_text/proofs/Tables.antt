-- The table of which threads cross: the line of two threads where the first is below the second, the lines of one thread with those above it, the lines of all, each written
-- behind those before it. Of two threads of an accepted plan that are not the same nothing is refused, so their number is that of their couples.
use Prim.Native.Nat.{ℕ, zero, suc, ◌+◌, ◌*◌, ◌<◌, ◌≤◌}
use native.Mathlib.Numerals.{add-one}
use native.Mathlib.Omega.{arith}
use mathlib.Core.List.{List, []}
use mathlib.Core.Option.{none, some}
use mathlib.Core.Path.{◌≡◌, refl, sym, ◌∙◌}
use borrow.Author.Tests.{lt-ltb, le-ltb}
use lib.ListN.{length}
use Rattle.std.proofs.Common.{Result, Ok}
use Rattle.std.specs.Result.{result_unwrap_or}
use Rattle.laws.specs.Bytes.{bytes}
use Rattle.laws.specs.Wrote.{Wrote}
use Rattle.laws.proofs.Wrote.{wrote_none, wrote-more, wrote-three}
use Rattle.text.specs.declared.Refusal.{Refusal}
use Rattle.plan.specs.Rules.{plan_of, plan_refusal, crossings_refusal}
use Rattle.plan.proofs.AcceptedTable.{accepted-settled}
use Rattle.plan.proofs.TwoThreads.{crossings-kept}
use Rattle.checked.specs.declared.CheckedText.{CheckedText}
use Rattle.checked.specs.Checks.{AcceptedText}
use Rattle.answers.specs.Answers.{counted_of}
use Rattle.report_lines.specs.Lines.{closing, refused_line}
use Rattle.couples.specs.Couples.{couples}
use Rattle.crossing.specs.Crossed.{Crossed}
use Rattle.couple_lines.specs.CoupleLines.{cross_line}
use Rattle.crossings_text.specs.AllCrossings.{cross_entry, cross_row, cross_rows, crossings_open, cross_number, crossings_of, printed_crossings, AcceptedThreads}
use Rattle.crossings_text.specs.AllCrossings.{cross_row_room}

-- ---- the number of couples

pub number-counted : (text : List ℕ) (t u n : ℕ) (before after : List ℕ) (r : Result ℕ Refusal) → Crossed text t u before r after → n ≡ result_unwrap_or r 0
    → crossings_refusal text t u ≡ none → n ≡ length (couples (plan_of text) t u)
unfolding counted_of
number-counted text t u n before after r x e h = let k : r ≡ Ok (length (couples (plan_of text) t u)) = rw h at x.answer in rw (e, k)

-- of two threads of an accepted plan, the first below the second, nothing is refused
pub entry-number : (text : List ℕ) (n t u m : ℕ) → AcceptedThreads text n → t < u → u < n → (crossings_refusal text t u ≡ none → m ≡ length (couples (plan_of text) t u))
    → m ≡ cross_number (plan_of text) t u
unfolding cross_number
entry-number text n t u m x b h e = e ((crossings-kept text t u).1 (x.accepted, omega (arith, x.all), omega (arith, x.all), λ z. omega arith))

-- ---- the lines of one thread, and of all

-- no line with the threads up to the thread itself
row-empty : (number : ℕ → ℕ → ℕ) (t k : ℕ) → k ≤ t + 1 → cross_row number t k ≡ []
unfolding cross_row cross_entry
row-empty number t zero h = refl
row-empty number t (suc k) h = rw (row-empty number t k (omega arith), le-ltb t k (omega arith))

module _ (number : ℕ → ℕ → ℕ) (out₀ out : List ℕ) (at i : ℕ) where
  pub row-none : (t : ℕ) → at + cross_row_room ≤ length out → Wrote out out at at (cross_row number t (t + 1))
  row-none t h = rw (row-empty number t (t + 1) (omega arith)) (wrote_none out at (omega arith))

  pub row_more : (out' : List ℕ) (i' t u m : ℕ) → t < u → m ≡ number t u → Wrote out₀ out at i (cross_row number t u) → Wrote out out' i i' (cross_line t u m)
      → Wrote out₀ out' at i' (cross_row number t (u + 1))
  unfolding cross_row cross_entry
  row_more out' i' t u m b e v w = rw (add-one u, lt-ltb t u b) (wrote-more out₀ out out' at i i' (cross_row number t u) (cross_line t u (number t u)) v (rw e at w))

  pub rows_none : (n : ℕ) → at + n * cross_row_room ≤ length out → Wrote out out at at (cross_rows number n 0)
  unfolding cross_rows
  rows_none n h = wrote_none out at (omega arith)

  pub rows_more : (out' : List ℕ) (i' n t : ℕ) → Wrote out₀ out at i (cross_rows number n t) → Wrote out out' i i' (cross_row number t n)
      → Wrote out₀ out' at i' (cross_rows number n (t + 1))
  unfolding cross_rows
  rows_more out' i' n t v w = rw (add-one t) (wrote-more out₀ out out' at i i' (cross_rows number n t) (cross_row number t n) v w)

-- ---- the table of a text

pub table-whole : (text : List ℕ) (n : ℕ) (o o₁ o₂ o₃ : List ℕ) (i j r : ℕ) → AcceptedThreads text n → Wrote o o₁ 0 i (bytes "(crossings\n")
    → Wrote o₁ o₂ i j (cross_rows (cross_number (plan_of text)) n n) → Wrote o₂ o₃ j r (bytes ")\n") → Wrote o o₃ 0 r (crossings_of (plan_of text))
unfolding crossings_of crossings_open closing
table-whole text n o o₁ o₂ o₃ i j r x u v w = rw (← x.all) (wrote-three o o₁ o₂ o₃ 0 i j r _ _ _ u v w)

pub crossings-refused : (text : List ℕ) (x : Refusal) (before after : List ℕ) (r : ℕ) → plan_refusal text ≡ some x → Wrote before after 0 r (refused_line x.rule x.line)
    → Wrote before after 0 r (printed_crossings text)
unfolding printed_crossings
crossings-refused text x before after r e w = rw e w

module _ (text table : List ℕ) (plan : CheckedText) (a : AcceptedText text plan table) where
  pub threads-known : AcceptedThreads text plan.space.threads
  threads-known = record { accepted = a.kept; all = a.space.threads; few = omega (arith, a.space.threads, (accepted-settled text a.kept).few-threads) }

  pub crossings-whole : (before after : List ℕ) (r : ℕ) → Wrote before after 0 r (crossings_of (plan_of text)) → Wrote before after 0 r (printed_crossings text)
  unfolding printed_crossings
  crossings-whole before after r w = rw a.kept w
