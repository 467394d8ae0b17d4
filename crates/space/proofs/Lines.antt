-- A line of the slip is its parts, one behind another; behind the lines of the threads below n comes that of thread n, and behind all of them the sum. The numbers are those of the
-- plan where the space is the plan's.
use Prim.Native.Nat.{ℕ, zero, suc, ◌+◌, ◌<◌, ◌≤◌}
use native.Mathlib.Numerals.{add-one}
use native.Mathlib.Omega.{arith}
use mathlib.Core.List.{List, ◌++◌}
use mathlib.Core.Option.{some}
use mathlib.Core.Path.{◌≡◌, refl}
use lib.ListN.{length, take, get_or}
use lib.Seq.{length-take-le}
use Rattle.std.proofs.lemmas.List.{get_or-take}
use Rattle.limits.specs.Limits.{max_threads}
use Rattle.laws.specs.Bytes.{bytes}
use Rattle.laws.specs.Wrote.{Wrote}
use Rattle.laws.proofs.Wrote.{wrote_none, wrote-more, wrote-three}
use Rattle.text.specs.declared.Refusal.{Refusal}
use Rattle.semantics.specs.Sizes.{thread_size}
use Rattle.plan.specs.Rules.{plan_of, plan_refusal}
use Rattle.plan.proofs.AcceptedTable.{accepted-settled}
use Rattle.checked.specs.declared.CheckedText.{CheckedText}
use Rattle.checked.specs.Checks.{AcceptedText}
use Rattle.report_lines.specs.Lines.{digits, refused_line}
use Rattle.space.specs.Slip.{size_line, sum_line, size_lines, slip_of, printed_slip}

pub size-whole : (l l₁ l₂ l₃ : List ℕ) (at i j r t s : ℕ) → Wrote l l₁ at i (bytes "(size " ++ digits t) → Wrote l₁ l₂ i j (bytes " " ++ digits s) → Wrote l₂ l₃ j r (bytes ")\n")
    → Wrote l l₃ at r (size_line t s)
unfolding size_line
size-whole l l₁ l₂ l₃ at i j r t s u v w = wrote-three l l₁ l₂ l₃ at i j r _ _ _ u v w

-- ---- the lines of the threads

pub lines_none : (l : List ℕ) (size : ℕ → ℕ) → Wrote l l 0 0 (size_lines size 0)
unfolding size_lines
lines_none l size = wrote_none l 0 (omega arith)

pub lines_more : (l l₁ l₂ : List ℕ) (i r n : ℕ) (size : ℕ → ℕ) → Wrote l l₁ 0 i (size_lines size n) → Wrote l₁ l₂ i r (size_line n (size n)) → Wrote l l₂ 0 r (size_lines size (n + 1))
unfolding size_lines
lines_more l l₁ l₂ i r n size v w = rw (add-one n) (wrote-more l l₁ l₂ 0 i r (size_lines size n) (size_line n (size n)) v w)

lines_same : (n : ℕ) (size size' : ℕ → ℕ) → ((t : ℕ) → t < n → size t ≡ size' t) → size_lines size n ≡ size_lines size' n
unfolding size_lines
lines_same zero size size' h = refl
lines_same (suc n) size size' h = rw (lines_same n size size' (λ t b. h t (omega arith)), h n (omega arith))

-- the sizes are the first n of a table, and the sum stands behind their lines
pub space-whole : (l l₁ l₂ : List ℕ) (i r n sum : ℕ) (each : List ℕ) → n ≤ length each → Wrote l l₁ 0 i (size_lines (λ t. get_or (take n each) t 0) (length (take n each)))
    → Wrote l₁ l₂ i r (sum_line sum) → Wrote l l₂ 0 r (size_lines (λ t. get_or each t 0) n ++ sum_line sum)
space-whole l l₁ l₂ i r n sum each h v w =
    let e : length (take n each) ≡ n = length-take-le n each h in
    let same = lines_same n (λ t. get_or (take n each) t 0) (λ t. get_or each t 0) (λ t b. get_or-take n each t 0 b) in
    wrote-more l l₁ l₂ 0 i r _ _ (rw (e, same) at v) w

-- ---- the slip of a text

pub slip-refused : (text : List ℕ) (x : Refusal) (before after : List ℕ) (r : ℕ) → plan_refusal text ≡ some x → Wrote before after 0 r (refused_line x.rule x.line)
    → Wrote before after 0 r (printed_slip text)
unfolding printed_slip
slip-refused text x before after r k w = rw k w

module _ (text table : List ℕ) (plan : CheckedText) (a : AcceptedText text plan table) where
  pub space-few : plan.space.threads ≤ max_threads
  space-few = omega (arith, a.space.threads, (accepted-settled text a.kept).few-threads)

  pub space-full : max_threads ≡ length plan.space.each
  space-full = a.space.full

  pub slip-whole : (before after : List ℕ) (r : ℕ)
      → Wrote before after 0 r (size_lines (λ u. get_or plan.space.each u 0) plan.space.threads ++ sum_line plan.space.sum) → Wrote before after 0 r (printed_slip text)
  unfolding printed_slip slip_of
  slip-whole before after r w =
      let lines = lines_same (length (plan_of text).threads) (λ u. get_or plan.space.each u 0) (thread_size (plan_of text)) a.space.each in
      rw a.kept (rw (a.space.threads, lines, a.space.sum) at w)
