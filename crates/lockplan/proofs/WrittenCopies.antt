-- Of an accepted text the call writes the copy that it promises, if the output holds enough (`written-copy`), and nothing else is such a copy (`written_is`).
use Prim.Native.Nat.{ℕ, ◌≤◌}
use native.Mathlib.Omega.{arith}
use mathlib.Core.List.{List}
use mathlib.Core.Option.{Option, none, some}
use mathlib.Core.Path.{◌≡◌, sym, ◌∙◌}
use lib.ListN.{length}
use Rattle.std.proofs.Common.{Result, Ok}
use Rattle.limits.specs.Limits.{max_bytes}
use Rattle.laws.specs.Wrote.{filled}
use Rattle.laws.proofs.Wrote.{filled-equal}
use Rattle.text.specs.declared.Refusal.{Refusal}
use Rattle.plan.specs.Rules.{copy_refusal}
use Rattle.demands.specs.Broken.{AcceptedText}
use Rattle.demands.proofs.Accepted.{copy-accepted-exactly}
use Rattle.answers.specs.Answers.{counted_of, written}
use Rattle.copies.specs.Copies.{Copied}

pub written-copy : (copy text : List ℕ) (x : AcceptedText text) (before : List ℕ) (r : Result ℕ Refusal) (after : List ℕ) → Copied copy text before r after → max_bytes ≤ length before
    → (r ≡ Ok (length copy)) × (after ≡ filled copy before)
unfolding counted_of
written-copy copy text x before r after d h =
    let e = (copy-accepted-exactly text (length before)).1 (h, x) in
    (d.answer ∙ rw e, rw e at d.output)

-- where the call answers that it wrote so many bytes
pub written_is : (copy text before : List ℕ) (r : Result ℕ Refusal) (after bytes : List ℕ) → Copied copy text before r after → r ≡ Ok (length bytes) → after ≡ filled bytes before
    → bytes ≡ copy
unfolding counted_of
written_is copy text before r after bytes d e f = go (copy_refusal text (length before)) d.answer d.output
  where
    go : (o : Option Refusal) → r ≡ counted_of o (length copy) → after ≡ written o copy before → bytes ≡ copy
    go none a w =
        let n : length bytes ≡ length copy = cc (e, a) in
        filled-equal bytes copy before n (sym f ∙ w)
    go (some y) a w = cc (e, a)
