-- The answer from the reading, and from the space that was found with it; and that its number is small: a plan's sum is.
use Prim.Native.Nat.{ℕ, ◌^◌, ◌<◌}
use native.Mathlib.Omega.{arith}
use mathlib.Core.List.{List}
use mathlib.Core.Option.{some}
use mathlib.Core.Path.{◌≡◌, ap, ◌∙◌}
use Rattle.std.proofs.Common.{Result, Ok, Err, IsErrAnd}
use Rattle.text.specs.declared.Refusal.{Refusal}
use Rattle.semantics.specs.Sizes.{thread_sizes}
use Rattle.plan.specs.Rules.{plan_of, plan_refusal}
use Rattle.plan.proofs.AcceptedTable.{accepted-sum}
use Rattle.checked.specs.declared.CheckedText.{CheckedText}
use Rattle.checked.specs.Checks.{AcceptedText}
use Rattle.answers.specs.Answers.{counted_of, counted_number, counted_high}
use Rattle.answers.proofs.LineBounds.{plan_bounded}
use Rattle.answers.proofs.Counts.{handed-on, counted_carried}
use Rattle.space.specs.Slip.{needed_entries, Needs, NeedsNumber}

pub needed-refused : (text : List ℕ) (r : Result ℕ Refusal) (x : Refusal) → plan_refusal text ≡ some x → IsErrAnd r (λ y. y ≡ x) → Needs text r
unfolding needed_entries counted_of
needed-refused text r x k e = rw (handed-on r x e, k)

pub needed-sum : (text table : List ℕ) (plan : CheckedText) → AcceptedText text plan table → Needs text (Ok plan.space.sum)
unfolding needed_entries counted_of
needed-sum text table plan a = rw a.kept (ap Ok a.space.sum)

module _ (text : List ℕ) (r : Result ℕ Refusal) (e : Needs text r) where
  pub needed_carried : counted_high r < 2 ^ 40
  unfolding needed_entries
  needed_carried = counted_carried (plan_refusal text) r (thread_sizes (plan_of text)) e (λ k. omega (arith, accepted-sum text k)) (plan_bounded text)

  pub needed-number : (v : ℕ) → v ≡ counted_number r → NeedsNumber text v
  needed-number v k = k ∙ ap counted_number e
