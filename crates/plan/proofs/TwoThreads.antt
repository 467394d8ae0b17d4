-- Rule 14's test fails exactly of two threads that are there and are not the same (`two-exactly`); the rules of the crossings refuse nothing exactly if the plan's do not either
-- (`crossings-kept`).
use Prim.Native.Nat.{ℕ, ◌<◌}
use mathlib.Core.Bool.{Bool, true, false, ◌||◌, true≢false}
use mathlib.Core.List.{List}
use mathlib.Core.Logic.{◌≢◌, ◌↔◌}
use mathlib.Core.Option.{none, or_else}
use mathlib.Core.Path.{◌≡◌, refl, sym, ◌∙◌}
use borrow.Author.Tests.{lt-leb, leb-false, eq-eqb, ne_eqb}
use lib.Dec.{leb, eqb}
use lib.ListN.{length}
use Rattle.laws.proofs.Tests.{first-none}
use Rattle.plan.specs.Rules.{plan_refusal, plan_of, are_no_two, no_two_threads, crossings_refusal}
use Rattle.plan.proofs.Kept.{unflagged}

neither : (a b : Bool) → (a || b) ≡ false → (a ≡ false) × (b ≡ false)
neither true b e = absurd (true≢false e)
neither false b e = (refl, e)

pub two-exactly : (n t u : ℕ) → (are_no_two n t u ≡ false) ↔ ((t < n) × (u < n) × (t ≢ u))
unfolding are_no_two
two-exactly n t u = (
  λ e.
      let (a, b) = neither (leb n t) (leb n u || eqb t u) e in
      let (c, d) = neither (leb n u) (eqb t u) b in
      (leb-false n t a, leb-false n u c, λ s. true≢false (sym (eq-eqb t u s) ∙ d)),
  λ x. rw (lt-leb n t x.0, lt-leb n u x.1, ne_eqb t u x.2),
)

pub crossings-kept : (text : List ℕ) (t u : ℕ)
    → (crossings_refusal text t u ≡ none) ↔ ((plan_refusal text ≡ none) × (t < length (plan_of text).threads) × (u < length (plan_of text).threads) × (t ≢ u))
unfolding crossings_refusal or_else
crossings-kept text t u =
    let n = length (plan_of text).threads in (
      λ e.
          let x = first-none (plan_refusal text) (no_two_threads (plan_of text) t u) e in
          let (b, d, two) = (two-exactly n t u).0 (unflagged 14 (are_no_two n t u) x.1) in
          (x.0, b, d, two),
      λ x. rw (x.0, (two-exactly n t u).1 (x.1, x.2, x.3)),
    )
