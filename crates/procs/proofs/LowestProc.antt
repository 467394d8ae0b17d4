-- The lowest procedure that passes a test, by its place.
use Prim.Native.Nat.{ℕ, ◌+◌, ◌<◌, ◌≤◌}
use native.Mathlib.Omega.{arith}
use mathlib.Core.Path.{◌≡◌, sym, ap, subst, ◌∙◌}
use mathlib.Core.Bool.{Bool, true, false}
use mathlib.Core.List.{List}
use mathlib.Core.Logic.{⊎_elim}
use mathlib.Core.Option.{Option, none, some}
use native.Mathlib.Nat.{eq-or-lt_of_le}
use lib.ListN.{length, get_or}
use borrow.Author.Count as count
use Rattle.laws.proofs.Tests.{lt_or_le}
use Rattle.text.specs.Lines.{refusal}
use Rattle.plan.specs.Table.{table_forms}
use Rattle.plan.specs.Settled.{table_plan}
use Rattle.plan.specs.Rules.{lowest_from, proc_refusal}
use Rattle.plan.proofs.Lowest.{Lowest, lowest, none-proc_refusal}
use Rattle.procs.specs.declared.Layout.{Layout}
use Rattle.procs.specs.Laid.{Laid}

-- no number before p passes, and p does
first_is : (test : ℕ → Bool) (p n : ℕ) → ((q : ℕ) → q < p → test q ≡ false) → p < n → test p ≡ true → lowest_from test 0 n ≡ some p
first_is test p n below h t = go (lowest_from test 0 n) (lowest test n 0)
  where
    go : (o : Option ℕ) → Lowest test 0 n o → o ≡ some p
    go none x = let z : true ≡ false = sym t ∙ x p (omega arith) (omega arith) in cc
    go (some q) x =
        let before : q < p → some q ≡ some p = λ k. let z : true ≡ false = sym x.2 ∙ below q k in cc in
        let behind : p < q → some q ≡ some p = λ k. let z : true ≡ false = sym t ∙ x.3 p (omega arith) k in cc in
        ⊎_elim before (λ (k : p ≤ q). ⊎_elim (λ (e : p ≡ q). ap some (sym e)) behind (eq-or-lt_of_le k)) (lt_or_le q p)

-- what the calls so far answered, where an answer is what `passes` says
module _ (Answers : ℕ → Bool → Type 0) (p : ℕ) (below : (q : ℕ) → q < p → Answers q false) where
  pub below_more : (r : Bool) → Answers p r → r ≡ false → (q : ℕ) → q < p + 1 → Answers q false
  below_more r a z = count.below_more (λ q. Answers q false) p below (subst (Answers p) z a)

  module _ (table : List ℕ) (l : Layout) (d : Laid table l) (rule : ℕ) (passes : ℕ → Bool) (says : (q : ℕ) (r : Bool) → q < l.procs → Answers q r → r ≡ passes q) where
    pub lowest-found : (r : Bool) → p < l.procs → Answers p r → r ≡ true → proc_refusal rule (table_forms table) passes ≡ some (refusal rule (get_or l.starts p 0))
    unfolding proc_refusal
    lowest-found r h a t =
        let e = first_is passes p (length (table_plan table).procs) (λ q k. sym (says q false (omega arith) (below q k))) (omega (arith, d.procs-all)) (sym (says p r h a) ∙ t) in
        rw (e, d.starts_there.numbers p (omega (arith, d.procs-all)))

    pub lowest-none : p ≤ l.procs → l.procs ≤ p → proc_refusal rule (table_forms table) passes ≡ none
    lowest-none h k = none-proc_refusal rule (table_forms table) passes (λ q i. sym (says q false (omega (arith, d.procs-all)) (below q (omega (arith, d.procs-all)))))
