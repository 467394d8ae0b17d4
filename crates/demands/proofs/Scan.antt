-- A pass over forms names the first form of which P holds, by its number, where its test of a form says whether P does (`scan-names`). The pass of rule 5 counts the forms
-- read (`limits-scan`), those of rules 6 to 8 do not (`numbers-scan`).
use Prim.Native.Nat.{ℕ, suc, ◌+◌, ◌<◌, ◌≤◌}
use mathlib.Core.Bool.{Bool, true, false, cond}
use mathlib.Core.List.{List, [], ◌∷◌, ◌++◌, append-nil, head-eq_of_cons-eq}
use mathlib.Core.Logic.{⊎_elim}
use mathlib.Core.Option.{Option, none, some}
use mathlib.Core.Path.{◌≡◌, refl, sym, ap, subst₂, ◌∙◌}
use native.Mathlib.Omega.{arith}
use lib.ListN.{length, take, drop, length-append}
use lib.Seq.{take_at, drop_at, append_snoc}
use Rattle.laws.proofs.Tests.{lt_or_le}
use Rattle.text.specs.declared.Form.{Form}
use Rattle.text.specs.Forms.{is_proc}
use Rattle.plan.specs.Limits.{over_limit, past_limit_from, past_limit_form, breaks, breaking, count_if, breaking_form}
use Rattle.demands.specs.Lines.{First, FormWhere}
use Rattle.demands.proofs.Order.{Names}
use Rattle.demands.proofs.Firsts.{Decides, Scanned, names-scanned}
use Rattle.demands.proofs.Counting.{counts_of, counts_snoc}

snoc_length : (fs : List Form) (f : Form) → length (fs ++ f ∷ []) ≡ length fs + 1
snoc_length fs f = length-append fs (f ∷ [])

module _ (P : List Form → Form → Type 0) (whole : List Form) where
  -- a form is settled by its number
  same-form : (before : List Form) (f : Form) (after : List Form) (n : ℕ) → whole ≡ before ++ f ∷ after → n ≡ length before + 1 → FormWhere P whole n → P before f
  same-form before f after n e k x =
      let j : length x.before ≡ length before = omega (arith, x.number) in
      let both : x.before ++ x.form ∷ x.after ≡ before ++ f ∷ after = sym x.split ∙ e in
      let fronts : x.before ≡ before =
      sym (take_at x.before (x.form ∷ x.after) (length before) j) ∙ ap (take (length before)) both ∙ take_at before (f ∷ after) (length before) refl in
      let backs : x.form ∷ x.after ≡ f ∷ after =
      sym (drop_at x.before (x.form ∷ x.after) (length before) j) ∙ ap (drop (length before)) both ∙ drop_at before (f ∷ after) (length before) refl in
      subst₂ P fronts (head-eq_of_cons-eq backs) x.holds

  -- P holds of no form up to there
  abbrev Clean : List Form → Type 0
  Clean before = (n : ℕ) → n ≤ length before → FormWhere P whole n → ⊥

  clean_more : (before : List Form) (f : Form) (after : List Form) → whole ≡ before ++ f ∷ after → (P before f → ⊥) → Clean before → Clean (before ++ f ∷ [])
  clean_more before f after e not-here c n h x =
      ⊎_elim (λ (k : n < length before + 1). c n (omega arith) x)
      (λ (k : length before + 1 ≤ n). not-here (same-form before f after n e (omega (arith, snoc_length before f)) x))
      (lt_or_le n (length before + 1))

  number-within : (n : ℕ) → FormWhere P whole n → n ≤ length whole
  number-within n x = omega (arith, x.number, ap length x.split, length-append x.before (x.form ∷ x.after))

  -- a pass: what it finds among forms, the first of them number k, where others stand before them
  module _ (test : List Form → Form → Bool) (pass : List Form → ℕ → List Form → Option ℕ)
      (ends : (before : List Form) (k : ℕ) → pass before k [] ≡ none)
      (goes : (before : List Form) (k : ℕ) (f : Form) (fs : List Form) → pass before k (f ∷ fs) ≡ cond (test before f) (some k) (pass (before ++ f ∷ []) (suc k) fs))
      (decide : (before : List Form) (f : Form) (after : List Form) → whole ≡ before ++ f ∷ after → Decides (test before f) (P before f)) where
    scan : (fs before : List Form) (k : ℕ) → whole ≡ before ++ fs → k ≡ length before + 1 → Clean before → Scanned (FormWhere P whole) (pass before k fs)
    scan [] before k e l c = rw (ends before k) (λ n x. c n (omega (arith, number-within n x, ap length (e ∙ append-nil before))) x)
    scan (f ∷ fs) before k e l c = rw (goes before k f fs)
        (⊎_elim
        (λ (x : (test before f ≡ true) × P before f). rw x.0 (record {
          here = record { before = before; form = f; after = fs; split = e; number = l; holds = x.1 };
          none_before = λ m h. c m (omega arith);
        }))
        (λ (x : (test before f ≡ false) × (P before f → ⊥)).
        rw x.0 (scan fs (before ++ f ∷ []) (suc k) (e ∙ sym (append_snoc before f fs)) (omega (arith, snoc_length before f)) (clean_more before f fs e x.1 c)))
        (decide before f fs e))

    scan-names : Names (pass [] 1 whole) (First (FormWhere P whole))
    scan-names = names-scanned (pass [] 1 whole) (FormWhere P whole) (scan whole [] 1 refl refl (λ n h x. omega (arith, x.number)))

  pub limits-scan : ((before : List Form) (f : Form) (after : List Form) → whole ≡ before ++ f ∷ after → Decides (over_limit (counts_of (before ++ f ∷ []))) (P before f))
      → Names (past_limit_form whole) (First (FormWhere P whole))
  unfolding past_limit_form past_limit_from counts_of
  limits-scan decide =
      scan-names (λ before f. over_limit (counts_of (before ++ f ∷ []))) (λ before k fs. past_limit_from (counts_of before) k fs)
      (λ before k. refl) (λ before k f fs. rw (counts_snoc before f)) decide

  pub numbers-scan : (rule : ℕ) → ((before : List Form) (f : Form) → Decides (breaks rule (count_if is_proc whole) f) (P before f))
      → Names (breaking_form rule whole) (First (FormWhere P whole))
  unfolding breaking_form breaking
  numbers-scan rule decide =
      let n = count_if is_proc whole in
      scan-names (λ before f. breaks rule n f) (λ before k fs. breaking rule n k fs) (λ before k. refl) (λ before k f fs. refl) (λ before f after e. decide before f)
