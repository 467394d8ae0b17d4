-- Rules that name forms by their numbers, at the lines of the file: a refusal by the first of them broken is, in the file, one by the first broken there
-- (`refuses-in_file`). Each line that such a rule names is the line of a number at which it is broken, and each such number has a line; nothing is asked of the lines.
use Prim.Native.Nat.{ℕ}
use mathlib.Core.List.{List, [], ◌∷◌}
use mathlib.Core.Logic.{inl, inr, ◌↔◌}
use mathlib.Core.Option.{Option, none, some, none-ne-some, some-ne-none, some-injective}
use mathlib.Core.Path.{◌≡◌, refl, sym, ap, subst₂, ◌∙◌}
use Rattle.text.specs.declared.Refusal.{Refusal}
use Rattle.text.specs.Lines.{refusal, line_of}
use Rattle.plan.specs.Rules.{refusal_in_file, in_file}
use Rattle.demands.specs.Lines.{InFile}
use Rattle.demands.specs.Broken.{Rule, rule, rules_in_file, Unbroken, AllUnbroken, FirstBroken}
use Rattle.demands.proofs.Order.{RefusesBy}

module _ (text : List ℕ) where
  -- at the line of a number
  at-line : (P : ℕ → Type 0) (k : ℕ) → P k → InFile text P (line_of text k)
  at-line P k h = record { number = k; holds = h; line = refl }

  unbroken-lines : (q : Rule) → Unbroken q ↔ Unbroken (rule q.number (InFile text q.broken))
  unbroken-lines q = (λ u l x. u x.number x.holds, λ u k h. u (line_of text k) (at-line q.broken k h))

  all_lines : (qs : List Rule) → AllUnbroken qs ↔ AllUnbroken (rules_in_file text qs)
  unfolding AllUnbroken rules_in_file
  all_lines [] = (λ k. k, λ k. k)
  all_lines (q ∷ qs) =
      let u = unbroken-lines q in
      let h = all_lines qs in
      (λ k. (u.0 k.0, h.0 k.1), λ k. (u.1 k.0, h.1 k.1))

  first-line : (qs : List Rule) (r k : ℕ) → FirstBroken qs r k → FirstBroken (rules_in_file text qs) r (line_of text k)
  unfolding FirstBroken rules_in_file
  first-line [] r k x = x
  first-line (q ∷ qs) r k (inl x) = inl (x.0, at-line q.broken k x.1)
  first-line (q ∷ qs) r k (inr x) = inr ((unbroken-lines q).0 x.0, first-line qs r k x.1)

  first-number : (qs : List Rule) (r l : ℕ) → FirstBroken (rules_in_file text qs) r l → (k : ℕ) × (l ≡ line_of text k) × FirstBroken qs r k
  unfolding FirstBroken rules_in_file
  first-number [] r l x = absurd x
  first-number (q ∷ qs) r l (inl x) = (x.1.number, x.1.line, inl (x.0, x.1.holds))
  first-number (q ∷ qs) r l (inr x) = let (k, e, y) = first-number qs r l x.1 in (k, e, inr ((unbroken-lines q).1 x.0, y))

  pub refuses-in_file : {qs : List Rule} {a : Option Refusal} → RefusesBy qs a → RefusesBy (rules_in_file text qs) (in_file text a)
  refuses-in_file {qs} {a = none} x = record {
    refused = λ r l. (
      λ e. absurd (none-ne-some (refusal r l) e),
      λ f. let (k, _, y) = first-number qs r l f in absurd (none-ne-some (refusal r k) ((x.refused r k).1 y)),
    );
    kept = (λ _. (all_lines qs).0 (x.kept.0 refl), λ _. refl);
  }
  refuses-in_file {qs} {a = some w} x = record {
    refused = λ r l. (
      λ e.
          let i = some-injective (refusal_in_file text w) (refusal r l) e in
          subst₂ (FirstBroken (rules_in_file text qs)) (ap (λ v. v.rule) i) (ap (λ v. v.line) i) (first-line qs w.rule w.line ((x.refused w.rule w.line).0 refl)),
      λ f. let (k, e, y) = first-number qs r l f in ap (in_file text) ((x.refused r k).1 y) ∙ ap {B = Option Refusal} (λ n. some (refusal r n)) (sym e),
    );
    kept = (λ e. absurd (some-ne-none (refusal_in_file text w) e), λ k. absurd (some-ne-none w (x.kept.1 ((all_lines qs).1 k))));
  }
