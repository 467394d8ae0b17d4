-- Refusals one after the other refuse by the first rule broken (`then`), if each names the line, or the number of the form, at which its rule is broken (`by_rule`).
use Prim.Native.Nat.{ℕ}
use mathlib.Core.List.{List, [], ◌∷◌, ◌++◌}
use mathlib.Core.Logic.{◌⊎◌, inl, inr, ⊎_elim, ◌↔◌}
use mathlib.Core.Option.{Option, none, some, none-ne-some, some-ne-none, some-injective, or_else}
use mathlib.Core.Path.{◌≡◌, refl, sym, ap, subst, ◌∙◌}
use Rattle.text.specs.declared.Refusal.{Refusal}
use Rattle.text.specs.Lines.{refusal}
use Rattle.plan.specs.Rules.{refused_at}
use Rattle.demands.specs.Broken.{Rule, Unbroken, AllUnbroken, FirstBroken}

-- o is the number of which P holds, or none
abbrev pub Names : Option ℕ → (ℕ → Type 0) → Type 0
Names o P = (n : ℕ) → (o ≡ some n) ↔ P n

pub unnamed : (o : Option ℕ) (P : ℕ → Type 0) → Names o P → o ≡ none → (n : ℕ) → P n → ⊥
unnamed o P h e n p = none-ne-some n (sym e ∙ (h n).1 p)

-- a is the refusal by the first of the rules that is broken, or none
pub record RefusesBy (qs : List Rule) (a : Option Refusal) : Type 0 where
  pub refused : (r l : ℕ) → (a ≡ some (refusal r l)) ↔ FirstBroken qs r l
  pub kept : (a ≡ none) ↔ AllUnbroken qs

-- one rule
pub by_rule : (q : Rule) (o : Option ℕ) → Names o q.broken → RefusesBy (q ∷ []) (refused_at q.number o)
unfolding FirstBroken AllUnbroken
by_rule q none h =
    let unbroken : Unbroken q = unnamed none q.broken h refl in
    record {
      refused = λ r l. (λ e. absurd (none-ne-some (refusal r l) e), ⊎_elim (λ x. absurd (unbroken l x.1)) (λ x. absurd x.1));
      kept = (λ _. (unbroken, tt), λ _. refl);
    }
by_rule q (some n) h =
    let broken : q.broken n = (h n).0 refl in
    record {
      refused = λ r l. (
        λ e. let i = some-injective (refusal q.number n) (refusal r l) e in inl (ap (λ w. w.rule) i, subst q.broken (ap (λ w. w.line) i) broken),
        ⊎_elim (λ x. let i : n ≡ l = some-injective n l ((h l).1 x.1) in rw (x.0, i)) (λ x. absurd (x.0 n broken)),
      );
      kept = (λ e. absurd (some-ne-none (refusal q.number n) e), λ k. absurd (k.0 n broken));
    }

-- the first rule broken of two lists
module _ (ps : List Rule) (r l : ℕ) where
  first_of : (qs : List Rule) → FirstBroken (qs ++ ps) r l → FirstBroken qs r l ⊎ (AllUnbroken qs × FirstBroken ps r l)
  unfolding FirstBroken AllUnbroken
  first_of [] x = inr (tt, x)
  first_of (q ∷ qs) (inl x) = inl (inl x)
  first_of (q ∷ qs) (inr x) = ⊎_elim (λ y. inl (inr (x.0, y))) (λ y. inr ((x.0, y.0), y.1)) (first_of qs x.1)

  first-left : (qs : List Rule) → FirstBroken qs r l → FirstBroken (qs ++ ps) r l
  unfolding FirstBroken
  first-left [] x = absurd x
  first-left (q ∷ qs) (inl x) = inl x
  first-left (q ∷ qs) (inr x) = inr (x.0, first-left qs x.1)

  first-right : (qs : List Rule) → AllUnbroken qs → FirstBroken ps r l → FirstBroken (qs ++ ps) r l
  unfolding FirstBroken AllUnbroken
  first-right [] k x = x
  first-right (q ∷ qs) k x = inr (k.0, first-right qs k.1 x)

all_of : (qs ps : List Rule) → AllUnbroken (qs ++ ps) ↔ (AllUnbroken qs × AllUnbroken ps)
unfolding AllUnbroken
all_of [] ps = (λ k. (tt, k), λ k. k.1)
all_of (q ∷ qs) ps = let h = all_of qs ps in (λ k. let x = h.0 k.1 in ((k.0, x.0), x.1), λ k. (k.0.0, h.1 (k.0.1, k.1)))

-- b where a refuses nothing
pub then : {qs ps : List Rule} {a b : Option Refusal} → RefusesBy qs a → (a ≡ none → RefusesBy ps b) → RefusesBy (qs ++ ps) (or_else a b)
unfolding or_else
then {qs} {ps} {a = none} {b} x y =
    let unbroken = x.kept.0 refl in
    let z = y refl in
    record {
      refused = λ r l. (
        λ e. first-right ps r l qs unbroken ((z.refused r l).0 e),
        λ f. ⊎_elim (λ g. absurd (none-ne-some (refusal r l) ((x.refused r l).1 g))) (λ g. (z.refused r l).1 g.1) (first_of ps r l qs f),
      );
      kept = (λ e. (all_of qs ps).1 (unbroken, z.kept.0 e), λ k. z.kept.1 ((all_of qs ps).0 k).1);
    }
then {qs} {ps} {a = some w} {b} x y =
    let never : AllUnbroken qs → ⊥ = λ k. some-ne-none w (x.kept.1 k) in
    record {
      refused = λ r l. (
        λ e. first-left ps r l qs ((x.refused r l).0 e),
        λ f. ⊎_elim (λ g. (x.refused r l).1 g) (λ g. absurd (never g.0)) (first_of ps r l qs f),
      );
      kept = (λ e. absurd (some-ne-none w e), λ k. absurd (never ((all_of qs ps).0 k).0));
    }
