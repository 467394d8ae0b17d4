-- A procedure has fewer pairs than half its size (`pair_list_bound`), and rule 9 bounds the size. A refusal is by the first rule broken (`demand_1`), so its number is one of those
-- in the list of rules; 10 is in none of these lists, and 1 not behind the pair list's first.
use Prim.Native.Nat.{ℕ, ◌+◌, ◌*◌, ◌/◌, ◌<◌, ◌≤◌}
use native.Mathlib.Omega.{arith}
use mathlib.Core.Bool.{Bool, true, false, cond, true≢false}
use mathlib.Core.List.{List, [], ◌∷◌, ◌++◌}
use mathlib.Core.Logic.{inl, inr}
use mathlib.Core.Option.{or_else}
use mathlib.Core.Path.{◌≡◌, refl, sym, ap, subst, ◌∙◌}
use lib.Dec.{eqb}
use lib.ListN.{length}
use borrow.Author.Tests.{lt-ltb, eq-eqb}
use Rattle.std.proofs.Common.{Result, Err}
use Rattle.limits.specs.Limits.{max_pair_words}
use Rattle.laws.proofs.Ascending.{ascends-length}
use Rattle.text.specs.declared.Refusal.{Refusal}
use Rattle.text.specs.Lines.{refusal}
use Rattle.semantics.specs.Plan.{LockPlan}
use Rattle.semantics.specs.Sizes.{size_of}
use Rattle.semantics.specs.Pairs.{pair_list}
use Rattle.semantics.proofs.Critical.PairList.{pair_list-ascends}
use Rattle.semantics.proofs.Critical.PairBound.{pair_list_bound}
use Rattle.plan.specs.Rules.{plan_of, pairs_refusal}
use Rattle.plan.proofs.AcceptedTable.{accepted-ranks}
use Rattle.demands.specs.Broken.{Rule, rule, OfPlan, AbsentRequest, form_rules, rules_in_file, plan_rules, verdict_rules, pairs_rules, copy_rules, crossings_rules, FirstBroken, AcceptedText}
use Rattle.demands.proofs.Refusals.{refused-exactly, pairs-refused-exactly, crossings-refused-exactly}
use Rattle.demands.proofs.Accepted.{accepted-plan, accepted-exactly, published-exactly}
use Rattle.answers.specs.Answers.{counted_of, read_counted, read_verdict}
use Rattle.answers.proofs.Counts.{counted_is, counted-kept}
use Rattle.listing.specs.Listed.{pairs_of}
use Rattle.listing.proofs.ListedPairs.{few-listed}
use Rattle.lockplan.specs.Demands.{RefusesExactly}
use Rattle.lockplan.specs.PairLimit.{DifferentPairs, FewPairs, ListedWithin, NeverTen, RuleTenUnused, PairLimit}
use Rattle.lockplan.proofs.Demands.{listing_carried, demand_1}

-- ---- few pairs

module _ (text : List ℕ) (x : AcceptedText text) (p : ℕ) (h : p < length x.plan.procs) where
  listed-size : 2 * length (pair_list (plan_of text).procs p) + 1 ≤ size_of x.plan.procs p
  listed-size =
      let same : plan_of text ≡ x.plan = accepted-plan text x in
      let ranks = accepted-ranks text ((accepted-exactly text).1 x) in
      subst (λ (q : LockPlan). 2 * length (pair_list (plan_of text).procs p) + 1 ≤ size_of q.procs p) same
      (pair_list_bound (plan_of text).procs ranks.rank ranks.sound p (rw same h))

  -- the list has all critical pairs
  by_size : (pairs : List ℕ) → DifferentPairs x.plan.procs p pairs → 2 * length pairs + 1 ≤ size_of x.plan.procs p
  by_size pairs d =
      let all : length pairs ≤ length (pair_list (plan_of text).procs p) =
      ascends-length (pair_list (plan_of text).procs p) pairs d.different (pair_list-ascends (plan_of text).procs p)
      (λ w m. (published-exactly text x p h w).1 (d.critical w m)) in
      omega (arith, listed-size)

  few-pairs : FewPairs x.plan.procs p
  few-pairs = record { by_size = by_size; most = λ pairs d. omega (arith, by_size pairs d, x.sizes p h) }

-- ---- the numbers of the rules

-- r is the number of one of the rules
unfoldable is_number : ℕ → List Rule → Bool
is_number r [] = false
is_number r (q ∷ qs) = cond (eqb q.number r) true (is_number r qs)

broken-number : (qs : List Rule) (r l : ℕ) → FirstBroken qs r l → is_number r qs ≡ true
unfolding FirstBroken is_number
broken-number [] r l x = absurd x
broken-number (q ∷ qs) r l (inl x) = rw (eq-eqb q.number r x.0)
broken-number (q ∷ qs) r l (inr x) = go (eqb q.number r) (broken-number qs r l x.1)
  where
    go : (b : Bool) → is_number r qs ≡ true → cond b true (is_number r qs) ≡ true
    go true e = refl
    go false e = e

no_number : (qs : List Rule) (n : ℕ) → is_number n qs ≡ false → (x : Refusal) → FirstBroken qs x.rule x.line → x.rule ≡ n → ⊥
no_number qs n e x b k = true≢false (sym (broken-number qs x.rule x.line b) ∙ ap (λ r. is_number r qs) k ∙ e)

never_ten : (rules : List Rule) (Kept : Type 0) (Refuses : Refusal → Type 0) → is_number 10 rules ≡ false → RefusesExactly rules Kept Refuses → NeverTen Refuses
never_ten rules Kept Refuses e d x y = no_number rules 10 e x ((d.first-broken x.rule x.line).0 y)

module _ (text : List ℕ) where
  plan-numbers : is_number 10 (plan_rules text) ≡ false
  unfolding is_number plan_rules rules_in_file form_rules
  plan-numbers = refl

  verdict-numbers : (lent : ℕ) → is_number 10 (verdict_rules text lent) ≡ false
  unfolding is_number verdict_rules plan_rules rules_in_file form_rules
  verdict-numbers lent = refl

  pairs-numbers : (p lent : ℕ) → is_number 10 (pairs_rules text p lent) ≡ false
  unfolding is_number pairs_rules plan_rules rules_in_file form_rules
  pairs-numbers p lent = refl

  copy-numbers : (lent : ℕ) → is_number 10 (copy_rules text lent) ≡ false
  unfolding is_number copy_rules plan_rules rules_in_file form_rules
  copy-numbers lent = refl

  crossings-numbers : (t u : ℕ) → is_number 10 (crossings_rules text t u) ≡ false
  unfolding is_number crossings_rules plan_rules rules_in_file form_rules
  crossings-numbers t u = refl

  later-numbers : (p : ℕ) → is_number 1 (plan_rules text ++ rule 11 (OfPlan (AbsentRequest p) text) ∷ []) ≡ false
  unfolding is_number plan_rules rules_in_file form_rules
  later-numbers p = refl

  rule_ten_unused : RuleTenUnused text
  rule_ten_unused = record {
    plan = λ x e. no_number (plan_rules text) 10 plan-numbers x ((refused-exactly text x.rule x.line).0 e);
    crossing = λ t u x e. no_number (crossings_rules text t u) 10 (crossings-numbers t u) x ((crossings-refused-exactly text x.rule x.line t u).0 e);
    judge = λ before v after d. never_ten _ _ (λ x. v ≡ Err x) (verdict-numbers (length before)) ((demand_1 text before after).judge v d).exactly;
    lockplan_verdict = λ before n after d.
        never_ten _ _ (λ x. read_verdict n ≡ Err x) (verdict-numbers (length before / 2)) ((demand_1 text before after).lockplan_verdict n d).exactly;
    pair-list = λ p before r after d. never_ten _ _ (λ x. r ≡ Err x) (pairs-numbers p (length before)) ((demand_1 text before after).pair-list p r d).exactly;
    lockplan_pairs = λ p before n after d.
        never_ten _ _ (λ x. read_counted n ≡ Err x) (pairs-numbers p (length before / 8)) ((demand_1 text before after).lockplan_pairs p n d).exactly;
    tidy = λ before r after d. never_ten _ _ (λ x. r ≡ Err x) (copy-numbers (length before)) ((demand_1 text before after).tidy r d).exactly;
    lockplan_tidy = λ before n after d.
        never_ten _ _ (λ x. read_counted n ≡ Err x) (copy-numbers (length before)) ((demand_1 text before after).lockplan_tidy n d).exactly;
    straight = λ before r after d. never_ten _ _ (λ x. r ≡ Err x) (copy-numbers (length before)) ((demand_1 text before after).straight r d).exactly;
    lockplan_straight = λ before n after d.
        never_ten _ _ (λ x. read_counted n ≡ Err x) (copy-numbers (length before)) ((demand_1 text before after).lockplan_straight n d).exactly;
    space = λ r d. never_ten _ _ (λ x. r ≡ Err x) plan-numbers ((demand_1 text [] []).space r d);
    lockplan_space = λ n d. never_ten _ _ (λ x. read_counted n ≡ Err x) plan-numbers ((demand_1 text [] []).lockplan_space n d);
    crossings = λ t u before r after d. never_ten _ _ (λ x. r ≡ Err x) (crossings-numbers t u) ((demand_1 text before after).crossings t u r d).exactly;
    lockplan_crossings = λ t u before n after d.
        never_ten _ _ (λ x. read_counted n ≡ Err x) (crossings-numbers t u) ((demand_1 text before after).lockplan_crossings t u n d).exactly;
  }

-- ---- the pair list

module _ (text : List ℕ) (p lent : ℕ) (r : Result ℕ Refusal) (e : r ≡ counted_of (pairs_refusal text p lent) (length (pairs_of text p))) where
  shorter : lent < max_pair_words → r ≡ Err (refusal 1 0)
  unfolding pairs_refusal counted_of or_else
  shorter h = e ∙ rw (lt-ltb lent max_pair_words h)

  not_by_one : max_pair_words ≤ lent → (x : Refusal) → FirstBroken (pairs_rules text p lent) x.rule x.line → x.rule ≡ 1 → ⊥
  unfolding pairs_rules FirstBroken
  not_by_one h x (inl b) k = omega (arith, b.1.0)
  not_by_one h x (inr b) k = no_number _ 1 (later-numbers text p) x b.1 k

  listed-within : ListedWithin lent r
  listed-within = record {
    shorter = shorter;
    suffices = λ h x g.
        not_by_one h x ((pairs-refused-exactly text x.rule x.line p lent).0 ((counted_is (pairs_refusal text p lent) (length (pairs_of text p)) x).0 (sym e ∙ g)));
    most = λ n g. let k = counted-kept (pairs_refusal text p lent) r (length (pairs_of text p)) n e g in omega (arith, k.1, few-listed text p lent k.0);
  }

pub pair_limit : (text : List ℕ) → PairLimit text
pair_limit text = record {
  few = few-pairs text;
  pair-list = λ p before r after d. listed-within text p (length before) r d.answer;
  lockplan_pairs = λ p before n after d. listed-within text p (length before / 8) (read_counted n) (listing_carried text before after n p d);
  unused = rule_ten_unused text;
}
