-- What is listed are the couples of the plan that the text is written of (`couples-exact`), whose pairs are the published ones (`critical-is-published`), and the answer says how many
-- there are. In a plan that is free of deadlocks no two threads cross (`free-uncrossed`).
use Prim.Native.Nat.{ℕ, ◌<◌}
use mathlib.Core.List.{List, Memᴰ}
use mathlib.Core.Logic.{◌≢◌, ◌↔◌}
use mathlib.Core.Option.{none}
use mathlib.Core.Path.{◌≡◌, refl, sym, ap, ◌∙◌}
use lib.ListN.{length}
use Rattle.std.proofs.Common.{Result, Ok}
use Rattle.text.specs.declared.Refusal.{Refusal}
use Rattle.semantics.specs.Plan.{LockPlan, thread_proc}
use Rattle.semantics.specs.Pairs.{Critical}
use Rattle.semantics.specs.Language.{PublishedCritical}
use Rattle.semantics.proofs.Critical.CriticalLanguage.{critical-is-published}
use Rattle.semantics.proofs.Conflicts.Characterisation.{Ranked}
use Rattle.plan.specs.Rules.{plan_of, crossings_refusal}
use Rattle.demands.specs.Broken.{AcceptedText}
use Rattle.demands.proofs.Accepted.{accepted-plan, plan-ranked, crossings-accepted-exactly}
use Rattle.answers.specs.Answers.{counted_of, read_counted}
use Rattle.couples.specs.Couples.{Couple, couples}
use Rattle.couples.proofs.Alone.{couples-exact, free-uncrossed}
use Rattle.crossing.specs.Crossed.{couples_in}
use Rattle.lockplan.specs.ThreadCrossings.{PublishedCouple, CrossesExactly, Crossings}
use Rattle.lockplan.proofs.Demands.{crossings_carried}

-- ---- over a plan

module _ (plan : LockPlan) (r : Ranked plan) (t u : ℕ) (b : t < length plan.threads) (d : u < length plan.threads) (two : t ≢ u) where
  is-published : (p w : ℕ) → Critical plan.procs p w ↔ PublishedCritical plan.procs p w
  is-published p w = critical-is-published plan.procs r.ranks.rank r.ranks.sound p w

  published : (c : Couple) → Memᴰ c (couples plan t u) ↔ PublishedCouple plan t u c
  published c =
      let every = (couples-exact plan r t u b d).every c in
      let of_first = is-published (thread_proc plan t) c.first in
      let of_second = is-published (thread_proc plan u) c.second in (
        λ m. let x = every.0 m in record { of_first = of_first.0 x.of_first; of_second = of_second.0 x.of_second; crossing = x.crossing },
        λ x. every.1 (record { of_first = of_first.1 x.of_first; of_second = of_second.1 x.of_second; crossing = x.crossing }),
      )

  plan-crosses : CrossesExactly plan t u (Ok (length (couples plan t u))) (couples plan t u)
  plan-crosses =
      let exact = couples-exact plan r t u b d in
      record {
        number = refl;
        every = published;
        ordered = exact.ordered;
        zero-exactly = (λ e. exact.zero-exactly.0 cc, λ s. ap Ok (exact.zero-exactly.1 s));
        free = λ f. ap (λ cs. Ok (length cs)) (free-uncrossed plan r t u b d (λ e. two (sym e)) f);
      }

-- ---- over a text

module _ (text : List ℕ) (x : AcceptedText text) (t u : ℕ) (b : t < length x.plan.threads) (d : u < length x.plan.threads) (two : t ≢ u) where
  unrefused : crossings_refusal text t u ≡ none
  unrefused = (crossings-accepted-exactly text t u).1 (x, b, d, two)

  crosses-exactly : (r : Result ℕ Refusal) → r ≡ counted_of (crossings_refusal text t u) (length (couples_in text t u)) → CrossesExactly x.plan t u r (couples_in text t u)
  unfolding counted_of
  crosses-exactly r e =
      let same : plan_of text ≡ x.plan = accepted-plan text x in
      let is : r ≡ Ok (length (couples x.plan t u)) = e ∙ rw (unrefused, same) in
      rw (is, same) (plan-crosses x.plan (plan-ranked text x) t u b d two)

pub crossings-exact : (text before after : List ℕ) → Crossings text before after
crossings-exact text before after = record {
  crossings = λ t u r c x b d two. (couples_in text t u, crosses-exactly text x t u b d two r c.answer, rw (unrefused text x t u b d two) at c.buffer);
  lockplan_crossings = λ t u n c x b d two. (
    couples_in text t u,
    crosses-exactly text x t u b d two (read_counted n) (crossings_carried text before after n t u c),
    rw (unrefused text x t u b d two) at c.buffer,
  );
}
