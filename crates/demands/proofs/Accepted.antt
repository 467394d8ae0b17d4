-- No rule refuses a text exactly when it is short and its lines spell a plan that keeps what the rules say (`accepted-exactly`). Then the plan is the one that is read
-- (`accepted-plan`), and the listed pairs of its procedures are the critical ones of source 000 (`published-exactly`).
use Prim.Native.Nat.{ℕ, ◌<◌, ◌≤◌}
use mathlib.Core.List.{List, Memᴰ}
use mathlib.Core.Logic.{◌≢◌, ◌↔◌}
use mathlib.Core.Option.{none, or_else}
use mathlib.Core.Path.{◌≡◌, refl, sym, ap, subst, ◌∙◌}
use native.Mathlib.Omega.{arith}
use lib.Dec.{ltb, leb}
use lib.ListN.{length}
use borrow.Author.Tests.{le-ltb, lt-leb, ltb-false, leb-false}
use Rattle.limits.specs.Limits.{max_bytes, max_size, max_pair_words}
use Rattle.laws.proofs.Tests.{first-none}
use Rattle.text.specs.Lines.{forms_of, unreadable_line, IsText}
use Rattle.text.proofs.Splits.{readable-written, text-written}
use Rattle.semantics.specs.Plan.{LockPlan, Ranks}
use Rattle.semantics.specs.Calls.{Recursive, Reachable}
use Rattle.semantics.specs.Sizes.{size_of, thread_sizes}
use Rattle.semantics.specs.Pairs.{pair_list}
use Rattle.semantics.specs.Language.{PublishedCritical}
use Rattle.semantics.proofs.Calls.Ranks.{acyclic-ranks}
use Rattle.semantics.proofs.Critical.PairList.{pair_list-critical}
use Rattle.semantics.proofs.Critical.CriticalLanguage.{critical-is-published}
use Rattle.semantics.proofs.Conflicts.Characterisation.{Ranked}
use Rattle.plan.specs.Grammar.{forms, plan_in}
use Rattle.plan.specs.Rules.{refused_if, grammar_refusal, too_large, plan_of, plan_refusal, too_few_entries, verdict_refusal}
use Rattle.plan.specs.Rules.{pairs_refusal, copy_refusal, crossings_refusal}
use Rattle.plan.proofs.Kept.{unflagged}
use Rattle.plan.proofs.TwoThreads.{crossings-kept}
use Rattle.plan.proofs.AcceptedTable.{accepted-rules, rules-accepted, accepted-text, accepted-settled}
use Rattle.plan.proofs.Allowed.{rules-plan}
use Rattle.plan.proofs.Ranked.{recursive-exactly, settled-ranked}
use Rattle.plan.proofs.ReachableProcs.{idle-exactly}
use Rattle.demands.specs.Broken.{TooLarge, plan_rules, AllUnbroken, AcceptedText}
use Rattle.demands.proofs.Firsts.{below}
use Rattle.demands.proofs.Lowest.{none-lowest, lowest-none}
use Rattle.demands.proofs.Refusals.{plan-refuses}

not-above : (n : ℕ) → (max_size < n → ⊥) → n ≤ max_size
not-above n h = omega arith

module _ (text : List ℕ) where
  accepted : plan_refusal text ≡ none → AcceptedText text
  unfolding plan_of too_large
  accepted e =
      let fs = forms_of text in
      let ps = (plan_in fs).procs in
      let r = accepted-rules text e in
      let written = accepted-text text e in
      record {
        short = r.short;
        plan = plan_of text;
        written = subst (IsText text) written (readable-written text r.readable);
        settled = accepted-settled text e;
        acyclic = (recursive-exactly fs).0 r.acyclic;
        reachable = (idle-exactly fs).0 r.reachable;
        sizes = λ p h. not-above (size_of ps p) (none-lowest fs written (λ p. ltb max_size (size_of ps p)) TooLarge (λ p h. below max_size (size_of ps p)) 9 r.sizes p h);
      }

  module _ (x : AcceptedText text) where
    same-forms : (unreadable_line text ≡ none) × (forms_of text ≡ forms x.plan)
    same-forms = (text-written text (forms x.plan)).1 x.written

    kept-rules : (grammar_refusal (forms_of text) ≡ none) × (plan_in (forms_of text) ≡ x.plan)
    kept-rules = (rules-plan (forms_of text) x.plan).1 (x.settled, same-forms.1)

    -- the plan is the one that is read
    pub accepted-plan : plan_of text ≡ x.plan
    unfolding plan_of
    accepted-plan = kept-rules.1

    forms-written : forms_of text ≡ forms (plan_in (forms_of text))
    forms-written = same-forms.1 ∙ ap forms (sym kept-rules.1)

    ranks : Ranks x.plan.procs
    ranks = acyclic-ranks x.plan.procs x.acyclic x.settled.callees_present x.settled.filled

    -- what the theory asks of a plan
    pub plan-ranked : Ranked x.plan
    plan-ranked = settled-ranked x.plan x.settled ranks

    unrefused : plan_refusal text ≡ none
    unfolding too_large
    unrefused =
        let fs = forms_of text in
        let ps = (plan_in fs).procs in
        let same = kept-rules.1 in
        let acyclic : (p : ℕ) → Recursive ps p → ⊥ = subst (λ (q : LockPlan). (p : ℕ) → Recursive q.procs p → ⊥) (sym same) x.acyclic in
        let reachable : (p : ℕ) → p < length ps → Reachable (plan_in fs) p =
        subst (λ (q : LockPlan). (p : ℕ) → p < length q.procs → Reachable q p) (sym same) x.reachable in
        let sizes : (p : ℕ) → p < length ps → size_of ps p ≤ max_size =
        subst (λ (q : LockPlan). (p : ℕ) → p < length q.procs → size_of q.procs p ≤ max_size) (sym same) x.sizes in
        rules-accepted text (record {
          short = x.short;
          readable = same-forms.0;
          formed = kept-rules.0;
          acyclic = (recursive-exactly fs).1 acyclic;
          reachable = (idle-exactly fs).1 reachable;
          sizes = lowest-none fs forms-written (λ p. ltb max_size (size_of ps p)) TooLarge (λ p h. below max_size (size_of ps p)) 9 (λ p h k. omega (arith, sizes p h));
        })

    -- demand 2, of the listed pairs
    pub published-exactly : (p : ℕ) → p < length x.plan.procs → (w : ℕ)
        → Memᴰ w (pair_list (plan_of text).procs p) ↔ PublishedCritical x.plan.procs p w
    published-exactly p h w =
        let ps = x.plan.procs in
        let listed = pair_list-critical ps ranks.rank ranks.sound p (ranks.below p h) w in
        let published = critical-is-published ps ranks.rank ranks.sound p w in
        rw accepted-plan (λ m. published.0 (listed.0 m), λ k. listed.1 (published.1 k))

  pub accepted-exactly : (plan_refusal text ≡ none) ↔ AcceptedText text
  accepted-exactly = (accepted, unrefused)

  pub unbroken-exactly : AllUnbroken (plan_rules text) ↔ AcceptedText text
  unbroken-exactly = let k = (plan-refuses text).kept in (λ u. accepted (k.1 u), λ x. k.0 (unrefused x))

  -- with rule 1
  lent-exactly : (needed lent : ℕ) → (or_else (refused_if 1 (ltb lent needed)) (plan_refusal text) ≡ none) ↔ ((needed ≤ lent) × AcceptedText text)
  unfolding or_else
  lent-exactly needed lent = (
    λ e. let x = first-none (refused_if 1 (ltb lent needed)) (plan_refusal text) e in (ltb-false lent needed (unflagged 1 (ltb lent needed) x.0), accepted x.1),
    λ x. rw (le-ltb lent needed x.0) (unrefused x.1),
  )

  pub copy-accepted-exactly : (lent : ℕ) → (copy_refusal text lent ≡ none) ↔ ((max_bytes ≤ lent) × AcceptedText text)
  unfolding copy_refusal
  copy-accepted-exactly lent = lent-exactly max_bytes lent

  -- with rule 1 behind the plan's
  pub verdict-accepted-exactly : (lent : ℕ) → (verdict_refusal text lent ≡ none) ↔ ((x : AcceptedText text) × (thread_sizes x.plan ≤ lent))
  unfolding verdict_refusal too_few_entries or_else
  verdict-accepted-exactly lent = (
    λ e.
        let y = first-none (plan_refusal text) (too_few_entries (plan_of text) lent) e in
        let x = accepted y.0 in
        (x, subst (λ (q : LockPlan). thread_sizes q ≤ lent) (accepted-plan x) (ltb-false lent (thread_sizes (plan_of text)) (unflagged 1 _ y.1))),
    λ y. rw (unrefused y.0, accepted-plan y.0, le-ltb lent (thread_sizes y.0.plan) y.1),
  )

  -- with rules 1 and 11
  pub pairs-accepted-exactly : (p lent : ℕ) → (pairs_refusal text p lent ≡ none) ↔ ((max_pair_words ≤ lent) × (x : AcceptedText text) × (p < length x.plan.procs))
  unfolding pairs_refusal or_else
  pairs-accepted-exactly p lent =
      let absent = refused_if 11 (leb (length (plan_of text).procs) p) in (
        λ e.
            let y = first-none (refused_if 1 (ltb lent max_pair_words)) (or_else (plan_refusal text) absent) e in
            let z = first-none (plan_refusal text) absent y.1 in
            let x = accepted z.0 in (
              ltb-false lent max_pair_words (unflagged 1 (ltb lent max_pair_words) y.0),
              x,
              subst (λ (q : LockPlan). p < length q.procs) (accepted-plan x) (leb-false (length (plan_of text).procs) p (unflagged 11 _ z.1)),
            ),
        λ y. rw (le-ltb lent max_pair_words y.0, unrefused y.1, accepted-plan y.1, lt-leb (length y.1.plan.procs) p y.2),
      )

  -- with rule 14 behind the plan's
  pub crossings-accepted-exactly : (t u : ℕ)
      → (crossings_refusal text t u ≡ none) ↔ ((x : AcceptedText text) × (t < length x.plan.threads) × (u < length x.plan.threads) × (t ≢ u))
  crossings-accepted-exactly t u =
      let k = crossings-kept text t u in (
        λ e.
            let (a, b, d, two) = k.0 e in
            let x = accepted a in
            let there : (i : ℕ) → i < length (plan_of text).threads → i < length x.plan.threads = λ i h. subst (λ (q : LockPlan). i < length q.threads) (accepted-plan x) h in
            (x, there t b, there u d, two),
        λ y. k.1 (rw (unrefused y.0, accepted-plan y.0) (refl, y.1, y.2, y.3)),
      )
