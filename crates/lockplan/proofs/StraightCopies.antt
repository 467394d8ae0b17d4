-- The straightened copy is the text of the straightened plan's forms, which is read as those forms; that plan keeps the rules, has the same pair lists and is free of
-- deadlocks where the original is. So the copy is accepted, the promises that cite pair lists are the same for both, and two verdicts, each exact, are both free or both a
-- deadlock.
use Prim.Native.Nat.{ℕ, ◌<◌, ◌≤◌}
use native.Mathlib.Omega.{arith}
use mathlib.Core.List.{List, flatten}
use mathlib.Core.Logic.Iff
use mathlib.Core.Logic.{◌↔◌, ⊎_elim}
use mathlib.Core.Option.{none}
use mathlib.Core.Path.{◌≡◌, refl, sym, ap, subst, ◌∙◌}
use lib.ListN.{length}
use Rattle.std.proofs.Common.{Result, Ok, Err}
use Rattle.laws.proofs.Tests.{T-dec}
use Rattle.text.specs.declared.Refusal.{Refusal}
use Rattle.text.specs.Lines.{text_of}
use Rattle.semantics.specs.Plan.{LockPlan, body_in, Plain}
use Rattle.semantics.specs.Sizes.{thread_sizes}
use Rattle.semantics.specs.Stuck.{DeadlockFree}
use Rattle.semantics.specs.Pairs.{pair_list}
use Rattle.semantics.specs.Language.{PublishedCritical}
use Rattle.semantics.proofs.Thread.Remainders.{plain_body}
use Rattle.semantics.proofs.Conflicts.Characterisation.{Ranked, plan-characterisation}
use Rattle.plan.specs.Grammar.{forms}
use Rattle.plan.specs.Rules.{plan_refusal, plan_of}
use Rattle.plan.proofs.AcceptedTable.{accepted-ranks}
use Rattle.demands.specs.Broken.{AcceptedText}
use Rattle.demands.proofs.Accepted.{accepted-plan, plan-ranked, accepted-exactly, published-exactly}
use Rattle.straightening.specs.Straight.{straight_plan}
use Rattle.straightening.proofs.Blocks.{straight-length, straight-body, straight_line}
use Rattle.straightening.proofs.Measures.{straight-size, straight-sum}
use Rattle.straightening.proofs.SamePairs.{straight-pair_list, straight-free}
use Rattle.answers.specs.declared.Verdict.{Verdict}
use Rattle.answers.specs.declared.Verdict.TheVariants.{Free, Deadlock}
use Rattle.answers.specs.Answers.{read_verdict}
use Rattle.answers.proofs.Counts.{counted-kept}
use Rattle.listing.specs.Listed.{pairs_of}
use Rattle.space.specs.Slip.{needed_entries, Needs}
use Rattle.bare_text.specs.Bare.{bare_text}
use Rattle.copies.specs.Copies.{tidy_of, straight_of}
use Rattle.copies.proofs.Straight.{straight-short, straight-plan, straight-accepted, straight-again, straight-tidy}
use Rattle.report_text.specs.Report.{Report}
use Rattle.lockplan.specs.VerdictKind.{conflict_in}
use Rattle.lockplan.specs.Demands.{StuckReached, JudgesExactly}
use Rattle.lockplan.specs.StraightCopies.{Straightening, SameVerdict, both-free, both-deadlock, StraightCopy, StraightCopies}
use Rattle.lockplan.proofs.Demands.{copied_carried, space_carried, judges_exactly, demand_3}
use Rattle.lockplan.proofs.SamePromises.{AgreeInPairs, same-pairs, same-pairs-bytes, same-crossings, same-crossings-bytes, same_parts}
use Rattle.lockplan.proofs.WrittenCopies.{written-copy}

-- ---- free or deadlock

not_free : (plan : LockPlan) → StuckReached plan → DeadlockFree plan.procs plan.threads → ⊥
not_free plan s f = f s.entries s.there s.set s.reached s.stuck

-- whether pairs conflict is decided, so a plan that is not free reaches a stuck set
stuck-reached : (plan : LockPlan) → Ranked plan → (DeadlockFree plan.procs plan.threads → ⊥) → StuckReached plan
unfolding conflict_in
stuck-reached plan r h =
    let decides = plan-characterisation plan r in
    ⊎_elim
    (λ t.
    let x = decides.deadlock t in
    let s = x.schedule in
    record { entries = x.entries; there = s.there; set = _; reached = s.reached; stuck = s.largest.stuck })
    (λ f. absurd (h (decides.free.0 f)))
    (T-dec (conflict_in plan))

-- a verdict that is exact is no refusal: it would be neither free nor a deadlock
not-refused : (plan : LockPlan) (x : Refusal) (es : List ℕ) → JudgesExactly plan (Err x) es → ⊥
not-refused plan x es j =
    let free : Err x ≡ Ok Free = j.free.1 (λ entries there set reached stuck.
    unstuck (record { entries = entries; there = there; set = set; reached = reached; stuck = stuck })) in
    let z : ◌≡◌ {A = ℕ} 0 2 = cc in
    omega arith
  where
    unstuck : StuckReached plan → ⊥
    unstuck s =
        let d = j.deadlock.1 s in
        let e : Err x ≡ Ok (Deadlock d.0 d.1) = d.2 in
        let z : ◌≡◌ {A = ℕ} 1 2 = cc in
        omega arith

-- of two plans that are both free or both not
module _ (plan plan' : LockPlan) (r : Ranked plan') (same : DeadlockFree plan.procs plan.threads ↔ DeadlockFree plan'.procs plan'.threads) where
  stuck_too : StuckReached plan → StuckReached plan'
  stuck_too s = stuck-reached plan' r (λ f. not_free plan s (same.1 f))

  -- verdicts, each exact
  same-verdict : (v v' : Result Verdict Refusal) (es es' : List ℕ) → JudgesExactly plan v es → JudgesExactly plan' v' es' → SameVerdict v v'
  same-verdict v v' es es' j j' = go v refl
    where
      go : (u : Result Verdict Refusal) → v ≡ u → SameVerdict v v'
      go (Ok Free) e = both-free e (j'.free.1 (same.0 (j.free.0 e)))
      go (Ok (Deadlock n S)) e = let d = j'.deadlock.1 (stuck_too (j.deadlock.0 (n, S, e))) in both-deadlock n S d.0 d.1 e d.2
      go (Err x) e = absurd (not-refused plan x es (subst (λ u. JudgesExactly plan u es) e j))

-- ---- the copy

module _ (text : List ℕ) (x : AcceptedText text) where
  abbrev copy : List ℕ
  copy = straight_of text

  kept : plan_refusal text ≡ none
  kept = (accepted-exactly text).1 x

  accepted-copy : plan_refusal copy ≡ none
  accepted-copy = straight-accepted text kept

  copy-accepted : AcceptedText copy
  copy-accepted = (accepted-exactly copy).0 accepted-copy

  bare-copy : copy ≡ text_of (forms (straight_plan x.plan))
  unfolding straight_of bare_text
  bare-copy = ap (λ p. text_of (forms (straight_plan p))) (accepted-plan text x)

  same-refusal : plan_refusal text ≡ plan_refusal copy
  same-refusal = kept ∙ sym accepted-copy

  same_lists : (p : ℕ) → pairs_of text p ≡ pairs_of copy p
  unfolding straight_plan
  same_lists p =
      let plain : (q : ℕ) → Plain (body_in (plan_of text).procs q) = λ q. plain_body (accepted-ranks text kept).sound q in
      sym (ap (λ (q : LockPlan). pair_list q.procs p) (straight-plan text kept) ∙ straight-pair_list (plan_of text).procs plain p)

  agrees : AgreeInPairs text copy
  unfolding straight_plan
  agrees = record {
    refused = same-refusal;
    procs = sym (ap (λ (q : LockPlan). length q.procs) (straight-plan text kept) ∙ straight-length (plan_of text).procs);
    threads = sym (ap (λ (q : LockPlan). q.threads) (straight-plan text kept));
    pairs = same_lists;
  }

  -- ---- the plans

  is_straightened : copy-accepted.plan ≡ straight_plan x.plan
  is_straightened = sym (accepted-plan copy copy-accepted) ∙ straight-plan text kept ∙ ap straight_plan (accepted-plan text x)

  as_many : length copy-accepted.plan.procs ≡ length x.plan.procs
  unfolding straight_plan
  as_many = ap (λ (q : LockPlan). length q.procs) is_straightened ∙ straight-length x.plan.procs

  same-published : (p : ℕ) → p < length x.plan.procs → (w : ℕ) → PublishedCritical copy-accepted.plan.procs p w ↔ PublishedCritical x.plan.procs p w
  same-published p h w =
      let there : p < length copy-accepted.plan.procs = omega (arith, as_many) in
      let a = published-exactly text x p h w in
      let b = published-exactly copy copy-accepted p there w in
      (λ k. a.0 (rw (same_lists p) (b.1 k)), λ k. b.0 (rw (← same_lists p) (a.1 k)))

  same-free : DeadlockFree copy-accepted.plan.procs copy-accepted.plan.threads ↔ DeadlockFree x.plan.procs x.plan.threads
  same-free = rw is_straightened (straight-free x.plan (plan-ranked text x))

  same-stuck : StuckReached copy-accepted.plan ↔ StuckReached x.plan
  same-stuck = (
    stuck_too copy-accepted.plan x.plan (plan-ranked text x) same-free,
    stuck_too x.plan copy-accepted.plan (plan-ranked copy copy-accepted) (Iff.symm same-free),
  )

  verdicts : (v v' : Result Verdict Refusal) (es es' : List ℕ) → JudgesExactly x.plan v es → JudgesExactly copy-accepted.plan v' es' → SameVerdict v v'
  verdicts = same-verdict x.plan copy-accepted.plan (plan-ranked copy copy-accepted) (Iff.symm same-free)

  -- the verdict of a report
  reported : (t : List ℕ) (y : AcceptedText t) (bytes : List ℕ) (d : Report t bytes) → JudgesExactly y.plan d.verdict d.schedule
  reported t y bytes d = judges_exactly y.plan d.verdict d.schedule (rw ((accepted-exactly t).1 y, accepted-plan t y) at d.judged)

  straightening : Straightening x.plan copy-accepted.plan
  unfolding straight_plan
  straightening = record {
    is = is_straightened;
    straight_line = λ p. rw (is_straightened, straight-body x.plan.procs p) (straight_line (body_in x.plan.procs p));
    procedures = as_many;
    pairs = same-published;
    free = same-free;
    deadlock = same-stuck;
    sizes = λ p. rw is_straightened (straight-size x.plan.procs p);
    sum = rw is_straightened (straight-sum x.plan);
  }

  -- ---- the space

  no_more-space : thread_sizes (plan_of copy) ≤ thread_sizes (plan_of text)
  no_more-space = rw (straight-plan text kept) (straight-sum (plan_of text))

  needed : (n n' : ℕ) → Needs text (Ok n) → Needs copy (Ok n') → n' ≤ n
  unfolding needed_entries
  needed n n' a b =
      let c = counted-kept (plan_refusal text) (Ok n) (thread_sizes (plan_of text)) n a refl in
      let d = counted-kept (plan_refusal copy) (Ok n') (thread_sizes (plan_of copy)) n' b refl in
      omega (arith, c.1, d.1, no_more-space)

  straight-copy : StraightCopy text x copy
  straight-copy = record {
    bare = bare-copy;
    no_longer = straight-short text kept;
    accepted = copy-accepted;
    plan = straightening;
    pairs = same-pairs text copy agrees;
    lockplan_pairs = same-pairs-bytes text copy agrees;
    crossings = same-crossings text copy agrees;
    lockplan_crossings = same-crossings-bytes text copy agrees;
    verdicts = λ before v after d before' v' after' d' h h'.
        let j = (demand_3 text before after).judge v d x h in
        let j' = (demand_3 copy before' after').judge v' d' copy-accepted h' in
        verdicts v v' j.0 j'.0 j.1 j'.1;
    lockplan_verdicts = λ before n after d before' n' after' d' h h'.
        let j = (demand_3 text before after).lockplan_verdict n d x h in
        let j' = (demand_3 copy before' after').lockplan_verdict n' d' copy-accepted h' in
        verdicts (read_verdict n) (read_verdict n') j.0 j'.0 j.1 j'.1;
    reports = λ bytes bytes' d d'. (
      verdicts d.verdict d'.verdict d.schedule d'.schedule (reported text x bytes d) (reported copy copy-accepted bytes' d'),
      d'.joined ∙ ap flatten (sym (same_parts text copy agrees d'.verdict d'.schedule)),
    );
    spaces = needed;
    lockplan_spaces = λ m m' n n' d d' e e'. needed n n' (sym e ∙ space_carried text m d) (sym e' ∙ space_carried copy m' d');
    unaltered = λ before r after d h. rw (straight-again text kept) at (written-copy (straight_of copy) copy copy-accepted before r after d h);
    tidy = λ before r after d h. rw (straight-tidy text kept) at (written-copy (tidy_of copy) copy copy-accepted before r after d h);
  }

pub straight-copies : (text before after : List ℕ) → StraightCopies text before after
straight-copies text before after = record {
  straight = λ r d x h. let w = written-copy (straight_of text) text x before r after d h in (straight_of text, w.0, w.1, straight-copy text x);
  lockplan_straight = λ n d x h.
      let w = written-copy (straight_of text) text x before d.counted after d.copied h in
      (straight_of text, copied_carried text before after n (straight_of text) d ∙ w.0, w.1, straight-copy text x);
}
