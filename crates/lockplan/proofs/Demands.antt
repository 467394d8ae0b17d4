-- What a call promises cites the refusals, the plan and the pairs that are computed; crate `demands` shows that these are the first rule broken, the plan that the text is written
-- of and the published critical pairs. The end of a deadlock's schedule is a moment that a run reaches, so free and deadlock exclude each other. Which
-- of the two it is, is computed too: the test over the threads' pair lists fails exactly where no run reaches a stuck set (`plan-characterisation`).
use Prim.Native.Nat.{ℕ, ◌/◌, ◌%◌, ◌<◌, ◌≤◌}
use native.Mathlib.Omega.{arith}
use mathlib.Core.Path.{◌≡◌, refl, sym, ap, ◌∙◌}
use mathlib.Core.List.{List, [], ◌∷◌}
use mathlib.Core.Logic.{◌↔◌, ⊎_elim}
use mathlib.Core.Option.{Option, none, some, none-ne-some, some-injective}
use lib.ListN.{length}
use Rattle.std.proofs.Common.{Result, Ok, Err}
use Rattle.limits.specs.Limits.{max_pair_words}
use Rattle.laws.specs.Ascending.{Ascends}
use Rattle.laws.specs.Mask.{in_mask}
use Rattle.laws.proofs.Tests.{T-dec, T_true, T_false}
use Rattle.text.specs.declared.Refusal.{Refusal}
use Rattle.text.specs.Lines.{refusal}
use Rattle.semantics.specs.Plan.{LockPlan}
use Rattle.semantics.specs.Sizes.{thread_sizes}
use Rattle.semantics.specs.Pairs.{words_of}
use Rattle.semantics.proofs.Ground.Claims.{pair_order}
use Rattle.semantics.proofs.Critical.PairList.{pair_list-ascends}
use Rattle.semantics.proofs.Conflicts.Characterisation.{Ranked, plan-characterisation}
use Rattle.plan.specs.Rules.{plan_of, plan_refusal, verdict_refusal, pairs_refusal, copy_refusal, crossings_refusal}
use Rattle.buffers.specs.LittleEndian.{list_bytes}
use Rattle.demands.specs.Broken.{Rule, FirstBroken, AcceptedText}
use Rattle.demands.proofs.Refusals.{refused-exactly, verdict-refused-exactly, pairs-refused-exactly, copy-refused-exactly, crossings-refused-exactly}
use Rattle.demands.proofs.Accepted.{accepted-plan, plan-ranked, accepted-exactly, verdict-accepted-exactly, pairs-accepted-exactly, copy-accepted-exactly}
use Rattle.demands.proofs.Accepted.{crossings-accepted-exactly, published-exactly}
use Rattle.answers.specs.declared.Verdict.{Verdict}
use Rattle.answers.specs.declared.Verdict.TheVariants.{Free, Deadlock}
use Rattle.answers.specs.Answers.{counted_of, counted_number, read_counted, verdict_number, read_verdict, written}
use Rattle.listing.specs.Listed.{pairs_of, ListedBytes}
use Rattle.copies.specs.Copies.{tidy_of, straight_of, Copied, CopiedNumber}
use Rattle.space.specs.Slip.{needed_entries, Needs, NeedsNumber}
use Rattle.couples.specs.Fitting.{fitting_words, fitting_bytes}
use Rattle.crossing.specs.Crossed.{couples_in, CrossedBytes}
use Rattle.answers.specs.Judgement.{Judgement}
use Rattle.verdict.specs.Judged.{JudgedBytes}
use Rattle.lockplan.specs.VerdictKind.{conflict_in, verdict_kind, computed_kind}
use Rattle.lockplan.specs.Demands.{RefusesExactly, VerdictRefuses, PairsRefuse, CopyRefuses, SpaceRefuses, CrossingsRefuse, Demand1, AscendInTurn, ListsExactly, Demand2, JudgesExactly, Demand3}
use Rattle.answers.proofs.LineBounds.{plan_bounded, pairs_bounded, copy_bounded, crossings_bounded}
use Rattle.answers.proofs.Counts.{counted_is}
use Rattle.answers.proofs.ReadBack.{verdict-read, counted-read}

-- ---- demand 1

-- an answer that is the refusal x exactly when the rules give x
by_refusal : (rules : List Rule) (Kept : Type 0) (Refuses : Refusal → Type 0) (a : Option Refusal) → ((r l : ℕ) → (a ≡ some (refusal r l)) ↔ FirstBroken rules r l)
    → ((a ≡ none) ↔ Kept) → ((x : Refusal) → Refuses x ↔ (a ≡ some x)) → RefusesExactly rules Kept Refuses
by_refusal rules Kept Refuses a first kept is = record {
  first-broken = λ r l. (λ x. (first r l).0 ((is (refusal r l)).0 x), λ y. (is (refusal r l)).1 ((first r l).1 y));
  accepted = (λ h. kept.0 (unrefused a (λ x e. h x ((is x).1 e))), λ k x h. none-ne-some x (sym (kept.1 k) ∙ (is x).0 h));
}
  where
    unrefused : (o : Option Refusal) → ((x : Refusal) → o ≡ some x → ⊥) → o ≡ none
    unrefused none h = refl
    unrefused (some x) h = absurd (h x refl)

-- the verdict's case of a refusal
pub refused-is : (a : Option Refusal) (plan : LockPlan) (v : Result Verdict Refusal) (es : List ℕ) → Judgement a plan v es → (x : Refusal) → (v ≡ Err x) ↔ (a ≡ some x)
unfolding Judgement
refused-is a plan (Ok Free) es j x = (λ e. cc, λ e. absurd (none-ne-some x (sym j.0 ∙ e)))
refused-is a plan (Ok (Deadlock n S)) es j x = (λ e. cc, λ e. absurd (none-ne-some x (sym j.0 ∙ e)))
refused-is a plan (Err y) es j x = (λ e. let i : y ≡ x = cc in j.0 ∙ ap {B = Option Refusal} some i, λ e. ap Err (some-injective y x (sym j.0 ∙ e)))

pub no_schedule : (a : Option Refusal) (plan : LockPlan) (v : Result Verdict Refusal) (es : List ℕ) → Judgement a plan v es → (x : Refusal) → v ≡ Err x → es ≡ []
unfolding Judgement
no_schedule a plan (Ok Free) es j x e = j.1
no_schedule a plan (Ok (Deadlock n S)) es j x e = cc
no_schedule a plan (Err y) es j x e = j.1

verdict-refuses : (text : List ℕ) (lent : ℕ) (v : Result Verdict Refusal) (es before after : List ℕ) → Judgement (verdict_refusal text lent) (plan_of text) v es → (es ≡ [] → after ≡ before)
    → VerdictRefuses text lent v before after
verdict-refuses text lent v es before after j h =
    let a = verdict_refusal text lent in
    record {
      exactly = by_refusal _ _ (λ x. v ≡ Err x) a (λ r l. verdict-refused-exactly text r l lent) (verdict-accepted-exactly text lent) (refused-is a (plan_of text) v es j);
      nothing_written = λ x e. h (no_schedule a (plan_of text) v es j x e);
    }

-- an answer that says how much, or the refusal
counted-refuses : (rules : List Rule) (Kept : Type 0) (a : Option Refusal) (n : ℕ) (r : Result ℕ Refusal) → ((q l : ℕ) → (a ≡ some (refusal q l)) ↔ FirstBroken rules q l)
    → ((a ≡ none) ↔ Kept) → r ≡ counted_of a n → RefusesExactly rules Kept (λ x. r ≡ Err x)
counted-refuses rules Kept a n r first kept e = rw e (by_refusal rules Kept (λ x. counted_of a n ≡ Err x) a first kept (counted_is a n))

-- and what it leaves in the buffer
unwritten : (a : Option Refusal) (n : ℕ) (r : Result ℕ Refusal) (given before after : List ℕ) → r ≡ counted_of a n → after ≡ written a given before
    → (x : Refusal) → r ≡ Err x → after ≡ before
unwritten a n r given before after e b x h = rw ((counted_is a n x).0 (sym e ∙ h)) at b

pairs_refuse : (text : List ℕ) (p lent n : ℕ) (r : Result ℕ Refusal) (given before after : List ℕ) → r ≡ counted_of (pairs_refusal text p lent) n
    → after ≡ written (pairs_refusal text p lent) given before → PairsRefuse text p lent r before after
pairs_refuse text p lent n r given before after e b =
    let a = pairs_refusal text p lent in
    record {
      exactly = counted-refuses _ _ a n r (λ r l. pairs-refused-exactly text r l p lent) (pairs-accepted-exactly text p lent) e;
      nothing_written = unwritten a n r given before after e b;
    }

copy-refuses : (copy text before after : List ℕ) (r : Result ℕ Refusal) → Copied copy text before r after → CopyRefuses text (length before) r before after
copy-refuses copy text before after r d =
    let a = copy_refusal text (length before) in
    let n = length copy in
    record {
      exactly = counted-refuses _ _ a n r (λ r l. copy-refused-exactly text r l (length before)) (copy-accepted-exactly text (length before)) d.answer;
      nothing_written = unwritten a n r copy before after d.answer d.output;
    }

space-refuses : (text : List ℕ) (r : Result ℕ Refusal) → Needs text r → SpaceRefuses text r
unfolding needed_entries
space-refuses text r e = counted-refuses _ _ (plan_refusal text) (thread_sizes (plan_of text)) r (λ r l. refused-exactly text r l) (accepted-exactly text) e

crossings_refuse : (text : List ℕ) (t u n : ℕ) (r : Result ℕ Refusal) (given before after : List ℕ) → r ≡ counted_of (crossings_refusal text t u) n
    → after ≡ written (crossings_refusal text t u) given before → CrossingsRefuse text t u r before after
crossings_refuse text t u n r given before after e b =
    let a = crossings_refusal text t u in
    record {
      exactly = counted-refuses _ _ a n r (λ r l. crossings-refused-exactly text r l t u) (crossings-accepted-exactly text t u) e;
      nothing_written = unwritten a n r given before after e b;
    }

-- the answers that the numbers carry
module _ (text before after : List ℕ) (n : ℕ) where
  pub verdict_carried : (d : JudgedBytes text before n after) → read_verdict n ≡ d.verdict
  verdict_carried d = ap read_verdict d.number ∙ verdict-read text (length before / 2) d.verdict d.schedule d.judged

  pub listing_carried : (p : ℕ) (d : ListedBytes text p before n after) → read_counted n ≡ counted_of (pairs_refusal text p (length before / 8)) (length (pairs_of text p))
  listing_carried p d = ap read_counted d.answer ∙ counted-read (pairs_refusal text p (length before / 8)) (length (pairs_of text p)) (pairs_bounded text p (length before / 8))

  pub crossings_carried : (t u : ℕ) (d : CrossedBytes text t u before n after) → read_counted n ≡ counted_of (crossings_refusal text t u) (length (couples_in text t u))
  crossings_carried t u d = ap read_counted d.answer ∙ counted-read (crossings_refusal text t u) (length (couples_in text t u)) (crossings_bounded text t u)

  pub copied_carried : (copy : List ℕ) (d : CopiedNumber copy text before n after) → read_counted n ≡ d.counted
  copied_carried copy d =
      ap read_counted (d.number ∙ ap counted_number d.copied.answer) ∙ counted-read (copy_refusal text (length before)) (length copy) (copy_bounded text (length before))
      ∙ sym d.copied.answer

pub space_carried : (text : List ℕ) (n : ℕ) → NeedsNumber text n → Needs text (read_counted n)
unfolding needed_entries
space_carried text n e = ap read_counted e ∙ counted-read (plan_refusal text) (thread_sizes (plan_of text)) (plan_bounded text)

number-refuses : (copy text before after : List ℕ) (n : ℕ) → CopiedNumber copy text before n after → CopyRefuses text (length before) (read_counted n) before after
number-refuses copy text before after n d = rw (copied_carried text before after n copy d) (copy-refuses copy text before after d.counted d.copied)

pub demand_1 : (text before after : List ℕ) → Demand1 text before after
unfolding list_bytes
demand_1 text before after = record {
  judge = λ v d. verdict-refuses text (length before) v d.schedule before after d.judged (λ e. d.buffer ∙ rw e);
  lockplan_verdict = λ n d. rw (verdict_carried text before after n d)
      (verdict-refuses text (length before / 2) d.verdict d.schedule before after d.judged (λ e. d.buffer ∙ rw e));
  pair-list = λ p r d. pairs_refuse text p (length before) (length (pairs_of text p)) r (words_of (pairs_of text p)) before after d.answer d.buffer;
  lockplan_pairs = λ p n d. pairs_refuse text p (length before / 8) (length (pairs_of text p)) (read_counted n) (list_bytes 8 (words_of (pairs_of text p))) before after
      (listing_carried text before after n p d) d.buffer;
  tidy = λ r d. copy-refuses (tidy_of text) text before after r d;
  lockplan_tidy = λ n d. number-refuses (tidy_of text) text before after n d;
  straight = λ r d. copy-refuses (straight_of text) text before after r d;
  lockplan_straight = λ n d. number-refuses (straight_of text) text before after n d;
  space = λ r e. space-refuses text r e;
  lockplan_space = λ n e. space-refuses text (read_counted n) (space_carried text n e);
  crossings = λ t u r d. crossings_refuse text t u (length (couples_in text t u)) r (fitting_words (length before) (couples_in text t u)) before after d.answer d.buffer;
  lockplan_crossings = λ t u n d. crossings_refuse text t u (length (couples_in text t u)) (read_counted n) (fitting_bytes (length before) (couples_in text t u)) before after
      (crossings_carried text before after n t u d) d.buffer;
}

-- ---- demand 2

-- the order of the numbers is that of the words
ascend_in_turn : (ws : List ℕ) → Ascends ws → AscendInTurn ws
unfolding Ascends AscendInTurn
ascend_in_turn [] a = tt
ascend_in_turn (v ∷ ws) a = (λ w m. (pair_order v w).0 (a.0 w m), ascend_in_turn ws a.1)

-- the pairs listed of an accepted text
module _ (text : List ℕ) (p lent : ℕ) (x : AcceptedText text) (there : p < length x.plan.procs) (enough : max_pair_words ≤ lent) where
  unrefused : pairs_refusal text p lent ≡ none
  unrefused = (pairs-accepted-exactly text p lent).1 (enough, x, there)

  lists_exactly : (r : Result ℕ Refusal) → r ≡ counted_of (pairs_refusal text p lent) (length (pairs_of text p)) → ListsExactly x.plan.procs p r (pairs_of text p)
  unfolding counted_of
  lists_exactly r e = record {
    number = e ∙ rw unrefused;
    exact = published-exactly text x p there;
    ascending = ascend_in_turn (pairs_of text p) (pair_list-ascends (plan_of text).procs p);
  }

pub demand_2 : (text before after : List ℕ) → Demand2 text before after
demand_2 text before after = record {
  pair-list = λ p r d x h k. (
    pairs_of text p,
    lists_exactly text p (length before) x h k r d.answer,
    rw (unrefused text p (length before) x h k) at d.buffer,
  );
  lockplan_pairs = λ p n d x h k. (
    pairs_of text p,
    lists_exactly text p (length before / 8) x h k (read_counted n) (listing_carried text before after n p d),
    rw (unrefused text p (length before / 8) x h k) at d.buffer,
  );
}

-- ---- demand 3

pub judges_exactly : (plan : LockPlan) (v : Result Verdict Refusal) (es : List ℕ) → Judgement none plan v es → JudgesExactly plan v es
unfolding Judgement
judges_exactly plan (Ok Free) es j = record {
  free = (λ _. j.2, λ _. refl);
  deadlock = (λ d. let e = d.2 in cc, λ s. absurd (j.2 s.entries s.there s.set s.reached s.stuck));
  scheduled = λ n S e. cc;
}
judges_exactly plan (Ok (Deadlock m T)) es j =
    let s = j.2 in
    record {
      free = (λ e. cc, λ f. absurd (f es s.there (in_mask T) s.reached s.largest.stuck));
      deadlock = (λ _. record { entries = es; there = s.there; set = in_mask T; reached = s.reached; stuck = s.largest.stuck }, λ _. (m, T, refl));
      scheduled = λ n S e.
          let a : m ≡ n = cc in
          let b : T ≡ S = cc in
          (j.1 ∙ a, rw b at s);
    }
judges_exactly plan (Err x) es j = absurd (none-ne-some x j.0)

module _ (text : List ℕ) (lent : ℕ) (x : AcceptedText text) (enough : thread_sizes x.plan ≤ lent) where
  judged-exactly : (v : Result Verdict Refusal) (es : List ℕ) → Judgement (verdict_refusal text lent) (plan_of text) v es → JudgesExactly x.plan v es
  judged-exactly v es j = judges_exactly x.plan v es (rw ((verdict-accepted-exactly text lent).1 (x, enough), accepted-plan text x) at j)

-- the kind, where the rules leave a plan with ranks or refuse it: a test over lists holds or fails, and it fails exactly where no run reaches a stuck set
kind_computed : (a : Option Refusal) (plan : LockPlan) → (a ≡ none → Ranked plan) → (v : Result Verdict Refusal) (es : List ℕ) → Judgement a plan v es
    → verdict_kind v ≡ computed_kind a (conflict_in plan)
unfolding Judgement verdict_kind computed_kind conflict_in
kind_computed a plan ranked (Ok Free) es j = rw (j.0, T_false (conflict_in plan) ((plan-characterisation plan (ranked j.0)).free.1 j.2))
kind_computed a plan ranked (Ok (Deadlock n S)) es j =
    let s = j.2 in
    let free = (plan-characterisation plan (ranked j.0)).free in
    ⊎_elim (λ t. rw (j.0, T_true (conflict_in plan) t)) (λ f. absurd (free.0 f es s.there (in_mask S) s.reached s.largest.stuck)) (T-dec (conflict_in plan))
kind_computed a plan ranked (Err x) es j = rw j.0

judged-kind : (text : List ℕ) (lent : ℕ) (v : Result Verdict Refusal) (es : List ℕ) → Judgement (verdict_refusal text lent) (plan_of text) v es
    → verdict_kind v ≡ computed_kind (verdict_refusal text lent) (conflict_in (plan_of text))
judged-kind text lent =
    kind_computed (verdict_refusal text lent) (plan_of text) (λ e. let x = ((verdict-accepted-exactly text lent).0 e).0 in rw (accepted-plan text x) (plan-ranked text x))

-- the lowest byte of a verdict's number is its kind
number-kind : (v : Result Verdict Refusal) → verdict_number v % 256 ≡ verdict_kind v
unfolding verdict_number verdict_kind
number-kind (Ok Free) = refl
number-kind (Ok (Deadlock n S)) = omega arith
number-kind (Err x) = omega arith

pub demand_3 : (text before after : List ℕ) → Demand3 text before after
demand_3 text before after = record {
  judge = λ v d x h. (d.schedule, judged-exactly text (length before) x h v d.schedule d.judged, d.buffer);
  lockplan_verdict = λ n d x h. (
    d.schedule,
    rw (verdict_carried text before after n d) (judged-exactly text (length before / 2) x h d.verdict d.schedule d.judged),
    d.buffer,
  );
  judge_computed = λ v d. judged-kind text (length before) v d.schedule d.judged;
  lockplan_verdict_computed = λ n d.
      ap (λ m. m % 256) d.number ∙ number-kind d.verdict ∙ judged-kind text (length before / 2) d.verdict d.schedule d.judged;
}
