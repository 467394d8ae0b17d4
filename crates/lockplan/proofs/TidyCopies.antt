-- The tidy copy is the text of the plan's forms, which is read as those forms; so the copy is accepted, with the same plan, and the promises of the calls, which cite a text's
-- refusal and its plan alone, are the same for both.
use Prim.Native.Nat.{ℕ}
use mathlib.Core.Bool.{true, false}
use mathlib.Core.List.{List}
use mathlib.Core.Logic.{◌↔◌}
use mathlib.Core.Option.{none}
use mathlib.Core.Path.{◌≡◌, sym, ap, ◌∙◌}
use lib.ListN.{length}
use Rattle.std.proofs.Common.{Result}
use Rattle.text.specs.declared.Refusal.{Refusal}
use Rattle.text.specs.Lines.{text_of}
use Rattle.semantics.specs.Plan.{LockPlan}
use Rattle.semantics.specs.Pairs.{pair_list}
use Rattle.plan.specs.Grammar.{forms}
use Rattle.plan.specs.Rules.{plan_refusal, plan_of, verdict_refusal, copy_refusal, crossings_refusal}
use Rattle.demands.specs.Broken.{AcceptedText}
use Rattle.demands.proofs.Accepted.{accepted-plan, accepted-exactly}
use Rattle.answers.specs.declared.Verdict.{Verdict}
use Rattle.answers.specs.Answers.{counted_number}
use Rattle.verdict.specs.Judged.{Judged, JudgedBytes}
use Rattle.bare_text.specs.Bare.{bare_text}
use Rattle.copies.specs.Copies.{tidy_of, straight_of, Straightened, StraightenedNumber, printed_copy}
use Rattle.space.specs.Slip.{needed_entries, printed_slip}
use Rattle.couple_lines.specs.CoupleLines.{printed_couples}
use Rattle.crossings_text.specs.AllCrossings.{printed_crossings}
use Rattle.report_text.specs.Report.{parts_of, Report}
use Rattle.copies.proofs.Tidy.{tidy-plan, tidy-accepted, tidy-twice, tidy-same}
use Rattle.copies.proofs.Copies.{copy-fits}
use Rattle.lockplan.specs.TidyCopies.{TidyCopy, TidyCopies}
use Rattle.lockplan.proofs.Demands.{copied_carried}
use Rattle.lockplan.proofs.SamePromises.{AgreeInPairs, same-pairs, same-pairs-bytes, same-crossings, same-crossings-bytes}
use Rattle.lockplan.proofs.WrittenCopies.{written-copy, written_is}

-- ---- promises that cite a text by its refusal and its plan

module _ (s t : List ℕ) (refused : plan_refusal s ≡ plan_refusal t) (plans : plan_of s ≡ plan_of t) where
  agree : AgreeInPairs s t
  agree = record {
    refused = refused;
    procs = ap (λ (q : LockPlan). length q.procs) plans;
    threads = ap (λ (q : LockPlan). q.threads) plans;
    pairs = λ p. ap (λ (q : LockPlan). pair_list q.procs p) plans;
  }

  same-verdict : (before : List ℕ) (v : Result Verdict Refusal) (after : List ℕ) → Judged s before v after → Judged t before v after
  unfolding verdict_refusal
  same-verdict before v after d = record { schedule = d.schedule; judged = rw (refused, plans) at d.judged; buffer = d.buffer }

  same-verdict-bytes : (before : List ℕ) (n : ℕ) (after : List ℕ) → JudgedBytes s before n after → JudgedBytes t before n after
  unfolding verdict_refusal
  same-verdict-bytes before n after d =
      record { verdict = d.verdict; schedule = d.schedule; number = d.number; judged = rw (refused, plans) at d.judged; buffer = d.buffer }

  same-straight : (before : List ℕ) (r : Result ℕ Refusal) (after : List ℕ) → Straightened s before r after → Straightened t before r after
  unfolding straight_of copy_refusal
  same-straight before r after d = record { answer = rw (refused, plans) at d.answer; output = rw (refused, plans) at d.output }

  same-straight-number : (before : List ℕ) (n : ℕ) (after : List ℕ) → StraightenedNumber s before n after → StraightenedNumber t before n after
  same-straight-number before n after d = record { counted = d.counted; number = d.number; copied = same-straight before d.counted after d.copied }

  same-report : (bytes : List ℕ) → Report s bytes → Report t bytes
  unfolding parts_of
  same-report bytes d = record { verdict = d.verdict; schedule = d.schedule; judged = rw (refused, plans) at d.judged; joined = rw plans at d.joined }

-- ---- the copy

module _ (text : List ℕ) (x : AcceptedText text) where
  abbrev copy : List ℕ
  copy = tidy_of text

  kept : plan_refusal text ≡ none
  kept = (accepted-exactly text).1 x

  accepted-copy : plan_refusal copy ≡ none
  accepted-copy = tidy-accepted text kept

  copy-accepted : AcceptedText copy
  copy-accepted = (accepted-exactly copy).0 accepted-copy

  bare-copy : copy ≡ text_of (forms x.plan)
  unfolding tidy_of bare_text
  bare-copy = ap (λ p. text_of (forms p)) (accepted-plan text x)

  same-refusal : plan_refusal text ≡ plan_refusal copy
  same-refusal = kept ∙ sym accepted-copy

  same_plans : plan_of text ≡ plan_of copy
  same_plans = sym (tidy-plan text kept)

  agrees : AgreeInPairs text copy
  agrees = agree text copy same-refusal same_plans

  same-needed : needed_entries text ≡ needed_entries copy
  unfolding needed_entries
  same-needed = rw (same-refusal, same_plans)

  same-slip : printed_slip text ≡ printed_slip copy
  unfolding printed_slip
  same-slip = rw (same-refusal, same_plans)

  same-printed-straight : printed_copy true text ≡ printed_copy true copy
  unfolding printed_copy straight_of
  same-printed-straight = rw (same-refusal, same_plans)

  same-printed_couples : (t u : ℕ) → printed_couples text t u ≡ printed_couples copy t u
  unfolding printed_couples crossings_refusal
  same-printed_couples t u = rw (same-refusal, same_plans)

  same-printed_crossings : printed_crossings text ≡ printed_crossings copy
  unfolding printed_crossings
  same-printed_crossings = rw (same-refusal, same_plans)

  equal-copies : (text' : List ℕ) (x' : AcceptedText text') (copy' : List ℕ) → copy' ≡ tidy_of text' → (copy ≡ copy') ↔ (x.plan ≡ x'.plan)
  equal-copies text' x' copy' is =
      let same = tidy-same text text' kept ((accepted-exactly text').1 x') in
      let a = accepted-plan text x in
      let b = accepted-plan text' x' in
      (λ e. sym a ∙ same.0 (e ∙ is) ∙ b, λ e. same.1 (a ∙ e ∙ sym b) ∙ sym is)

  tidy-copy : TidyCopy text x copy
  tidy-copy = record {
    bare = bare-copy;
    fits = copy-fits text kept false;
    accepted = copy-accepted;
    same-plan = sym (accepted-plan copy copy-accepted) ∙ sym same_plans ∙ accepted-plan text x;
    equal = λ text' x' before r after copy' d e f. equal-copies text' x' copy' (written_is (tidy_of text') text' before r after copy' d e f);
    unaltered = λ before r after d h. rw (tidy-twice text kept) at (written-copy (tidy_of copy) copy copy-accepted before r after d h);
    verdicts = λ before v after. (same-verdict text copy same-refusal same_plans before v after, same-verdict copy text (sym same-refusal) (sym same_plans) before v after);
    lockplan_verdicts = λ before n after.
        (same-verdict-bytes text copy same-refusal same_plans before n after, same-verdict-bytes copy text (sym same-refusal) (sym same_plans) before n after);
    pairs = same-pairs text copy agrees;
    lockplan_pairs = same-pairs-bytes text copy agrees;
    reports = λ bytes. (same-report text copy same-refusal same_plans bytes, same-report copy text (sym same-refusal) (sym same_plans) bytes);
    spaces = λ r. (λ e. e ∙ same-needed, λ e. e ∙ sym same-needed);
    lockplan_spaces = λ n. (λ e. e ∙ ap counted_number same-needed, λ e. e ∙ ap counted_number (sym same-needed));
    slips = same-slip;
    straight = λ before r after. (same-straight text copy same-refusal same_plans before r after, same-straight copy text (sym same-refusal) (sym same_plans) before r after);
    lockplan_straight = λ before n after.
        (same-straight-number text copy same-refusal same_plans before n after, same-straight-number copy text (sym same-refusal) (sym same_plans) before n after);
    printed-straight = same-printed-straight;
    crossings = same-crossings text copy agrees;
    lockplan_crossings = same-crossings-bytes text copy agrees;
    printed-couples = same-printed_couples;
    printed-crossings = same-printed_crossings;
  }

pub tidy-copies : (text before after : List ℕ) → TidyCopies text before after
tidy-copies text before after = record {
  tidy = λ r d x h. let w = written-copy (tidy_of text) text x before r after d h in (tidy_of text, w.0, w.1, tidy-copy text x);
  lockplan_tidy = λ n d x h.
      let w = written-copy (tidy_of text) text x before d.counted after d.copied h in
      (tidy_of text, copied_carried text before after n (tidy_of text) d ∙ w.0, w.1, tidy-copy text x);
}
