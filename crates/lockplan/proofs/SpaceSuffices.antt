-- The number that the call answers with is the sum of the plan's threads' sizes, with which the verdict's rule 1 compares what is lent; and no schedule is longer. The
-- slip is written of the same plan or of the same refusal.
use Prim.Native.Nat.{ℕ, ◌/◌, ◌<◌, ◌≤◌}
use native.Mathlib.Omega.{arith}
use mathlib.Core.List.{List, [], ◌++◌}
use mathlib.Core.Option.{Option, some, or_else, none-ne-some}
use mathlib.Core.Path.{◌≡◌, refl, sym, ap, subst, ◌∙◌}
use lib.ListN.{length}
use borrow.Author.Tests.{lt-ltb}
use Rattle.std.proofs.Common.{Result, Ok, Err}
use Rattle.text.specs.declared.Refusal.{Refusal}
use Rattle.text.specs.Lines.{refusal}
use Rattle.semantics.specs.Plan.{LockPlan}
use Rattle.semantics.specs.Sizes.{thread_size, thread_sizes}
use Rattle.plan.specs.Rules.{plan_of, plan_refusal, too_few_entries, verdict_refusal}
use Rattle.plan.proofs.AcceptedTable.{accepted-sum}
use Rattle.buffers.specs.LittleEndian.{list_bytes}
use Rattle.demands.specs.Broken.{AcceptedText}
use Rattle.demands.proofs.Accepted.{accepted-plan, accepted-exactly, verdict-accepted-exactly}
use Rattle.answers.specs.declared.Verdict.{Verdict}
use Rattle.answers.specs.declared.Verdict.TheVariants.{Free, Deadlock}
use Rattle.answers.specs.Judgement.{Judgement}
use Rattle.answers.proofs.Counts.{counted-kept, counted_is}
use Rattle.space.specs.Slip.{needed_entries, Needs, size_lines, sum_line, slip_of, printed_slip}
use Rattle.lockplan.specs.SpaceSuffices.{BufferOf, EntriesNeeded, RefusedAlike, SpaceSuffices}
use Rattle.lockplan.proofs.Demands.{refused-is, no_schedule, verdict_carried, space_carried}

-- a deadlock's schedule is no longer than the sum
deadlock-fits : (a : Option Refusal) (plan : LockPlan) (v : Result Verdict Refusal) (es : List ℕ) → Judgement a plan v es → (n S : ℕ) → v ≡ Ok (Deadlock n S) → n ≤ thread_sizes plan
unfolding Judgement
deadlock-fits a plan (Ok Free) es j n S e = cc
deadlock-fits a plan (Ok (Deadlock m T)) es j n S e = let k : m ≡ n = cc in omega (arith, j.1, j.2.short)
deadlock-fits a plan (Err x) es j n S e = cc

module _ (text : List ℕ) (x : AcceptedText text) (lent : ℕ) (v : Result Verdict Refusal) (es before after : List ℕ) (j : Judgement (verdict_refusal text lent) (plan_of text) v es)
    (kept : es ≡ [] → after ≡ before) where
  few : lent < thread_sizes (plan_of text) → verdict_refusal text lent ≡ some (refusal 1 0)
  unfolding verdict_refusal too_few_entries or_else
  few h = rw ((accepted-exactly text).1 x, lt-ltb lent (thread_sizes (plan_of text)) h)

  buffer_of : BufferOf lent (thread_sizes (plan_of text)) v before after
  buffer_of =
      let is = refused-is (verdict_refusal text lent) (plan_of text) v es j in
      record {
        suffices = λ h y e.
            let enough : thread_sizes x.plan ≤ lent = subst (λ (q : LockPlan). thread_sizes q ≤ lent) (accepted-plan text x) h in
            none-ne-some y (sym ((verdict-accepted-exactly text lent).1 (x, enough)) ∙ (is y).0 e);
        fits = deadlock-fits (verdict_refusal text lent) (plan_of text) v es j;
        fewer = λ h. let e = (is (refusal 1 0)).1 (few h) in (e, kept (no_schedule (verdict_refusal text lent) (plan_of text) v es j (refusal 1 0) e));
      }

module _ (text : List ℕ) where
  slip-lines : (x : AcceptedText text) → printed_slip text ≡ size_lines (thread_size x.plan) (length x.plan.threads) ++ sum_line (thread_sizes (plan_of text))
  unfolding printed_slip slip_of
  slip-lines x = rw ((accepted-exactly text).1 x, accepted-plan text x)

  entries-needed : (n : ℕ) → Needs text (Ok n) → EntriesNeeded text n
  unfolding needed_entries list_bytes
  entries-needed n e =
      let k = counted-kept (plan_refusal text) (Ok n) (thread_sizes (plan_of text)) n e refl in
      let x = (accepted-exactly text).0 k.0 in
      rw k.1 (record {
        accepted = x;
        sum = ap thread_sizes (accepted-plan text x);
        most = accepted-sum text k.0;
        judge = λ before v after d. buffer_of text x (length before) v d.schedule before after d.judged (λ z. d.buffer ∙ rw z);
        lockplan_verdict = λ before m after d. rw (verdict_carried text before after m d)
            (buffer_of text x (length before / 2) d.verdict d.schedule before after d.judged (λ z. d.buffer ∙ rw z));
        slip = slip-lines x;
      })

  refused_alike : (x : Refusal) → Needs text (Err x) → RefusedAlike text x
  unfolding needed_entries printed_slip verdict_refusal or_else
  refused_alike x e =
      let r : plan_refusal text ≡ some x = (counted_is (plan_refusal text) (thread_sizes (plan_of text)) x).0 (sym e) in
      let refused : (lent : ℕ) → verdict_refusal text lent ≡ some x = λ lent. rw r in
      record {
        judge = λ before v after d. (refused-is (verdict_refusal text (length before)) (plan_of text) v d.schedule d.judged x).1 (refused (length before));
        lockplan_verdict = λ before m after d. verdict_carried text before after m d
            ∙ (refused-is (verdict_refusal text (length before / 2)) (plan_of text) d.verdict d.schedule d.judged x).1 (refused (length before / 2));
        slip = rw r;
      }

pub space-suffices : (text : List ℕ) → SpaceSuffices text
space-suffices text = record {
  space = entries-needed text;
  lockplan_space = λ m n e g. entries-needed text n (sym g ∙ space_carried text m e);
  space-refused = refused_alike text;
  lockplan_space_refused = λ m x e g. refused_alike text x (sym g ∙ space_carried text m e);
}
