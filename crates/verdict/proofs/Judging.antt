-- The verdict from the plan's rules, rule 1 and the finding over the plan's table, for entries and for bytes. A buffer of bytes has its whole entries, of which no schedule needs
-- more than MAX_ENTRIES (`same-lent`).
use Prim.Native.Nat.{ℕ, ◌*◌, ◌/◌, ◌^◌, ◌<◌, ◌≤◌, min}
use native.Mathlib.Omega.{arith}
use mathlib.Core.Path.{◌≡◌, refl, sym, ap, ◌∙◌}
use mathlib.Core.List.{List, []}
use mathlib.Core.Logic.{⊎_elim}
use mathlib.Core.Option.{Option, none, some, or_else}
use lib.ListN.{length, take, length-take, length-append}
use borrow.Author.Tests.{lt-ltb, le-ltb}
use Rattle.std.proofs.Common.{Result, Ok, Err}
use Rattle.limits.specs.Limits.{max_entries}
use Rattle.laws.specs.Wrote.{Wrote}
use Rattle.laws.proofs.Tests.{lt_or_le}
use Rattle.laws.proofs.Wrote.{wrote-filled}
use Rattle.text.specs.Lines.{refusal}
use Rattle.text.specs.declared.Refusal.{Refusal}
use Rattle.semantics.specs.Plan.{LockPlan}
use Rattle.semantics.specs.Sizes.{thread_sizes}
use Rattle.plan.specs.Settled.{table_plan}
use Rattle.plan.specs.Rules.{plan_of, plan_refusal, too_few_entries, verdict_refusal}
use Rattle.plan.proofs.AcceptedTable.{accepted-sum}
use Rattle.checked.specs.declared.CheckedText.{CheckedText}
use Rattle.checked.specs.Checks.{AcceptedText}
use Rattle.buffers.specs.LittleEndian.{list_bytes}
use Rattle.deadlock.specs.Findings.{TableJudged}
use Rattle.answers.specs.declared.Verdict.{Verdict}
use Rattle.answers.specs.declared.Verdict.TheVariants.{Free, Deadlock}
use Rattle.answers.specs.Answers.{verdict_number, verdict_high}
use Rattle.answers.specs.Judgement.{Judgement, schedule_length, schedule_in}
use Rattle.answers.proofs.LineBounds.{verdict_bounded}
use Rattle.answers.proofs.Schedules.{as-long, start-taken}
use Rattle.verdict.specs.Judged.{LentJudged, Judged, JudgedBytes}

-- ---- rule 1

module _ (ws before : List ℕ) where
  pub lent-short : (sum : ℕ) → sum ≡ thread_sizes (table_plan ws) → length before < sum → LentJudged ws before (Err (refusal 1 0)) before
  unfolding Judgement too_few_entries
  lent-short sum e h = record { schedule = []; judged = rw (lt-ltb (length before) (thread_sizes (table_plan ws)) (omega arith)) (refl, refl); buffer = refl }

  pub lent-enough : (sum : ℕ) (v : Verdict) (after : List ℕ) → sum ≡ thread_sizes (table_plan ws) → sum ≤ length before → TableJudged ws before v after → LentJudged ws before (Ok v) after
  unfolding too_few_entries
  lent-enough sum v after e h d =
      record { schedule = d.schedule; judged = rw (le-ltb (length before) (thread_sizes (table_plan ws)) (omega arith)) d.judged; buffer = d.buffer }

-- ---- entries

pub judged-refused : (text before : List ℕ) (r : Result Verdict Refusal) (x : Refusal) → r ≡ Err x → plan_refusal text ≡ some x → Judged text before r before
unfolding Judgement verdict_refusal or_else
judged-refused text before r x k e = rw k (record { schedule = []; judged = (rw e, refl); buffer = refl })

module _ (text table : List ℕ) (plan : CheckedText) (a : AcceptedText text plan table) where
  pub table-sum : plan.space.sum ≡ thread_sizes (table_plan (take plan.forms table))
  table-sum = a.space.sum ∙ ap thread_sizes (sym a.plan)

  pub judged-found : (before after : List ℕ) (r : Result Verdict Refusal) → LentJudged (take plan.forms table) before r after → Judged text before r after
  unfolding verdict_refusal or_else
  judged-found before after r d = record { schedule = d.schedule; judged = rw (a.kept, ← a.plan) d.judged; buffer = d.buffer }

-- ---- bytes

small : (text : List ℕ) (lent : ℕ) (v : Result Verdict Refusal) (es : List ℕ) → Judgement (verdict_refusal text lent) (plan_of text) v es → length es ≤ max_entries → verdict_high v < 2 ^ 40
unfolding Judgement verdict_high
small text lent (Ok Free) es j h = omega arith
small text lent (Ok (Deadlock n S)) es j h = omega (arith, j.1)
small text lent (Err x) es j h = (verdict_bounded text lent x j.0).line

-- only a deadlock has a schedule
no_schedule : (refused : Option Refusal) (plan : LockPlan) (v : Result Verdict Refusal) (es : List ℕ) → Judgement refused plan v es → ((n S : ℕ) → v ≡ Ok (Deadlock n S) → ⊥) → es ≡ []
unfolding Judgement
no_schedule refused plan (Ok Free) es j h = j.1
no_schedule refused plan (Ok (Deadlock n S)) es j h = absurd (h n S refl)
no_schedule refused plan (Err x) es j h = j.1

-- more than MAX_ENTRIES are never needed
lent_by : (plan : LockPlan) (lent : ℕ) → thread_sizes plan ≤ max_entries → too_few_entries plan (min lent max_entries) ≡ too_few_entries plan lent
unfolding too_few_entries
lent_by plan lent h =
    let n = thread_sizes plan in
    ⊎_elim
    (λ (k : lent < n). rw (lt-ltb lent n k, lt-ltb (min lent max_entries) n (omega arith)))
    (λ (k : n ≤ lent). rw (le-ltb lent n k, le-ltb (min lent max_entries) n (omega arith)))
    (lt_or_le lent n)

same-lent : (text : List ℕ) (lent : ℕ) → verdict_refusal text (min lent max_entries) ≡ verdict_refusal text lent
unfolding verdict_refusal or_else
same-lent text lent = go (plan_refusal text) refl
  where
    go : (o : Option Refusal) → plan_refusal text ≡ o → or_else o (too_few_entries (plan_of text) (min lent max_entries)) ≡ or_else o (too_few_entries (plan_of text) lent)
    go none e = lent_by (plan_of text) lent (accepted-sum text e)
    go (some x) e = refl

module _ (text before entries entries' : List ℕ) (r : Result Verdict Refusal) (d : Judged text entries r entries') (l : length entries ≡ min (length before / 2) max_entries) where
  schedule-short : length entries' ≡ length entries → length d.schedule ≤ length entries'
  schedule-short k = rw (d.buffer, length-append) (omega arith)

  pub verdict-small : length entries' ≡ length entries → verdict_high r < 2 ^ 40
  verdict-small k = small text (length entries) r d.schedule d.judged (omega (arith, schedule-short k))

  -- what the rules say by the entries, they say by the bytes
  judged-lent : Judgement (verdict_refusal text (length before / 2)) (plan_of text) r d.schedule
  judged-lent = rw (ap (verdict_refusal text) l ∙ same-lent text (length before / 2)) at d.judged

  pub bytes-kept : (v : ℕ) → ((n S : ℕ) → r ≡ Ok (Deadlock n S) → ⊥) → v ≡ verdict_number r → JudgedBytes text before v before
  unfolding list_bytes
  bytes-kept v o k = record {
    verdict = r;
    schedule = d.schedule;
    number = k;
    judged = judged-lent;
    buffer = rw (no_schedule _ _ r d.schedule d.judged o);
  }

  -- the schedule's part of the entries
  module _ (n : ℕ) (g : n ≡ schedule_length r) where
    listed : take n entries' ≡ d.schedule
    unfolding schedule_in
    listed = rw (g, d.buffer) (start-taken _ _ r d.schedule entries d.judged)

    pub schedule-within : length entries' ≡ length entries → n ≤ length entries'
    schedule-within k = omega (arith, g, as-long _ _ r d.schedule d.judged, schedule-short k)

    pub schedule-room : length entries' ≡ length entries → length (take n entries') * 2 ≤ length before
    schedule-room k = rw length-take (omega arith)

    pub bytes-scheduled : (v : ℕ) (after : List ℕ) → v ≡ verdict_number r → Wrote before after 0 (length (take n entries') * 2) (list_bytes 2 (take n entries'))
        → JudgedBytes text before v after
    bytes-scheduled v after k e = record {
      verdict = r;
      schedule = d.schedule;
      number = k;
      judged = judged-lent;
      buffer = rw listed at (wrote-filled before after 0 _ _ e refl);
    }
