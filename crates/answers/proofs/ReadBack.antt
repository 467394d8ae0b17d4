-- The 64-bit answer can be read back: `read_verdict` and `read_counted` give the answer of its number, for every answer that a call can give. Kind and part a are below 256: a rule
-- is, and a stuck set has no members but the plan's threads, of which there are six at most.
use Prim.Native.Nat.{ℕ, ◌/◌, ◌%◌, ◌<◌, ◌≤◌}
use native.Mathlib.Omega.{arith}
use mathlib.Core.Path.{◌≡◌, refl, sym, ap, ◌∙◌}
use mathlib.Core.List.{List}
use mathlib.Core.Option.{Option, none, some}
use lib.Dec.{T}
use lib.ListN.{length}
use Rattle.std.proofs.Common.{Result, Ok, Err}
use Rattle.limits.specs.Limits.{max_threads}
use Rattle.laws.specs.Mask.{in_mask}
use Rattle.laws.proofs.Masks.{mask_below}
use Rattle.laws.proofs.Tests.{first-none}
use Rattle.semantics.specs.Plan.{LockPlan}
use Rattle.semantics.specs.Run.{start}
use Rattle.semantics.specs.Stuck.{Schedule}
use Rattle.semantics.proofs.Gateway.Steps.{thread_at-some}
use Rattle.semantics.proofs.Gateway.Invariant.{run_length, start-length}
use Rattle.text.specs.declared.Refusal.{Refusal}
use Rattle.plan.specs.Rules.{plan_refusal, plan_of, too_few_entries, verdict_refusal}
use Rattle.plan.proofs.AcceptedTable.{accepted-settled}
use Rattle.answers.specs.declared.Verdict.{Verdict}
use Rattle.answers.specs.declared.Verdict.TheVariants.{Free, Deadlock}
use Rattle.answers.specs.Answers.{answer_number, counted_of, counted_number, read_counted, verdict_number, read_verdict}
use Rattle.answers.specs.Judgement.{Judgement}
use Rattle.answers.proofs.LineBounds.{Numbers, verdict_bounded}

-- ---- a stuck set

schedule-below : (plan : LockPlan) (es : List ℕ) (S : ℕ) → length plan.threads ≤ max_threads → Schedule plan es (in_mask S) → S < 256
schedule-below plan es S few s =
    let present : length s.there ≡ length plan.threads =
    run_length plan.procs (start plan.procs plan.threads) s.there es s.reached ∙ start-length plan.procs plan.threads in
    let member : (t : ℕ) → T (in_mask S t) → t < max_threads = λ t m. let a = s.largest.stuck.able t m in omega (arith, present, (thread_at-some s.there t a.1 a.3).0) in
    omega (arith, mask_below S max_threads member)

few-threads : (text : List ℕ) (lent : ℕ) → verdict_refusal text lent ≡ none → length (plan_of text).threads ≤ max_threads
unfolding verdict_refusal
few-threads text lent e = (accepted-settled text (first-none (plan_refusal text) (too_few_entries (plan_of text) lent) e).0).few-threads

-- ---- the digits of an answer

module _ (kind a b : ℕ) (h : kind < 256) (k : a < 256) where
  pub kind-read : answer_number kind a b % 256 ≡ kind
  kind-read = omega arith

  pub low_read : answer_number kind a b / 256 % 256 ≡ a
  low_read = omega arith

  pub high_read : answer_number kind a b / 65536 ≡ b
  high_read = omega arith

-- the verdict, by what holds of it
pub verdict-read : (text : List ℕ) (lent : ℕ) (v : Result Verdict Refusal) (es : List ℕ) → Judgement (verdict_refusal text lent) (plan_of text) v es → read_verdict (verdict_number v) ≡ v
unfolding Judgement verdict_number read_verdict
verdict-read text lent (Ok Free) es j = refl
verdict-read text lent (Ok (Deadlock n S)) es j =
    let small = schedule-below (plan_of text) es S (few-threads text lent j.0) j.2 in
    rw (kind-read 1 S n (omega arith) small, low_read 1 S n (omega arith) small, high_read 1 S n (omega arith) small)
verdict-read text lent (Err x) es j =
    let small = (verdict_bounded text lent x j.0).rule in
    rw (kind-read 2 x.rule x.line (omega arith) small, low_read 2 x.rule x.line (omega arith) small, high_read 2 x.rule x.line (omega arith) small)

-- equal numbers, equal verdicts, whatever the texts and the buffers
pub verdicts-equal : (text text' : List ℕ) (lent lent' : ℕ) (v w : Result Verdict Refusal) (es es' : List ℕ) → Judgement (verdict_refusal text lent) (plan_of text) v es
    → Judgement (verdict_refusal text' lent') (plan_of text') w es' → verdict_number v ≡ verdict_number w → v ≡ w
verdicts-equal text text' lent lent' v w es es' j k h = sym (verdict-read text lent v es j) ∙ ap read_verdict h ∙ verdict-read text' lent' w es' k

-- how much
count-read : (n : ℕ) → read_counted (counted_number (Ok n)) ≡ Ok n
unfolding counted_number read_counted
count-read n = rw (kind-read 0 0 n (omega arith) (omega arith), high_read 0 0 n (omega arith) (omega arith))

refused-read : (x : Refusal) → x.rule < 256 → read_counted (counted_number (Err x)) ≡ Err x
unfolding counted_number read_counted
refused-read x h =
    rw (kind-read 2 x.rule x.line (omega arith) h, low_read 2 x.rule x.line (omega arith) h, high_read 2 x.rule x.line (omega arith) h)

-- whatever the rules, if they have small numbers
pub counted-read : (a : Option Refusal) (n : ℕ) → ((w : Refusal) → a ≡ some w → Numbers w) → read_counted (counted_number (counted_of a n)) ≡ counted_of a n
unfolding counted_of
counted-read none n b = count-read n
counted-read (some w) n b = refused-read w (b w refl).rule

pub counts-equal : (a a' : Option Refusal) (n n' : ℕ) → ((w : Refusal) → a ≡ some w → Numbers w) → ((w : Refusal) → a' ≡ some w → Numbers w)
    → counted_number (counted_of a n) ≡ counted_number (counted_of a' n') → counted_of a n ≡ counted_of a' n'
counts-equal a a' n n' b b' h = sym (counted-read a n b) ∙ ap read_counted h ∙ counted-read a' n' b'
