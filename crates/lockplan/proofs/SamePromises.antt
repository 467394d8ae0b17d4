-- The promises of the pair list and of the crossings, and the parts of a report, cite a text by its refusal, how many procedures it has, its threads and its pair lists: two texts that
-- agree in these have the same. That a list is exact is so of every text (`exact_pairs`, `exact-couples`).
use Prim.Native.Nat.{ℕ, zero, suc, ◌/◌}
use mathlib.Core.List.{List, ◌∷◌}
use mathlib.Core.Logic.{◌↔◌}
use mathlib.Core.Path.{◌≡◌, refl, sym, ap, ap₂}
use lib.ListN.{length}
use Rattle.std.proofs.Common.{Result, Ok, Err}
use Rattle.text.specs.declared.Refusal.{Refusal}
use Rattle.semantics.specs.Plan.{Block, LockPlan}
use Rattle.semantics.specs.Pairs.{pair_list}
use Rattle.plan.specs.Rules.{plan_refusal, plan_of, pairs_refusal, crossings_refusal}
use Rattle.answers.specs.declared.Verdict.{Verdict}
use Rattle.answers.specs.declared.Verdict.TheVariants.{Free, Deadlock}
use Rattle.listing.specs.Listed.{pairs_of, Listed, ListedBytes}
use Rattle.listing.proofs.ListedPairs.{exact_pairs}
use Rattle.couples.specs.Couples.{couples_of, couples}
use Rattle.crossing.specs.Crossed.{couples_in, Crossed, CrossedBytes}
use Rattle.crossing.proofs.ThreadCouples.{exact-couples}
use Rattle.report_lines.specs.Lines.{report_open, proc_lines}
use Rattle.report_text.specs.Report.{procedures, proc_parts, parts_of}

-- what two texts agree in
pub record AgreeInPairs (s t : List ℕ) : Type 0 where
  pub refused : plan_refusal s ≡ plan_refusal t
  pub procs : length (plan_of s).procs ≡ length (plan_of t).procs
  pub threads : (plan_of s).threads ≡ (plan_of t).threads
  pub pairs : (p : ℕ) → pairs_of s p ≡ pairs_of t p

agree-sym : (s t : List ℕ) → AgreeInPairs s t → AgreeInPairs t s
agree-sym s t a = record { refused = sym a.refused; procs = sym a.procs; threads = sym a.threads; pairs = λ p. sym (a.pairs p) }

-- ---- one way

module _ (s t : List ℕ) (a : AgreeInPairs s t) where
  same-refused : (p lent : ℕ) → pairs_refusal s p lent ≡ pairs_refusal t p lent
  unfolding pairs_refusal
  same-refused p lent = rw (a.refused, a.procs)

  listed_too : (p : ℕ) (before : List ℕ) (r : Result ℕ Refusal) (after : List ℕ) → Listed s p before r after → Listed t p before r after
  listed_too p before r after d = record {
    answer = rw (same-refused p (length before), a.pairs p) at d.answer;
    buffer = rw (same-refused p (length before), a.pairs p) at d.buffer;
    exact = exact_pairs t p (length before);
  }

  listed_bytes_too : (p : ℕ) (before : List ℕ) (n : ℕ) (after : List ℕ) → ListedBytes s p before n after → ListedBytes t p before n after
  listed_bytes_too p before n after d = record {
    answer = rw (same-refused p (length before / 8), a.pairs p) at d.answer;
    buffer = rw (same-refused p (length before / 8), a.pairs p) at d.buffer;
    exact = exact_pairs t p (length before / 8);
  }

  same-two : (i j : ℕ) → crossings_refusal s i j ≡ crossings_refusal t i j
  unfolding crossings_refusal
  same-two i j = rw (a.refused, a.threads)

  same-couples : (i j : ℕ) → couples_in s i j ≡ couples_in t i j
  unfolding couples
  same-couples i j = rw a.threads (ap₂ couples_of (a.pairs _) (a.pairs _))

  crossed_too : (i j : ℕ) (before : List ℕ) (r : Result ℕ Refusal) (after : List ℕ) → Crossed s i j before r after → Crossed t i j before r after
  crossed_too i j before r after d = record {
    answer = rw (same-two i j, same-couples i j) at d.answer;
    buffer = rw (same-two i j, same-couples i j) at d.buffer;
    exact = exact-couples t i j;
  }

  crossed_bytes_too : (i j : ℕ) (before : List ℕ) (n : ℕ) (after : List ℕ) → CrossedBytes s i j before n after → CrossedBytes t i j before n after
  crossed_bytes_too i j before n after d = record {
    answer = rw (same-two i j, same-couples i j) at d.answer;
    buffer = rw (same-two i j, same-couples i j) at d.buffer;
    exact = exact-couples t i j;
  }

-- ---- both ways

module _ (s t : List ℕ) (a : AgreeInPairs s t) where
  pub same-pairs : (p : ℕ) (before : List ℕ) (r : Result ℕ Refusal) (after : List ℕ) → Listed s p before r after ↔ Listed t p before r after
  same-pairs p before r after = (listed_too s t a p before r after, listed_too t s (agree-sym s t a) p before r after)

  pub same-pairs-bytes : (p : ℕ) (before : List ℕ) (n : ℕ) (after : List ℕ) → ListedBytes s p before n after ↔ ListedBytes t p before n after
  same-pairs-bytes p before n after = (listed_bytes_too s t a p before n after, listed_bytes_too t s (agree-sym s t a) p before n after)

  pub same-crossings : (i j : ℕ) (before : List ℕ) (r : Result ℕ Refusal) (after : List ℕ) → Crossed s i j before r after ↔ Crossed t i j before r after
  same-crossings i j before r after = (crossed_too s t a i j before r after, crossed_too t s (agree-sym s t a) i j before r after)

  pub same-crossings-bytes : (i j : ℕ) (before : List ℕ) (n : ℕ) (after : List ℕ) → CrossedBytes s i j before n after ↔ CrossedBytes t i j before n after
  same-crossings-bytes i j before n after = (crossed_bytes_too s t a i j before n after, crossed_bytes_too t s (agree-sym s t a) i j before n after)

-- ---- the parts of a report

-- those of the procedures are of their pair lists
same-proc_parts : (ps qs : List Block) → ((p : ℕ) → pair_list ps p ≡ pair_list qs p) → (n p : ℕ) (rest : List (List ℕ)) → proc_parts ps p n rest ≡ proc_parts qs p n rest
unfolding proc_parts
same-proc_parts ps qs same zero p rest = refl
same-proc_parts ps qs same (suc n) p rest = ap₂ ◌∷◌ (ap (proc_lines p) (same p)) (same-proc_parts ps qs same n (suc p) rest)

-- of as many
same-procedures : (v : Result Verdict Refusal) (plan plan' : LockPlan) → length plan.procs ≡ length plan'.procs → procedures v plan ≡ procedures v plan'
unfolding procedures
same-procedures (Ok Free) plan plan' e = e
same-procedures (Ok (Deadlock n S)) plan plan' e = e
same-procedures (Err x) plan plan' e = refl

pub same_parts : (s t : List ℕ) → AgreeInPairs s t → (v : Result Verdict Refusal) (schedule : List ℕ) → parts_of s v schedule ≡ parts_of t v schedule
unfolding parts_of
same_parts s t a v schedule = rw (same-procedures v (plan_of s) (plan_of t) a.procs) (ap (◌∷◌ report_open) (same-proc_parts (plan_of s).procs (plan_of t).procs a.pairs _ 0 _))
