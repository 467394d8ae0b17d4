-- The three demands, of a call's answer and of what it leaves in the lent buffer: said of the text, of its plan, and of all runs of the plan's gateway. Each is a
-- theorem, `demand_1`, `demand_2` and `demand_3`, about whatever the promises of the calls let them answer; of a call for C it is about the answer that its number carries.
use Rattle.std.specs.Prelude.{ℕ, ◌/◌, ◌%◌, ◌<◌, ◌≤◌, Bool, ◌≢◌, ◌⊎◌, ◌↔◌, ◌≡◌, length, Result, Ok, Err}
use mathlib.Core.List.{List, [], ◌∷◌, Memᴰ}
use Rattle.std.proofs.Math.Option.{some}
use Rattle.limits.specs.Limits.{max_bytes, max_pair_words}
use Rattle.laws.specs.Mask.{in_mask}
use Rattle.text.specs.declared.Refusal.{Refusal}
use Rattle.text.specs.Lines.{refusal}
use Rattle.semantics.specs.Plan.{Block, LockPlan}
use Rattle.semantics.specs.Sizes.{thread_sizes}
use Rattle.semantics.specs.Run.{ThreadState, run, start}
use Rattle.semantics.specs.Stuck.{Stuck, DeadlockFree, Schedule}
use Rattle.semantics.specs.Pairs.{held_word, shared_word, wanted_word, words_of}
use Rattle.semantics.specs.Language.{PublishedCritical}
use Rattle.plan.specs.Rules.{plan_of, verdict_refusal}
use Rattle.buffers.specs.LittleEndian.{list_bytes}
use Rattle.demands.specs.Broken.{Rule, FirstBroken, plan_rules, verdict_rules, pairs_rules, copy_rules, crossings_rules, AcceptedText}
use Rattle.answers.specs.declared.Verdict.{Verdict}
use Rattle.answers.specs.declared.Verdict.TheVariants.{Free, Deadlock}
use Rattle.laws.specs.Wrote.{filled}
use Rattle.answers.specs.Answers.{read_counted, read_verdict}
use Rattle.listing.specs.Listed.{Listed, ListedBytes}
use Rattle.verdict.specs.Judged.{Judged, JudgedBytes}
use Rattle.copies.specs.Copies.{Tidied, TidiedNumber, Straightened, StraightenedNumber}
use Rattle.space.specs.Slip.{Needs, NeedsNumber}
use Rattle.crossing.specs.Crossed.{Crossed, CrossedBytes}
use Rattle.lockplan.specs.VerdictKind.{conflict_in, verdict_kind, computed_kind}

-- the answer is a refusal exactly by the first rule broken, in checking order, and by its line; it is none exactly where the rules are kept. `Refuses x` says that the answer
-- is the refusal x, `Kept` that the rules are kept
pub record RefusesExactly (rules : List Rule) (Kept : Type 0) (Refuses : Refusal → Type 0) : Type 0 where
  pub first-broken : (r l : ℕ) → Refuses (refusal r l) ↔ FirstBroken rules r l
  pub accepted : ((x : Refusal) → Refuses x → ⊥) ↔ Kept

-- the same of a call that is lent a buffer: a refusal writes nothing into it
pub record RefusesUnwritten (rules : List Rule) (Kept : Type 0) (Refuses : Refusal → Type 0) (before after : List ℕ) : Type 0 where
  pub exactly : RefusesExactly rules Kept Refuses
  pub nothing_written : (x : Refusal) → Refuses x → after ≡ before

-- of the verdict, where so many entries are lent
abbrev pub VerdictRefuses : List ℕ → ℕ → Result Verdict Refusal → List ℕ → List ℕ → Type 0
VerdictRefuses text lent v before after =
    RefusesUnwritten (verdict_rules text lent) ((x : AcceptedText text) × (thread_sizes x.plan ≤ lent)) (λ x. v ≡ Err x) before after

-- of the pair list of procedure p, where so many words are lent
abbrev pub PairsRefuse : List ℕ → ℕ → ℕ → Result ℕ Refusal → List ℕ → List ℕ → Type 0
PairsRefuse text p lent r before after =
    RefusesUnwritten (pairs_rules text p lent) ((max_pair_words ≤ lent) × (x : AcceptedText text) × (p < length x.plan.procs)) (λ x. r ≡ Err x) before after

-- of a copy, tidy or straightened, where so many bytes are lent
abbrev pub CopyRefuses : List ℕ → ℕ → Result ℕ Refusal → List ℕ → List ℕ → Type 0
CopyRefuses text lent r before after = RefusesUnwritten (copy_rules text lent) ((max_bytes ≤ lent) × AcceptedText text) (λ x. r ≡ Err x) before after

-- of the crossings of the threads t and u, where a buffer of any length is lent
abbrev pub CrossingsRefuse : List ℕ → ℕ → ℕ → Result ℕ Refusal → List ℕ → List ℕ → Type 0
CrossingsRefuse text t u r before after =
    RefusesUnwritten (crossings_rules text t u) ((x : AcceptedText text) × (t < length x.plan.threads) × (u < length x.plan.threads) × (t ≢ u))
    (λ x. r ≡ Err x) before after

-- of the space that a schedule needs, for which no buffer is lent
abbrev pub SpaceRefuses : List ℕ → Result ℕ Refusal → Type 0
SpaceRefuses text r = RefusesExactly (plan_rules text) (AcceptedText text) (λ x. r ≡ Err x)

-- Demand 1: each text that keeps the rules is accepted, and each other is refused with the number of the first rule broken and its line, and nothing is written.
pub record Demand1 (text before after : List ℕ) : Type 0 where
  pub judge : (v : Result Verdict Refusal) → Judged text before v after → VerdictRefuses text (length before) v before after
  pub lockplan_verdict : (n : ℕ) → JudgedBytes text before n after → VerdictRefuses text (length before / 2) (read_verdict n) before after
  pub pair-list : (p : ℕ) (r : Result ℕ Refusal) → Listed text p before r after → PairsRefuse text p (length before) r before after
  pub lockplan_pairs : (p n : ℕ) → ListedBytes text p before n after → PairsRefuse text p (length before / 8) (read_counted n) before after
  pub tidy : (r : Result ℕ Refusal) → Tidied text before r after → CopyRefuses text (length before) r before after
  pub lockplan_tidy : (n : ℕ) → TidiedNumber text before n after → CopyRefuses text (length before) (read_counted n) before after
  pub straight : (r : Result ℕ Refusal) → Straightened text before r after → CopyRefuses text (length before) r before after
  pub lockplan_straight : (n : ℕ) → StraightenedNumber text before n after → CopyRefuses text (length before) (read_counted n) before after
  pub space : (r : Result ℕ Refusal) → Needs text r → SpaceRefuses text r
  pub lockplan_space : (n : ℕ) → NeedsNumber text n → SpaceRefuses text (read_counted n)
  pub crossings : (t u : ℕ) (r : Result ℕ Refusal) → Crossed text t u before r after → CrossingsRefuse text t u r before after
  pub lockplan_crossings : (t u n : ℕ) → CrossedBytes text t u before n after → CrossingsRefuse text t u (read_counted n) before after

-- 02, change 9: "three 64-bit words: held set, shared set, wanted lock times 2 plus 1 for a hold. Order is by these words in turn."
abbrev pub BeforeInTurn : ℕ → ℕ → Type 0
BeforeInTurn v w =
    (held_word v < held_word w) ⊎ ((held_word v ≡ held_word w) × ((shared_word v < shared_word w) ⊎ ((shared_word v ≡ shared_word w) × (wanted_word v < wanted_word w))))

-- each pair is before all that follow it
unfoldable pub AscendInTurn : List ℕ → Type 0
AscendInTurn [] = Unit {0}
AscendInTurn (v ∷ ws) = ((w : ℕ) → Memᴰ w ws → BeforeInTurn v w) × AscendInTurn ws

-- so many pairs are listed, ascending without repeats, and a pair is listed exactly when it is a critical pair of procedure p by source 000's Definition 4.1
pub record ListsExactly (ps : List Block) (p : ℕ) (r : Result ℕ Refusal) (pairs : List ℕ) : Type 0 where
  pub number : r ≡ Ok (length pairs)
  pub exact : (w : ℕ) → Memᴰ w pairs ↔ PublishedCritical ps p w
  pub ascending : AscendInTurn pairs

-- Demand 2: for each procedure of an accepted text the listed pairs are exactly its critical pairs, none missing and none added; they fill the buffer's start, three words each.
pub record Demand2 (text before after : List ℕ) : Type 0 where
  pub pair-list : (p : ℕ) (r : Result ℕ Refusal) → Listed text p before r after → (x : AcceptedText text) → p < length x.plan.procs → max_pair_words ≤ length before
      → (pairs : List ℕ) × ListsExactly x.plan.procs p r pairs × (after ≡ filled (words_of pairs) before)
  pub lockplan_pairs : (p n : ℕ) → ListedBytes text p before n after → (x : AcceptedText text) → p < length x.plan.procs → max_pair_words ≤ length before / 8
      → (pairs : List ℕ) × ListsExactly x.plan.procs p (read_counted n) pairs × (after ≡ filled (list_bytes 8 (words_of pairs)) before)

-- some run of the plan's gateway reaches a stuck set
pub record StuckReached (plan : LockPlan) : Type 0 where
  pub entries : List ℕ
  pub there : List ThreadState
  pub set : ℕ → Bool
  pub reached : run plan.procs (start plan.procs plan.threads) entries ≡ some there
  pub stuck : Stuck plan.procs there set

-- the verdict is free exactly when no run reaches a stuck set, and deadlock exactly when some run does, then with a schedule and the largest stuck set at its end
pub record JudgesExactly (plan : LockPlan) (v : Result Verdict Refusal) (schedule : List ℕ) : Type 0 where
  pub free : (v ≡ Ok Free) ↔ DeadlockFree plan.procs plan.threads
  pub deadlock : ((n : ℕ) × (S : ℕ) × (v ≡ Ok (Deadlock n S))) ↔ StuckReached plan
  pub scheduled : (n S : ℕ) → v ≡ Ok (Deadlock n S) → (length schedule ≡ n) × Schedule plan schedule (in_mask S)

-- Demand 3: of an accepted text the verdict is exact, and the entries of its schedule fill the buffer's start. A buffer of as many entries as the sum of the threads' sizes
-- suffices.
pub record Demand3 (text before after : List ℕ) : Type 0 where
  pub judge : (v : Result Verdict Refusal) → Judged text before v after → (x : AcceptedText text) → thread_sizes x.plan ≤ length before
      → (schedule : List ℕ) × JudgesExactly x.plan v schedule × (after ≡ filled schedule before)
  pub lockplan_verdict : (n : ℕ) → JudgedBytes text before n after → (x : AcceptedText text) → thread_sizes x.plan ≤ length before / 2
      → (schedule : List ℕ) × JudgesExactly x.plan (read_verdict n) schedule × (after ≡ filled (list_bytes 2 schedule) before)
  -- "by an equation with a definition": of every text, accepted or not, and every buffer, which kind of verdict it is. Of the number for C the kind is the lowest byte
  pub judge_computed : (v : Result Verdict Refusal) → Judged text before v after → verdict_kind v ≡ computed_kind (verdict_refusal text (length before)) (conflict_in (plan_of text))
  pub lockplan_verdict_computed : (n : ℕ) → JudgedBytes text before n after → n % 256 ≡ computed_kind (verdict_refusal text (length before / 2)) (conflict_in (plan_of text))
