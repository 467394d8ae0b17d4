-- What 02, change 5, asks of the limit of pairs: "A hold has size 2 and needs something inside it, so a size of 1,024 has room for 511 holds at most. Show that rule 10 therefore
-- never occurs, and take it out, its number unused". Change 9, of plans with shares: "the pair bound of 511 must hold for it too". Said of the text, of the critical pairs of
-- source 000, and of what the calls may answer. A theorem about whatever the promises let the calls answer, `pair_limit`.
use Rattle.std.specs.Prelude.{ℕ, ◌+◌, ◌*◌, ◌/◌, ◌<◌, ◌≤◌, ◌≡◌, length, Result, Ok, Err}
use mathlib.Core.List.{List, Memᴰ}
use Rattle.std.proofs.Math.Option.{some}
use Rattle.limits.specs.Limits.{max_pairs, max_pair_words}
use Rattle.laws.specs.Ascending.{Ascends}
use Rattle.text.specs.declared.Refusal.{Refusal}
use Rattle.text.specs.Lines.{refusal}
use Rattle.semantics.specs.Plan.{Block}
use Rattle.semantics.specs.Sizes.{size_of}
use Rattle.semantics.specs.Language.{PublishedCritical}
use Rattle.plan.specs.Rules.{plan_refusal, crossings_refusal}
use Rattle.demands.specs.Broken.{AcceptedText}
use Rattle.answers.specs.declared.Verdict.{Verdict}
use Rattle.answers.specs.Answers.{read_counted, read_verdict}
use Rattle.listing.specs.Listed.{Listed, ListedBytes}
use Rattle.verdict.specs.Judged.{Judged, JudgedBytes}
use Rattle.copies.specs.Copies.{Tidied, TidiedNumber, Straightened, StraightenedNumber}
use Rattle.space.specs.Slip.{Needs, NeedsNumber}
use Rattle.crossing.specs.Crossed.{Crossed, CrossedBytes}

-- critical pairs of procedure p in ascending order, so that no two of them are equal; any that differ can be put so
pub record DifferentPairs (ps : List Block) (p : ℕ) (pairs : List ℕ) : Type 0 where
  pub different : Ascends pairs
  pub critical : (w : ℕ) → Memᴰ w pairs → PublishedCritical ps p w

-- they are few: "A hold has size 2 and needs something inside it", 2 × pairs + 1 ≤ size, "so a size of 1,024 has room for 511 .. at most", since 2 × 512 + 1 is above it
pub record FewPairs (ps : List Block) (p : ℕ) : Type 0 where
  pub by_size : (pairs : List ℕ) → DifferentPairs ps p pairs → 2 * length pairs + 1 ≤ size_of ps p
  pub most : (pairs : List ℕ) → DifferentPairs ps p pairs → length pairs ≤ max_pairs

-- the pair list, where so many words are lent: "Raise the limit to 511"; change 9: "The pair buffer is 1,533 words"
pub record ListedWithin (lent : ℕ) (r : Result ℕ Refusal) : Type 0 where
  pub shorter : lent < max_pair_words → r ≡ Err (refusal 1 0)
  pub suffices : max_pair_words ≤ lent → (x : Refusal) → r ≡ Err x → x.rule ≡ 1 → ⊥
  pub most : (n : ℕ) → r ≡ Ok n → n ≤ max_pairs

-- "its number unused": whatever refusal the answer is, it is not by rule 10
abbrev pub NeverTen : (Refusal → Type 0) → Type 0
NeverTen Refuses = (x : Refusal) → Refuses x → x.rule ≡ 10 → ⊥

-- of the rules by which the programs refuse, the plan's (`Report`, `printed_copy`, `printed_slip`, `printed_crossings`) and those of the crossings (`printed_couples`), and of each
-- call that answers with a refusal; the text call answers with no number
pub record RuleTenUnused (text : List ℕ) : Type 0 where
  pub plan : NeverTen (λ x. plan_refusal text ≡ some x)
  pub crossing : (t u : ℕ) → NeverTen (λ x. crossings_refusal text t u ≡ some x)
  pub judge : (before : List ℕ) (v : Result Verdict Refusal) (after : List ℕ) → Judged text before v after → NeverTen (λ x. v ≡ Err x)
  pub lockplan_verdict : (before : List ℕ) (n : ℕ) (after : List ℕ) → JudgedBytes text before n after → NeverTen (λ x. read_verdict n ≡ Err x)
  pub pair-list : (p : ℕ) (before : List ℕ) (r : Result ℕ Refusal) (after : List ℕ) → Listed text p before r after → NeverTen (λ x. r ≡ Err x)
  pub lockplan_pairs : (p : ℕ) (before : List ℕ) (n : ℕ) (after : List ℕ) → ListedBytes text p before n after → NeverTen (λ x. read_counted n ≡ Err x)
  pub tidy : (before : List ℕ) (r : Result ℕ Refusal) (after : List ℕ) → Tidied text before r after → NeverTen (λ x. r ≡ Err x)
  pub lockplan_tidy : (before : List ℕ) (n : ℕ) (after : List ℕ) → TidiedNumber text before n after → NeverTen (λ x. read_counted n ≡ Err x)
  pub straight : (before : List ℕ) (r : Result ℕ Refusal) (after : List ℕ) → Straightened text before r after → NeverTen (λ x. r ≡ Err x)
  pub lockplan_straight : (before : List ℕ) (n : ℕ) (after : List ℕ) → StraightenedNumber text before n after → NeverTen (λ x. read_counted n ≡ Err x)
  pub space : (r : Result ℕ Refusal) → Needs text r → NeverTen (λ x. r ≡ Err x)
  pub lockplan_space : (n : ℕ) → NeedsNumber text n → NeverTen (λ x. read_counted n ≡ Err x)
  pub crossings : (t u : ℕ) (before : List ℕ) (r : Result ℕ Refusal) (after : List ℕ) → Crossed text t u before r after → NeverTen (λ x. r ≡ Err x)
  pub lockplan_crossings : (t u : ℕ) (before : List ℕ) (n : ℕ) (after : List ℕ) → CrossedBytes text t u before n after → NeverTen (λ x. read_counted n ≡ Err x)

pub record PairLimit (text : List ℕ) : Type 0 where
  -- "Show that rule 10 therefore never occurs": no procedure of a text that keeps the rules before it, 2 to 8, 12, 13 and 9, has more than 511 critical pairs
  pub few : (x : AcceptedText text) (p : ℕ) → p < length x.plan.procs → FewPairs x.plan.procs p
  -- "The pair buffer is 1,533 words": of the pair list, whichever procedure is asked for
  pub pair-list : (p : ℕ) (before : List ℕ) (r : Result ℕ Refusal) (after : List ℕ) → Listed text p before r after → ListedWithin (length before) r
  pub lockplan_pairs : (p : ℕ) (before : List ℕ) (n : ℕ) (after : List ℕ) → ListedBytes text p before n after → ListedWithin (length before / 8) (read_counted n)
  -- "take it out, its number unused"
  pub unused : RuleTenUnused text
