-- The pairs of a procedure, found by the rules in checking order: as words they are in the caller's buffer, as bytes they are handed to it from a list.
use Prim.Native.Nat.{ℕ, ◌-◌, ◌*◌, ◌/◌, ◌^◌, ◌<◌, ◌≤◌}
use native.Mathlib.Omega.{arith}
use mathlib.Core.Path.{◌≡◌, refl, sym, ap, ◌∙◌}
use mathlib.Core.List.{List}
use mathlib.Core.Option.{Option, none, some, or_else}
use lib.ListN.{length, take, drop}
use lib.Seq.{take_at}
use lib.Dec.{ltb, leb}
use Rattle.std.proofs.Common.{Result, Ok, Err, IsErrAnd}
use Rattle.laws.proofs.Tests.{first-none}
use Rattle.laws.specs.Wrote.{Wrote, filled}
use Rattle.laws.proofs.Wrote.{wrote-filled}
use borrow.Author.Tests.{lt-ltb, le-ltb, le-leb, lt-leb, leb-false, ltb-false}
use Rattle.limits.specs.Limits.{max_pairs, max_pair_words}
use Rattle.semantics.specs.Pairs.{words_of}
use Rattle.semantics.proofs.Ground.Claims.{words_length as words_three}
use Rattle.semantics.proofs.Critical.PairList.{pair_list-critical, pair_list-ascends}
use Rattle.plan.specs.Settled.{table_plan}
use Rattle.text.specs.declared.Refusal.{Refusal}
use Rattle.text.specs.Lines.{refusal}
use Rattle.plan.specs.Rules.{refused_if, plan_of, plan_refusal, pairs_refusal}
use Rattle.buffers.specs.LittleEndian.{list_bytes}
use Rattle.answers.specs.Answers.{counted_of, counted_number, counted_high}
use Rattle.checked.specs.declared.CheckedText.{CheckedText}
use Rattle.checked.specs.Checks.{AcceptedText}
use Rattle.pairs.specs.Words.{WordsOfPairs}
use Rattle.listing.specs.Listed.{TablePairs, PairsFound, pairs_of, Exact, Listed, ListedBytes}
use Rattle.answers.proofs.LineBounds.{pairs_bounded}
use Rattle.answers.proofs.Counts.{handed-on, counted-refused, counted-kept, counted_carried}
use Rattle.plan.proofs.AcceptedTable.{accepted-ranks, accepted-few}
use Rattle.plan.proofs.Kept.{unflagged}

-- ---- in a table

module _ (ws : List ℕ) (p procs : ℕ) (before : List ℕ) (c : procs ≡ length (table_plan ws).procs) where
  pub table-absent : procs ≤ p → TablePairs ws p before (Err (refusal 11 0)) before
  unfolding counted_of
  table-absent h = rw (le-leb (length (table_plan ws).procs) p (omega arith)) (record { answer = refl; list = refl })

  pub table-listed : (n : ℕ) (after : List ℕ) → p < procs → WordsOfPairs ws p before n after → TablePairs ws p before (Ok n) after
  unfolding counted_of
  table-listed n after h w =
      rw (lt-leb (length (table_plan ws).procs) p (omega arith)) (record { answer = ap Ok w.count; list = wrote-filled before after 0 (3 * n) _ w.list refl })

-- ---- in a text

pub text-short : (text : List ℕ) (p lent : ℕ) (before : List ℕ) → lent < max_pair_words → PairsFound text p lent before (Err (refusal 1 0)) before
unfolding counted_of pairs_refusal or_else
text-short text p lent before h = rw (lt-ltb lent max_pair_words h) (record { answer = refl; list = refl })

-- enough is lent: the plan's rules come next, then 11
pairs-refusal : (text : List ℕ) (p lent : ℕ) → max_pair_words ≤ lent → pairs_refusal text p lent ≡ or_else (plan_refusal text) (refused_if 11 (leb (length (plan_of text).procs) p))
unfolding pairs_refusal or_else
pairs-refusal text p lent h = rw (le-ltb lent max_pair_words h)

pub text-refused : (text : List ℕ) (p lent : ℕ) (before : List ℕ) (r : Result ℕ Refusal) (x : Refusal) → max_pair_words ≤ lent → plan_refusal text ≡ some x
    → IsErrAnd r (λ y. y ≡ x) → PairsFound text p lent before r before
unfolding counted_of or_else
text-refused text p lent before r x h k e = rw (handed-on r x e, pairs-refusal text p lent h, k) (record { answer = refl; list = refl })

pub text-listed : (text : List ℕ) (p lent : ℕ) (table before after : List ℕ) (plan : CheckedText) (r : Result ℕ Refusal) → max_pair_words ≤ lent → AcceptedText text plan table
    → TablePairs (take plan.forms table) p before r after → PairsFound text p lent before r after
unfolding or_else
text-listed text p lent table before after plan r h a w = rw (pairs-refusal text p lent h, a.kept) (rw a.plan at w)

-- ---- demand 2

-- the rules that let a pair list pass
module _ (text : List ℕ) (p lent : ℕ) (e : pairs_refusal text p lent ≡ none) where
  abbrev absent : Option Refusal
  absent = refused_if 11 (leb (length (plan_of text).procs) p)

  by_rule : (refused_if 1 (ltb lent max_pair_words) ≡ none) × (or_else (plan_refusal text) absent ≡ none)
  unfolding pairs_refusal
  by_rule = first-none (refused_if 1 (ltb lent max_pair_words)) (or_else (plan_refusal text) absent) e

  accepted : plan_refusal text ≡ none
  accepted = (first-none (plan_refusal text) absent by_rule.1).0

  there : p < length (plan_of text).procs
  there = leb-false (length (plan_of text).procs) p (unflagged 11 _ (first-none (plan_refusal text) absent by_rule.1).1)

  lent-enough : max_pair_words ≤ lent
  lent-enough = ltb-false lent max_pair_words (unflagged 1 (ltb lent max_pair_words) by_rule.0)

  pub few-listed : length (pairs_of text p) ≤ max_pairs
  few-listed = accepted-few text accepted p there

  pub exact_pairs : Exact text p
  exact_pairs =
      let ranks = accepted-ranks text accepted in
      record { critical = pair_list-critical (plan_of text).procs ranks.rank ranks.sound p (ranks.below p there); ascending = pair_list-ascends (plan_of text).procs p }

-- ---- into the caller's buffer

-- as words
pub words_listed : (text : List ℕ) (p : ℕ) (before : List ℕ) (r : Result ℕ Refusal) (after : List ℕ) → PairsFound text p (length before) before r after → Listed text p before r after
words_listed text p before r after f = record { answer = f.answer; buffer = f.list; exact = exact_pairs text p (length before) }

-- as bytes: list₀ is the list before, and list with the pairs that were found
module _ (text : List ℕ) (p : ℕ) (before list₀ : List ℕ) (r : Result ℕ Refusal) (list : List ℕ) (f : PairsFound text p (length before / 8) list₀ r list) where
  -- a refusal writes nothing
  pub bytes-refused : (x : Refusal) (v : ℕ) → r ≡ Err x → v ≡ counted_number r → ListedBytes text p before v before
  bytes-refused x v g k = record {
    answer = k ∙ ap counted_number f.answer;
    buffer = rw (counted-refused (pairs_refusal text p (length before / 8)) r (length (pairs_of text p)) x f.answer g);
    exact = exact_pairs text p (length before / 8);
  }

  -- by the answer
  module _ (n : ℕ) (g : r ≡ Ok n) where
    unrefused : pairs_refusal text p (length before / 8) ≡ none
    unrefused = (counted-kept (pairs_refusal text p (length before / 8)) r (length (pairs_of text p)) n f.answer g).0

    count : 3 * n ≡ length (words_of (pairs_of text p))
    count = omega (arith, (counted-kept (pairs_refusal text p (length before / 8)) r (length (pairs_of text p)) n f.answer g).1, words_three (pairs_of text p))

    pairs : take (3 * n) list ≡ words_of (pairs_of text p)
    pairs =
        let e : list ≡ filled (words_of (pairs_of text p)) list₀ = rw unrefused at f.list in
        rw e (take_at (words_of (pairs_of text p)) (drop (length (words_of (pairs_of text p))) list₀) (3 * n) (sym count))

    few : length (pairs_of text p) ≤ max_pairs
    few = few-listed text p (length before / 8) unrefused

    pub found-fits : 3 * n < 2 ^ 64
    found-fits = omega (arith, count, few, words_three (pairs_of text p))

    pub found_within : max_pair_words ≤ length list₀ → length list ≡ length list₀ → 3 * n ≤ length list
    found_within h k = omega (arith, count, few, words_three (pairs_of text p))

    pub bytes-room : length (take (3 * n) list) * 8 ≤ length before
    bytes-room = rw pairs (omega (arith, few, words_three (pairs_of text p), lent-enough text p (length before / 8) unrefused))

    pub bytes-listed : (v : ℕ) (after : List ℕ) → Wrote before after 0 (length (take (3 * n) list) * 8) (list_bytes 8 (take (3 * n) list)) → v ≡ counted_number r
        → ListedBytes text p before v after
    bytes-listed v after k m = record {
      answer = m ∙ ap counted_number f.answer;
      buffer = rw unrefused (wrote-filled before after 0 _ _ k refl ∙ ap (λ ws. filled (list_bytes 8 ws) before) pairs);
      exact = exact_pairs text p (length before / 8);
    }

-- ---- the answer as a number

-- the pairs are few, and a refusal's line is a line of the text or 0
pub found_carried : (text : List ℕ) (p lent : ℕ) (before : List ℕ) (r : Result ℕ Refusal) (list : List ℕ) → PairsFound text p lent before r list → counted_high r < 2 ^ 40
found_carried text p lent before r list f =
    counted_carried (pairs_refusal text p lent) r (length (pairs_of text p)) f.answer (λ e. omega (arith, few-listed text p lent e)) (pairs_bounded text p lent)
