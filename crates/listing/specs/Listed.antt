-- Demand 2: what the pair list promises, of its answer and of the buffer that it was lent, and what its steps leave for the next one. 01, "Pairs, verdict, schedule".
use Rattle.std.specs.Prelude.{ℕ, ◌/◌, ◌↔◌, ◌≡◌, leb, length, Result}
use mathlib.Core.List.{List, Memᴰ}
use Rattle.std.proofs.Math.Option.{Option, none}
use Rattle.laws.specs.Ascending.{Ascends}
use Rattle.semantics.specs.Pairs.{Critical, pair_list, words_of}
use Rattle.text.specs.declared.Refusal.{Refusal}
use Rattle.plan.specs.Settled.{table_plan}
use Rattle.plan.specs.Rules.{refused_if, plan_of, pairs_refusal}
use Rattle.buffers.specs.LittleEndian.{list_bytes}
use Rattle.answers.specs.Answers.{counted_of, counted_number, written}

-- the critical pairs of procedure p of a text's plan
abbrev pub pairs_of : List ℕ → ℕ → List ℕ
pairs_of text p = pair_list (plan_of text).procs p

-- demand 2: for each procedure the listed pairs are exactly the critical pairs of the published definition, none missing and none added, "ascending without
-- repeats"
pub record Exact (text : List ℕ) (p : ℕ) : Type 0 where
  pub critical : (w : ℕ) → Memᴰ w (pairs_of text p) ↔ Critical (plan_of text).procs p w
  pub ascending : Ascends (pairs_of text p)

-- The pair list of procedure p: the answer, which counts pairs, and the buffer, with three words for each, and where it is given, that it is exact.
pub record Listed (text : List ℕ) (p : ℕ) (before : List ℕ) (r : Result ℕ Refusal) (after : List ℕ) : Type 0 where
  pub answer : r ≡ counted_of (pairs_refusal text p (length before)) (length (pairs_of text p))
  pub buffer : after ≡ written (pairs_refusal text p (length before)) (words_of (pairs_of text p)) before
  pub exact : pairs_refusal text p (length before) ≡ none → Exact text p

-- The same on a buffer of bytes, "each entry or word lowest byte first, the lengths of rule 1 counted in whole ones".
pub record ListedBytes (text : List ℕ) (p : ℕ) (before : List ℕ) (r : ℕ) (after : List ℕ) : Type 0 where
  pub answer : r ≡ counted_number (counted_of (pairs_refusal text p (length before / 8)) (length (pairs_of text p)))
  pub buffer : after ≡ written (pairs_refusal text p (length before / 8)) (list_bytes 8 (words_of (pairs_of text p))) before
  pub exact : pairs_refusal text p (length before / 8) ≡ none → Exact text p

-- ---- the steps

-- the answer, and the list: the words of the pairs at its start and the rest kept, or as it was where something is refused
pub record ListFound (refused : Option Refusal) (pairs before : List ℕ) (r : Result ℕ Refusal) (after : List ℕ) : Type 0 where
  pub answer : r ≡ counted_of refused (length pairs)
  pub list : after ≡ written refused (words_of pairs) before

-- of a procedure of a table: rule 11 where it is not there
abbrev pub TablePairs : List ℕ → ℕ → List ℕ → Result ℕ Refusal → List ℕ → Type 0
TablePairs ws p before r after = ListFound (refused_if 11 (leb (length (table_plan ws).procs) p)) (pair_list (table_plan ws).procs p) before r after

-- of a procedure of a text, where `lent` words are lent for them
abbrev pub PairsFound : List ℕ → ℕ → ℕ → List ℕ → Result ℕ Refusal → List ℕ → Type 0
PairsFound text p lent before r after = ListFound (pairs_refusal text p lent) (pairs_of text p) before r after
