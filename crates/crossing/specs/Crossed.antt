-- Where two threads of a text's plan cross: what the calls promise, of their answer and of the buffer that they were lent, and what their steps leave for the next one. 02,
-- change 7.
use Rattle.std.specs.Prelude.{ℕ, ◌*◌, List, ◌≡◌, length, take, Result, Ok, Err}
use Rattle.std.proofs.Math.Option.{Option, none, some}
use Rattle.semantics.specs.Pairs.{words_of}
use Rattle.text.specs.declared.Refusal.{Refusal}
use Rattle.plan.specs.Settled.{table_plan}
use Rattle.plan.specs.Rules.{plan_of, no_two_threads, crossings_refusal}
use Rattle.answers.specs.Answers.{counted_of, counted_number, written}
use Rattle.couples.specs.Couples.{Couple, thread_pairs, couples, CouplesExact}
use Rattle.couples.specs.Fitting.{fitting_words, fitting_bytes}
use Rattle.crossing.specs.declared.TwoLists.{TwoLists}

-- the couples of the threads t and u of a text's plan
abbrev pub couples_in : List ℕ → ℕ → ℕ → List Couple
couples_in text t u = couples (plan_of text) t u

-- The crossings of the threads t and u: the answer, "The count is of all couples"; the buffer of words, which "takes the first ones that fit whole .. and keeps
-- its remainder", six words each (change 9); and where it is given, that the list is exact.
pub record Crossed (text : List ℕ) (t u : ℕ) (before : List ℕ) (r : Result ℕ Refusal) (after : List ℕ) : Type 0 where
  pub answer : r ≡ counted_of (crossings_refusal text t u) (length (couples_in text t u))
  pub buffer : after ≡ written (crossings_refusal text t u) (fitting_words (length before) (couples_in text t u)) before
  pub exact : crossings_refusal text t u ≡ none → CouplesExact (plan_of text) t u

-- The same on a buffer of bytes, 48 for each couple, with the answer as a number.
pub record CrossedBytes (text : List ℕ) (t u : ℕ) (before : List ℕ) (r : ℕ) (after : List ℕ) : Type 0 where
  pub answer : r ≡ counted_number (counted_of (crossings_refusal text t u) (length (couples_in text t u)))
  pub buffer : after ≡ written (crossings_refusal text t u) (fitting_bytes (length before) (couples_in text t u)) before
  pub exact : crossings_refusal text t u ≡ none → CouplesExact (plan_of text) t u

-- ---- the steps

-- how many pairs the two threads have, or the refusal
unfoldable pub two_lists_of : Option Refusal → ℕ → ℕ → Result TwoLists Refusal
two_lists_of none m n = Ok (record { first = m; second = n })
two_lists_of (some x) m n = Err x

-- two pair lists, each at the start of a list, three words a pair
pub record TwoListsFound (refused : Option Refusal) (vs ws : List ℕ) (r : Result TwoLists Refusal) (one two : List ℕ) : Type 0 where
  pub answer : r ≡ two_lists_of refused (length vs) (length ws)
  pub of_first : refused ≡ none → take (3 * length vs) one ≡ words_of vs
  pub of_second : refused ≡ none → take (3 * length ws) two ≡ words_of ws

-- of two threads of a table: rule 14 where one is not there, or both are the same
abbrev pub TableLists : List ℕ → ℕ → ℕ → Result TwoLists Refusal → List ℕ → List ℕ → Type 0
TableLists table t u r one two = TwoListsFound (no_two_threads (table_plan table) t u) (thread_pairs (table_plan table) t) (thread_pairs (table_plan table) u) r one two

-- of two threads of a text
abbrev pub TextLists : List ℕ → ℕ → ℕ → Result TwoLists Refusal → List ℕ → List ℕ → Type 0
TextLists text t u r one two = TwoListsFound (crossings_refusal text t u) (thread_pairs (plan_of text) t) (thread_pairs (plan_of text) u) r one two

-- couples in both buffers, or as they were where something is refused
pub record CouplesGiven (refused : Option Refusal) (cs : List Couple) (words words' bytes bytes' : List ℕ) (r : Result ℕ Refusal) : Type 0 where
  pub answer : r ≡ counted_of refused (length cs)
  pub in_words : words' ≡ written refused (fitting_words (length words) cs) words
  pub in_bytes : bytes' ≡ written refused (fitting_bytes (length bytes) cs) bytes

-- those of two threads of a text
abbrev pub CouplesIn : List ℕ → ℕ → ℕ → List ℕ → List ℕ → List ℕ → List ℕ → Result ℕ Refusal → Type 0
CouplesIn text t u words words' bytes bytes' r = CouplesGiven (crossings_refusal text t u) (couples_in text t u) words words' bytes bytes' r
