-- The couples of two threads of a text, from their pair lists; what they are, since the text is accepted and the threads are there and two; and handed to the caller.
use Prim.Native.Nat.{ℕ, ◌*◌, ◌^◌, ◌<◌, ◌≤◌}
use native.Mathlib.Omega.{arith}
use mathlib.Core.List.{List}
use mathlib.Core.Logic.{◌≢◌}
use mathlib.Core.Option.{Option, none, some}
use mathlib.Core.Path.{◌≡◌, refl, sym, ap, ◌∙◌}
use lib.ListN.{length, take, length-take}
use Rattle.std.proofs.Common.{Result, Ok, Err}
use Rattle.limits.specs.Limits.{max_pairs, max_pair_words}
use Rattle.text.specs.declared.Refusal.{Refusal}
use Rattle.semantics.specs.Plan.{thread_proc}
use Rattle.plan.specs.Rules.{plan_of, plan_refusal, crossings_refusal}
use Rattle.plan.proofs.AcceptedTable.{accepted-settled, accepted-ranked, accepted-few}
use Rattle.plan.proofs.TwoThreads.{crossings-kept}
use Rattle.answers.specs.Answers.{counted_of, counted_number, counted_high}
use Rattle.answers.proofs.LineBounds.{crossings_bounded}
use Rattle.answers.proofs.Counts.{counted_carried}
use Rattle.couples.specs.Couples.{couples_of, thread_pairs, couples, CouplesExact}
use Rattle.couples.specs.Fitting.{CouplesFound}
use Rattle.couples.specs.Records.{pairs_from}
use Rattle.couples.proofs.Records.{thread-records}
use Rattle.couples.proofs.Members.{couples-few}
use Rattle.couples.proofs.Alone.{couples-exact}
use Rattle.crossing.specs.declared.TwoLists.{TwoLists}
use Rattle.crossing.specs.Crossed.{couples_in, two_lists_of, TextLists, CouplesIn, Crossed, CrossedBytes}

-- ---- what is not refused

module _ (text : List ℕ) (t u : ℕ) (e : crossings_refusal text t u ≡ none) where
  -- the plan is accepted, and both threads are there and are two
  kept : (plan_refusal text ≡ none) × (t < length (plan_of text).threads) × (u < length (plan_of text).threads) × (t ≢ u)
  kept = (crossings-kept text t u).0 e

  few-pairs : (i : ℕ) → i < length (plan_of text).threads → length (thread_pairs (plan_of text) i) ≤ max_pairs
  few-pairs i h = accepted-few text kept.0 (thread_proc (plan_of text) i) ((accepted-settled text kept.0).threads-present i h)

  first-pairs-few : length (thread_pairs (plan_of text) t) ≤ max_pairs
  first-pairs-few = few-pairs t kept.1

  second-pairs-few : length (thread_pairs (plan_of text) u) ≤ max_pairs
  second-pairs-few = few-pairs u kept.2

  crossings-few : length (couples_in text t u) < 2 ^ 40
  unfolding couples
  crossings-few = omega (arith, couples-few (thread_pairs (plan_of text) t) (thread_pairs (plan_of text) u) second-pairs-few, first-pairs-few)

  pub exact-couples : CouplesExact (plan_of text) t u
  exact-couples = couples-exact (plan_of text) (accepted-ranked text kept.0) t u kept.1 kept.2

-- ---- from the pair lists

-- the two cases of an answer that says how many pairs there are
both-kept : (o : Option Refusal) (i j : ℕ) (l : TwoLists) → Ok l ≡ two_lists_of o i j → (o ≡ none) × (l.first ≡ i) × (l.second ≡ j)
unfolding two_lists_of
both-kept none i j l e =
    let z : l ≡ record { first = i; second = j } = cc in
    (refl, ap (λ (k : TwoLists). k.first) z, ap (λ (k : TwoLists). k.second) z)
both-kept (some x) i j l e = cc

pub both-refused : (o : Option Refusal) (i j : ℕ) (x : Refusal) → Err x ≡ two_lists_of o i j → o ≡ some x
unfolding two_lists_of
both-refused none i j x e = cc
both-refused (some y) i j x e = let z : y ≡ x = cc in ap {B = Option Refusal} some z

module _ (text : List ℕ) (t u : ℕ) (r : Result TwoLists Refusal) (one two : List ℕ) (f : TextLists text t u r one two) where
  module _ (l : TwoLists) (g : r ≡ Ok l) where
    pub listed : (crossings_refusal text t u ≡ none) × (l.first ≡ length (thread_pairs (plan_of text) t)) × (l.second ≡ length (thread_pairs (plan_of text) u))
    listed = both-kept (crossings_refusal text t u) (length (thread_pairs (plan_of text) t)) (length (thread_pairs (plan_of text) u)) l (sym g ∙ f.answer)

    first_short : l.first ≤ max_pairs
    first_short = omega (arith, listed.1, first-pairs-few text t u listed.0)

    second_short : l.second ≤ max_pairs
    second_short = omega (arith, listed.2, second-pairs-few text t u listed.0)

    pub first_fits : 3 * l.first < 2 ^ 64
    first_fits = omega (arith, first_short)

    pub second_fits : 3 * l.second < 2 ^ 64
    second_fits = omega (arith, second_short)

    pub first-within : (one₀ : List ℕ) → max_pair_words ≤ length one₀ → length one ≡ length one₀ → 3 * l.first ≤ length one
    first-within one₀ h e = omega (arith, first_short)

    pub second-within : (two₀ : List ℕ) → max_pair_words ≤ length two₀ → length two ≡ length two₀ → 3 * l.second ≤ length two
    second-within two₀ h e = omega (arith, second_short)

    pub first-few : length (take (3 * l.first) one) ≤ max_pair_words
    first-few = rw (length-take (3 * l.first) one) (omega (arith, first_short))

    pub second-few : length (take (3 * l.second) two) ≤ max_pair_words
    second-few = rw (length-take (3 * l.second) two) (omega (arith, second_short))

    -- the pairs read from the lists are those of the threads
    pub first-is : pairs_from (take (3 * l.first) one) ≡ thread_pairs (plan_of text) t
    first-is =
        let z : 3 * l.first ≡ 3 * length (thread_pairs (plan_of text) t) = omega (arith, listed.1) in
        rw (z, f.of_first listed.0) (thread-records (plan_of text) (accepted-ranked text (kept text t u listed.0).0) t (kept text t u listed.0).1)

    pub second_is : pairs_from (take (3 * l.second) two) ≡ thread_pairs (plan_of text) u
    second_is =
        let z : 3 * l.second ≡ 3 * length (thread_pairs (plan_of text) u) = omega (arith, listed.2) in
        rw (z, f.of_second listed.0) (thread-records (plan_of text) (accepted-ranked text (kept text t u listed.0).0) u (kept text t u listed.0).2)

    pub couples-counted : (words words' bytes bytes' : List ℕ) (k : ℕ)
        → CouplesFound (couples_of (pairs_from (take (3 * l.first) one)) (pairs_from (take (3 * l.second) two))) words words' bytes bytes' k
        → CouplesIn text t u words words' bytes bytes' (Ok k)
    unfolding couples counted_of
    couples-counted words words' bytes bytes' k c =
        let d : CouplesFound (couples_of (thread_pairs (plan_of text) t) (thread_pairs (plan_of text) u)) words words' bytes bytes' k = rw (first-is, second_is) at c in
        rw listed.0 (record { answer = ap Ok d.count; in_words = d.in_words; in_bytes = d.in_bytes })

  pub couples-refused : (words bytes : List ℕ) (x : Refusal) → r ≡ Err x → CouplesIn text t u words words bytes bytes (Err x)
  unfolding counted_of
  couples-refused words bytes x g =
      rw (both-refused (crossings_refusal text t u) (length (thread_pairs (plan_of text) t)) (length (thread_pairs (plan_of text) u)) x (sym g ∙ f.answer))
      (record { answer = refl; in_words = refl; in_bytes = refl })

-- ---- into the caller's buffer

module _ (text : List ℕ) (t u : ℕ) (words words' bytes bytes' : List ℕ) (r : Result ℕ Refusal) (c : CouplesIn text t u words words' bytes bytes' r) where
  pub words_crossed : Crossed text t u words r words'
  words_crossed = record { answer = c.answer; buffer = c.in_words; exact = exact-couples text t u }

  pub bytes-crossed : (v : ℕ) → v ≡ counted_number r → CrossedBytes text t u bytes v bytes'
  bytes-crossed v e = record { answer = e ∙ ap counted_number c.answer; buffer = c.in_bytes; exact = exact-couples text t u }

  pub answer_carried : counted_high r < 2 ^ 40
  answer_carried = counted_carried (crossings_refusal text t u) r (length (couples_in text t u)) c.answer (crossings-few text t u) (crossings_bounded text t u)
