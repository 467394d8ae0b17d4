-- Pairs read back from a list of words: there is one for every three words, and pair i is that of the words from 3 i on. The words of pairs give these pairs back (`from_words`): a
-- pair has no more than 64 claims. So do those of a thread of an accepted plan (`thread-records`).
use Prim.Native.Nat.{ℕ, suc, ◌*◌, ◌/◌, ◌%◌, ◌^◌, ◌<◌}
use native.Mathlib.Omega.{arith}
use mathlib.Core.List.{List, [], ◌∷◌, map, flat_map, Memᴰ}
use mathlib.Core.Path.{◌≡◌, refl, sym, ap, ap₂, ◌∙◌}
use lib.Bits.{bit_or, or_shifted}
use lib.ListN.{length, get_or}
use Rattle.std.specs.Simd.{first_chunks}
use Rattle.std.proofs.lemmas.List.{get_or-map, length-map}
use Rattle.limits.specs.Limits.{claim_count, mask_size}
use Rattle.semantics.specs.Plan.{Block, LockPlan, Sound, thread_proc}
use Rattle.semantics.specs.Run.{start}
use Rattle.semantics.specs.Pairs.{had_of, held_word, shared_word, wanted_word, words_of, Critical}
use Rattle.semantics.proofs.Ground.LockSets.{held_lt}
use Rattle.semantics.proofs.Thread.Remainders.{plain_body}
use Rattle.semantics.proofs.Gateway.Invariant.{start_invariant, run_invariant}
use Rattle.semantics.proofs.Critical.PairList.{pair_list-critical}
use Rattle.semantics.proofs.Conflicts.Conflict.{pair_held}
use Rattle.semantics.proofs.Conflicts.Characterisation.{Ranked}
use Rattle.columns.specs.Columns.{pair_number}
use Rattle.couples.specs.Couples.{thread_pairs}
use Rattle.couples.specs.Records.{claims_from, pair_of_words, pairs_from}

pub from-length : (ws : List ℕ) → length (pairs_from ws) ≡ length ws / 3
unfolding pairs_from
from-length [] = omega arith
from-length (h ∷ []) = omega arith
from-length (h ∷ s ∷ []) = omega arith
from-length (h ∷ s ∷ x ∷ ws) = omega (arith, from-length ws)

-- they are read from the list three words at a time
chunks-pairs : (ws : List ℕ) → map pair_of_words (first_chunks 3 (length ws / 3) ws) ≡ pairs_from ws
unfolding pairs_from
chunks-pairs [] = refl
chunks-pairs (h ∷ []) = refl
chunks-pairs (h ∷ s ∷ []) = refl
chunks-pairs (h ∷ s ∷ x ∷ ws) =
    let more : suc (suc (suc (length ws))) / 3 ≡ suc (length ws / 3) = omega arith in
    rw more (ap (λ (l : List ℕ). pair_number (claims_from h s) x ∷ l) (chunks-pairs ws))

module _ (ws : List ℕ) (chunks : List (List ℕ)) (front : chunks ≡ first_chunks 3 (length ws / 3) ws) where
  pub chunks-length : length chunks ≡ length (pairs_from ws)
  chunks-length = rw (front, ← chunks-pairs ws) (sym (length-map (first_chunks 3 (length ws / 3) ws) pair_of_words))

  pub chunk_pair : (i : ℕ) (d : List ℕ) → i < length chunks → pair_of_words (get_or chunks i d) ≡ get_or (pairs_from ws) i 0
  chunk_pair i d h = sym (get_or-map pair_of_words chunks i d 0 h) ∙ ap (λ l. get_or (map pair_of_words l) i 0) front ∙ ap (λ l. get_or l i 0) (chunks-pairs ws)

-- ---- as the machine reads them

-- `(h << 32) | s`, where s is the lower half
pub machine_claims : (h s t : ℕ) → t ≡ s % mask_size → bit_or (h * 2 ^ 32 % 2 ^ 64) t ≡ claims_from h s
unfolding claims_from
machine_claims h s t e =
    let half : h * 2 ^ 32 % 2 ^ 64 ≡ h % 2 ^ 32 * 2 ^ 32 = omega arith in
    rw half (or_shifted (h % 2 ^ 32) 32 t (omega arith) ∙ omega arith)

-- ---- the words of pairs

-- the words of a pair
from-pair : (w : ℕ) → had_of w < 2 ^ claim_count → pair_number (claims_from (held_word w) (shared_word w)) (wanted_word w) ≡ w
unfolding pair_number claims_from
from-pair w h = omega arith

pub from_words : (ws : List ℕ) → ((w : ℕ) → Memᴰ w ws → had_of w < 2 ^ claim_count) → pairs_from (words_of ws) ≡ ws
unfolding pairs_from flat_map
from_words [] h = refl
from_words (w ∷ ws) h = ap₂ (λ (v : ℕ) (vs : List ℕ). v ∷ vs) (from-pair w (h w (Memᴰ.head refl))) (from_words ws (λ v m. h v (Memᴰ.tail m)))

-- ---- the pairs of a thread

-- a run has counts of 64 claims
critical-small : (ps : List Block) (rank : ℕ → ℕ) (s : Sound ps rank) (p w : ℕ) → Critical ps p w → had_of w < 2 ^ claim_count
critical-small ps rank s p w c =
    let kept = run_invariant ps (plain_body s) (start ps (p ∷ [])) _ c.steps c.reached (start_invariant ps (plain_body s) (p ∷ [])) in
    let size : length c.count ≡ claim_count = (kept.balanced 0 (omega arith)).size in
    rw (pair_held ps (plain_body s) p w c) (held_lt claim_count c.count (omega arith))

pub thread-records : (plan : LockPlan) → Ranked plan → (t : ℕ) → t < length plan.threads → pairs_from (words_of (thread_pairs plan t)) ≡ thread_pairs plan t
thread-records plan r t b =
    let p = thread_proc plan t in
    let listed = pair_list-critical plan.procs r.ranks.rank r.ranks.sound p (r.ranks.below p (r.there t b)) in
    from_words (thread_pairs plan t) (λ w m. critical-small plan.procs r.ranks.rank r.ranks.sound p w ((listed w).0 m))
