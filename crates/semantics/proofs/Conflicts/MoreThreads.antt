-- Another thread never removes a deadlock: a search that succeeds does so with one list more, wherever it is put in.
use Prim.Native.Nat.{zero, suc, ℕ, ◌≤◌, ◌<◌}
use mathlib.Core.Bool.{Bool, true, false}
use mathlib.Core.List.Memᴰ
use mathlib.Core.List.{List, [], ◌∷◌, ◌++◌, map, map-append, Memᴰ}
use mathlib.Core.Logic.{inl, inr, ⊎_elim}
use mathlib.Core.Path.{refl}
use native.Mathlib.Nat.{not-suc-le-zero, le_of_suc-le-suc}
use native.Mathlib.Omega.{arith}
use lib.Bits.{bit_or}
use lib.Dec.{T}
use lib.ListN.{length, get_or, length-append}
use Rattle.laws.proofs.Tests.{T_and, and_T, T-or, or_T}
use Rattle.semantics.specs.Plan.{Block, Sound}
use Rattle.semantics.specs.Stuck.{DeadlockFree}
use Rattle.semantics.specs.Pairs.{had_of, pairs}
use Rattle.semantics.specs.Conflict.{any, still_unmet, search_from, takes, compatible_sets, excludes_set}
use Rattle.semantics.proofs.Conflicts.Characterisation.{characterisation}

any-more : (f g : ℕ → Bool) → ((v : ℕ) → T (f v) → T (g v)) → (vs : List ℕ) → T (any f vs) → T (any g vs)
unfolding any
any-more f g h [] t = t
any-more f g h (v ∷ vs) t = or_T (g v) (any g vs) (⊎_elim (λ a. inl (h v a)) (λ b. inr (any-more f g h vs b)) (T-or (f v) (any f vs) t))

module _ (c b : ℕ → ℕ → Bool) where
  pub search_insert : (xs : List (List ℕ)) (vs : List ℕ) (ys : List (List ℕ)) (m : ℕ) (ws : List ℕ) (some : Bool)
      → T (search_from c b (xs ++ ys) m ws some) → T (search_from c b (xs ++ vs ∷ ys) m ws some)
  unfolding search_from
  search_insert [] vs ys m ws some t = or_T (search_from c b ys m ws some) (any (takes c b ys m ws) vs) (inl t)
  search_insert (x ∷ xs) vs ys m ws some t =
      or_T (search_from c b (xs ++ vs ∷ ys) m ws some) (any (takes c b (xs ++ vs ∷ ys) m ws) x)
      (⊎_elim (λ p. inl (search_insert xs vs ys m ws some p))
      (λ p. inr (any-more (takes c b (xs ++ ys) m ws) (takes c b (xs ++ vs ∷ ys) m ws)
      (λ v q. let (k, r) = T_and (c m (had_of v)) (search_from c b (xs ++ ys) (bit_or m (had_of v)) (still_unmet c b m v ws) true) q in
      and_T (c m (had_of v)) (search_from c b (xs ++ vs ∷ ys) (bit_or m (had_of v)) (still_unmet c b m v ws) true) k
      (search_insert xs vs ys (bit_or m (had_of v)) (still_unmet c b m v ws) true r)) x p))
      (T-or (search_from c b (xs ++ ys) m ws some) (any (takes c b (xs ++ ys) m ws) x) t))

at_mem : (ns : List ℕ) (t : ℕ) → t < length ns → Memᴰ (get_or ns t 0) ns
at_mem [] t h = absurd (not-suc-le-zero h)
at_mem (n ∷ ns) zero h = Memᴰ.head refl
at_mem (n ∷ ns) (suc t) h = Memᴰ.tail (at_mem ns t (le_of_suc-le-suc h))

-- a gateway that is free of deadlocks with a thread of procedure p more is so without it (source 000, after Definition 2.2)
pub deadlock-free-fewer : (ps : List Block) (rank : ℕ → ℕ) → Sound ps rank → (ms : List ℕ) (p : ℕ) (ns : List ℕ) (d : ℕ)
    → ((q : ℕ) → Memᴰ q (ms ++ p ∷ ns) → rank q < d)
    → length (ms ++ p ∷ ns) ≤ 8 → DeadlockFree ps (ms ++ p ∷ ns) → DeadlockFree ps (ms ++ ns)
deadlock-free-fewer ps rank s ms p ns d deep few free =
    let fewer : length (ms ++ ns) ≤ 8 = rw length-append (omega (arith, rw length-append at few)) in
    let less : (q : ℕ) → Memᴰ q (ms ++ ns) → Memᴰ q (ms ++ p ∷ ns) =
    λ q m. ⊎_elim (λ i. Memᴰ.append_left (p ∷ ns) i) (λ i. Memᴰ.append_right ms (Memᴰ.tail i)) (Memᴰ.append_cases ms m) in
    (characterisation ps rank s (ms ++ ns) fewer d (λ t b. deep (get_or (ms ++ ns) t 0) (less (get_or (ms ++ ns) t 0) (at_mem (ms ++ ns) t b)))).free.0
    (λ h. (characterisation ps rank s (ms ++ p ∷ ns) few d (λ t b. deep (get_or (ms ++ p ∷ ns) t 0) (at_mem (ms ++ p ∷ ns) t b))).free.1 free
    (rw (map-append (pairs d ps) ms (p ∷ ns))
    (search_insert compatible_sets excludes_set (map (pairs d ps) ms) (pairs d ps p) (map (pairs d ps) ns) 0 [] false
    (rw (map-append (pairs d ps) ms ns) at h))))
