-- Two threads have no couple exactly where these two alone can never become stuck (`couples-exact`): a couple is a conflict of two pairs, and a conflict of the pairs of two
-- threads is a couple. A couple of two threads among others is a conflict of theirs too, so that in a plan free of deadlocks no two threads cross (`free-uncrossed`).
use Prim.Native.Nat.{ℕ, zero, suc, ◌<◌}
use mathlib.Core.Bool.{Bool, cond, ◌||◌}
use mathlib.Core.List.Memᴰ
use mathlib.Core.List.{List, [], ◌∷◌, map, Memᴰ}
use mathlib.Core.Logic.{⊎_elim, ◌≢◌, ◌↔◌}
use mathlib.Core.Path.{◌≡◌, refl, sym, subst}
use native.Mathlib.Omega.{arith}
use borrow.Author.Tests.{eq-eqb, ne_eqb}
use lib.Dec.{T, eqb, eqb→eq}
use lib.ListN.{length, get_or, drop_of_length-le}
use Rattle.laws.proofs.Folds.{map_at}
use Rattle.laws.proofs.Tests.{T-or, eq_or_ne}
use Rattle.semantics.specs.Plan.{LockPlan, thread_proc}
use Rattle.semantics.specs.Stuck.{DeadlockFree}
use Rattle.semantics.specs.Pairs.{had_of, wanted_of, Critical, pair_list}
use Rattle.semantics.specs.Conflict.{CompatibleIn, ExcludesIn, PairConflict, conflicting}
use Rattle.semantics.proofs.Critical.PairList.{pair_list-critical, pair_list-ascends}
use Rattle.semantics.proofs.Gateway.Compatible.{apart-sym}
use Rattle.semantics.proofs.Conflicts.ConflictTest.{conflicting-pairs, pairs-conflicting, pair_in_lem}
use Rattle.semantics.proofs.Conflicts.Characterisation.{Ranked, plan-characterisation}
use Rattle.couples.specs.Couples.{Couple, couple, couples_of, thread_pairs, couples, CriticalCouple, NeverStuckAlone, CouplesExact}
use Rattle.couples.proofs.Members.{Among, couples_are}
use Rattle.couples.proofs.Order.{couples-ordered}

-- ---- a couple is a conflict

module _ (vss : List (List ℕ)) (t u : ℕ) (apart : u ≢ t) (c : Couple) (x : Among (get_or vss t []) (get_or vss u []) c) where
  -- the two threads
  both : ℕ → Bool
  both i = eqb i t || eqb i u

  -- and their pairs
  chosen : ℕ → ℕ
  chosen i = cond (eqb i t) c.first c.second

  -- what holds of the two, each with its pair
  by_thread_lem : (P : ℕ → ℕ → Type 0) → P t c.first → P u c.second → (i : ℕ) → T (both i) → P i (chosen i)
  unfolding both chosen
  by_thread_lem P p q i s = ⊎_elim
      (λ (e : i ≡ t). rw (eq-eqb i t e) (subst (λ k. P k c.first) (sym e) p))
      (λ (n : i ≢ t). ⊎_elim (λ s. absurd (n (eqb→eq i t s))) (λ s. rw (ne_eqb i t n) (subst (λ k. P k c.second) (sym (eqb→eq i u s)) q)) (T-or (eqb i t) (eqb i u) s))
      (eq_or_ne i t)

  first-chosen : (T (both t)) × (chosen t ≡ c.first)
  unfolding both chosen
  first-chosen = rw (eq-eqb t t refl) (tt, refl)

  second-chosen : (T (both u)) × (chosen u ≡ c.second)
  unfolding both chosen
  second-chosen = rw (ne_eqb u t apart, eq-eqb u u refl) (tt, refl)

  couple-conflict : PairConflict vss both chosen
  couple-conflict = record {
    from = by_thread_lem (λ i w. Memᴰ w (get_or vss i [])) x.first-from x.second_from;
    disjoint = λ i j s r n. by_thread_lem (λ i w. i ≢ j → CompatibleIn (had_of w) (had_of (chosen j)))
        (λ m. by_thread_lem (λ j w. t ≢ j → CompatibleIn (had_of c.first) (had_of w)) (λ e. absurd (e refl)) (λ _. x.cross.apart) j r m)
        (λ m. by_thread_lem (λ j w. u ≢ j → CompatibleIn (had_of c.second) (had_of w))
        (λ _. apart-sym (had_of c.first) (had_of c.second) x.cross.apart) (λ e. absurd (e refl)) j r m) i s n;
    wanted = by_thread_lem (λ i w. (j : ℕ) × (j ≢ i) × T (both j) × ExcludesIn (had_of (chosen j)) (wanted_of w))
        (u, apart, second-chosen.0, rw second-chosen.1 x.cross.first-wants)
        (t, (λ e. apart (sym e)), first-chosen.0, rw first-chosen.1 x.cross.second-wants);
    member = (t, first-chosen.0);
  }

-- so there is none where the lists have no conflict
uncrossed : (vss : List (List ℕ)) (t u : ℕ) → u ≢ t → (T (conflicting vss) → ⊥) → (cs : List Couple) → couples_of (get_or vss t []) (get_or vss u []) ≡ cs → cs ≡ []
uncrossed vss t u apart none [] e = refl
uncrossed vss t u apart none (c ∷ cs) e =
    let x = (couples_are (get_or vss t []) (get_or vss u []) c).0 (subst (Memᴰ c) (sym e) (Memᴰ.head refl)) in
    absurd (none (pairs-conflicting vss (both vss t u apart c x) (chosen vss t u apart c x) (couple-conflict vss t u apart c x)))

-- ---- a conflict of two lists is a couple

module _ (vs ws : List ℕ) (S : ℕ → Bool) (pair : ℕ → ℕ) (k : PairConflict (vs ∷ ws ∷ []) S pair) where
  -- of two threads the other one
  other : (t : ℕ) → T (S t) → (u : ℕ) × (u ≢ t) × T (S u) × ExcludesIn (had_of (pair u)) (wanted_of (pair t)) × (t < 2) × (u < 2)
  other t s =
      let (u, n, r, e) = k.wanted t s in
      (u, n, r, e, pair_in_lem (vs ∷ ws ∷ []) t (pair t) (k.from t s), pair_in_lem (vs ∷ ws ∷ []) u (pair u) (k.from u r))

  members : T (S 0) × T (S 1)
  members = let (t, s) = k.member in let (u, n, r, _, b, d) = other t s in go t u b d n s r
    where
      go : (t u : ℕ) → t < 2 → u < 2 → u ≢ t → T (S t) → T (S u) → T (S 0) × T (S 1)
      go zero zero b d n s r = absurd (n refl)
      go zero (suc zero) b d n s r = (s, r)
      go (suc zero) zero b d n s r = (r, s)
      go (suc zero) (suc zero) b d n s r = absurd (n refl)
      go (suc (suc t)) u b d n s r = absurd (omega arith)
      go zero (suc (suc u)) b d n s r = absurd (omega arith)
      go (suc zero) (suc (suc u)) b d n s r = absurd (omega arith)

  conflict-couple : Among vs ws (couple (pair 0) (pair 1))
  conflict-couple =
      let (s, r) = members in
      let (u, n, _, e, _, d) = other 0 s in
      let (t, m, _, f, _, b) = other 1 r in
      let is_one : u ≡ 1 = omega arith in
      let is_zero : t ≡ 0 = omega arith in
      record {
        first-from = k.from 0 s;
        second_from = k.from 1 r;
        cross = record {
          apart = k.disjoint 0 1 s r (λ z. omega arith);
          first-wants = subst (λ i. ExcludesIn (had_of (pair i)) (wanted_of (pair 0))) is_one e;
          second-wants = subst (λ i. ExcludesIn (had_of (pair i)) (wanted_of (pair 1))) is_zero f;
        };
      }

-- no couple exactly where the two lists have no conflict
none-conflicting : (vs ws : List ℕ) → (couples_of vs ws ≡ []) ↔ (T (conflicting (vs ∷ ws ∷ [])) → ⊥)
none-conflicting vs ws = (
  λ e h.
      let (S, pair, k) = conflicting-pairs (vs ∷ ws ∷ []) h in
      Memᴰ.not-nil (subst (Memᴰ (couple (pair 0) (pair 1))) e ((couples_are vs ws (couple (pair 0) (pair 1))).1 (conflict-couple vs ws S pair k))),
  λ none. uncrossed (vs ∷ ws ∷ []) 0 1 (λ e. omega arith) none (couples_of vs ws) refl,
)

-- ---- the threads of a plan

module _ (plan : LockPlan) (r : Ranked plan) (t u : ℕ) (b : t < length plan.threads) (d : u < length plan.threads) where
  -- these two alone
  two-ranked : Ranked (record { procs = plan.procs; threads = thread_proc plan t ∷ thread_proc plan u ∷ [] })
  two-ranked = record { ranks = r.ranks; there = there; few = omega arith }
    where
      there : (i : ℕ) → i < 2 → get_or (thread_proc plan t ∷ thread_proc plan u ∷ []) i 0 < length plan.procs
      there zero h = r.there t b
      there (suc zero) h = r.there u d
      there (suc (suc i)) h = absurd (omega arith)

  zero-exactly : (length (couples plan t u) ≡ 0) ↔ NeverStuckAlone plan t u
  unfolding couples
  zero-exactly =
      let vs = thread_pairs plan t in
      let ws = thread_pairs plan u in
      let decided = (plan-characterisation (record { procs = plan.procs; threads = thread_proc plan t ∷ thread_proc plan u ∷ [] }) two-ranked).free in (
        λ e. decided.0 ((none-conflicting vs ws).0 (drop_of_length-le (couples_of vs ws) {i = 0} (omega arith))),
        λ f. subst (λ cs. length cs ≡ 0) (sym ((none-conflicting vs ws).1 (decided.1 f))) refl,
      )

  critical : (i : ℕ) → i < length plan.threads → (w : ℕ) → Memᴰ w (thread_pairs plan i) ↔ Critical plan.procs (thread_proc plan i) w
  critical i h w = pair_list-critical plan.procs r.ranks.rank r.ranks.sound (thread_proc plan i) (r.ranks.below (thread_proc plan i) (r.there i h)) w

  every : (c : Couple) → Memᴰ c (couples plan t u) ↔ CriticalCouple plan t u c
  unfolding couples
  every c =
      let all = couples_are (thread_pairs plan t) (thread_pairs plan u) c in (
        λ m. let x = all.0 m in
            record { of_first = (critical t b c.first).0 x.first-from; of_second = (critical u d c.second).0 x.second_from; crossing = x.cross },
        λ x. all.1
            (record { first-from = (critical t b c.first).1 x.of_first; second_from = (critical u d c.second).1 x.of_second; cross = x.crossing }),
      )

  pub couples-exact : CouplesExact plan t u
  unfolding couples
  couples-exact = record {
    every = every;
    ordered = couples-ordered (thread_pairs plan t) (thread_pairs plan u)
        (pair_list-ascends plan.procs (thread_proc plan t)) (pair_list-ascends plan.procs (thread_proc plan u));
    zero-exactly = zero-exactly;
  }

  -- a plan that is free of deadlocks has no two threads that cross
  pub free-uncrossed : u ≢ t → DeadlockFree plan.procs plan.threads → couples plan t u ≡ []
  unfolding couples
  free-uncrossed apart free =
      let vss = map (pair_list plan.procs) plan.threads in
      let at : (i : ℕ) → i < length plan.threads → get_or vss i [] ≡ thread_pairs plan i = λ i h. map_at (pair_list plan.procs) plan.threads i 0 [] h in
      uncrossed vss t u apart ((plan-characterisation plan r).free.1 free) (couples_of (thread_pairs plan t) (thread_pairs plan u))
      (rw (at t b, at u d))
