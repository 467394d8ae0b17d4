-- A conflict is met by a run: executions of the threads in it by themselves lead to its pairs, where they are stuck, and from there the retreat leads
-- to the start.
use Prim.Native.Nat.{ℕ, ◌%◌, ◌≤◌, ◌<◌}
use mathlib.Core.List.{List, [], ◌∷◌}
use mathlib.Core.Bool.{Bool, true, false}
use mathlib.Core.Logic.{⊎_elim, ◌≢◌}
use mathlib.Core.Option.{some}
use mathlib.Core.Path.{◌≡◌, refl, sym, ap, ◌∙◌, subst}
use native.Mathlib.Nat.{le_refl}
use native.Mathlib.Omega.{arith}
use lib.ListN.{length, get_or}
use lib.Dec.{T, T_prop, eqb}
use Rattle.laws.proofs.Tests.{T-dec, eqb-cases}
use Rattle.laws.specs.Sums.{total}
use Rattle.laws.proofs.Sums.{total-le}
use Rattle.semantics.specs.Plan.{Block, hold, body_in, Plain}
use Rattle.semantics.specs.Run.{ThreadState, thread, initial, apart, everyone, run, start, nth, counts}
use Rattle.semantics.specs.Execution.{exec, state_after}
use Rattle.semantics.specs.Conflict.{Conflict}
use Rattle.semantics.specs.Retreat.{table, joint, Retreat}
use Rattle.semantics.proofs.Ground.Tables.{length-table, nth-table, is-table}
use Rattle.semantics.proofs.Thread.Execution.{execution, exec-last}
use Rattle.semantics.proofs.Gateway.Compatible.{HasClaim, Excludes, unlocked_excludes_none, compatible_or_contended, compatible-sym}
use Rattle.semantics.proofs.Gateway.Apart.{excludes_present, apart←}
use Rattle.semantics.proofs.Gateway.Blocked.{BalancedAll, Blocked, blocked-stuck}
use Rattle.semantics.proofs.Gateway.Invariant.{start-length, start-at}
use Rattle.semantics.proofs.Gateway.Projection.{projection, critical-exec}
use Rattle.semantics.proofs.Conflicts.Conflict.{conflict-apart, conflict_excludes}
use Rattle.semantics.proofs.Retreat.JointStates.{Executions, joint-balanced}
use Rattle.semantics.proofs.Retreat.RetreatRun.{DeadlockRun, retreat-run}

own-length : (t : ℕ) (es : List ℕ) → length (projection t es) ≤ length es
unfolding projection
own-length t [] = omega arith
own-length t (e ∷ es) =
    ⊎_elim (λ (p : (e % 8 ≡ t) × (eqb (e % 8) t ≡ true)). rw p.1 (omega (arith, own-length t es)))
    (λ (p : (e % 8 ≢ t) × (eqb (e % 8) t ≡ false)). rw p.1 (omega (arith, own-length t es)))
    (eqb-cases (e % 8) t)

-- an execution of thread i: to its pair if it is in S, and else of no steps
record Witness (ps : List Block) (ns : List ℕ) (S : ℕ → Bool) (c : Conflict ps ns S) (len : ℕ → ℕ) (i : ℕ) : Type 0 where
  steps : List ℕ
  last : ThreadState
  leads : exec ps (initial ps (get_or ns i 0)) steps ≡ some last
  short : length steps ≤ len i
  member : (s : T (S i)) → last ≡ thread (hold (c.critical i s).claim (c.critical i s).inside (c.critical i s).after) (c.critical i s).count
  other : (T (S i) → ⊥) → last ≡ initial ps (get_or ns i 0)

module _ (ps : List Block) (bodies : (q : ℕ) → Plain (body_in ps q)) (ns : List ℕ) (few : length ns ≤ 8) (S : ℕ → Bool) (c : Conflict ps ns S)
    (len : ℕ → ℕ) (steps-len : (t : ℕ) (s : T (S t)) → length (c.critical t s).steps ≤ len t) where
  witness : (i : ℕ) → Witness ps ns S c len i
  unfolding exec
  witness i =
      ⊎_elim
      (λ (s : T (S i)). record {
        steps = projection 0 (c.critical i s).steps;
        last = thread (hold (c.critical i s).claim (c.critical i s).inside (c.critical i s).after) (c.critical i s).count;
        leads = critical-exec ps (get_or ns i 0) (c.pair i) (c.critical i s);
        short = omega (arith, own-length 0 (c.critical i s).steps, steps-len i s);
        member = λ r. ap (λ q. thread (hold (c.critical i q).claim (c.critical i q).inside (c.critical i q).after) (c.critical i q).count)
            (T_prop (S i) s r);
        other = λ f. absurd (f s);
      })
      (λ (f : T (S i) → ⊥). record
      { steps = []; last = initial ps (get_or ns i 0); leads = refl; short = omega arith; member = λ s. absurd (f s); other = λ _. refl })
      (T-dec (S i))

  abbrev P : ℕ → List ℕ
  P i = (witness i).steps

  abbrev s : ℕ → ℕ → ThreadState
  s i a = state_after ps (initial ps (get_or ns i 0)) (P i) a

  abbrev executions : Executions ps (length ns) P s
  executions = record {
    bodies = bodies;
    few = few;
    proc = λ i. get_or ns i 0;
    runs = λ i _. execution ps (initial ps (get_or ns i 0)) (witness i).last (P i)
        (witness i).leads;
  }

  abbrev goal : ℕ → ℕ
  goal i = length (P i)

  abbrev there : List ThreadState
  there = joint (length ns) s goal

  at_last : (i : ℕ) → i < length ns → nth there i ≡ (witness i).last
  at_last i b =
      nth-table (length ns) (λ i. s i (goal i)) i b ∙ exec-last ps (initial ps (get_or ns i 0)) (witness i).last (P i) (witness i).leads

  at_pair : (i : ℕ) (m : T (S i))
      → nth there i ≡ thread (hold (c.critical i m).claim (c.critical i m).inside (c.critical i m).after) (c.critical i m).count
  at_pair i m = at_last i (c.present i m) ∙ (witness i).member m

  there-balanced : BalancedAll there
  there-balanced = joint-balanced executions goal (λ i _. le_refl (goal i))

  -- only the threads in S exclude anybody
  blocks-member : (i l : ℕ) → Excludes (counts there i) l → T (S i)
  blocks-member i l g =
      let b : i < length ns = subst (λ n. i < n) (length-table (length ns) (λ i. s i (goal i))) (excludes_present there i l g) in
      ⊎_elim (λ m. m)
      (λ (f : T (S i) → ⊥). absurd (unlocked_excludes_none l (subst (λ x. Excludes x.count l) (at_last i b ∙ (witness i).other f) g)))
      (T-dec (S i))

  pair-counts : (i : ℕ) (m : T (S i)) → counts there i ≡ (c.critical i m).count
  pair-counts i m = ap (λ x. x.count) (at_pair i m)

  there-apart : T (apart everyone there)
  there-apart = apart← everyone there (λ i j d _ _.
      ⊎_elim (λ k. k)
      (λ (q : (l : ℕ) × HasClaim (counts there i) l × Excludes (counts there j) l).
      ⊎_elim (λ k. compatible-sym (counts there j) (counts there i) k)
      (λ (p : (l : ℕ) × HasClaim (counts there j) l × Excludes (counts there i) l).
      let m = blocks-member i p.0 p.2 in
      let r = blocks-member j q.0 q.2 in
      rw (pair-counts i m, pair-counts j r) (conflict-apart ps bodies ns S c i j m r d))
      (compatible_or_contended (counts there j) (counts there i)))
      (compatible_or_contended (counts there i) (counts there j)))

  there-blocked : (t : ℕ) → T (S t) → Blocked S there t
  there-blocked t m =
      let w = conflict_excludes ps bodies ns S c t m in
      record {
        claim = (c.critical t m).claim;
        inside = (c.critical t m).inside;
        following = (c.critical t m).after;
        stands = ap (λ x. x.rest) (at_pair t m);
        other = w.0;
        differs = w.1;
        member = w.2;
        theirs = rw (pair-counts w.0 w.2) w.3;
      }

  start-table : table (length ns) (λ i. initial ps (get_or ns i 0)) ≡ start ps ns
  start-table = sym (is-table (length ns) (λ i. initial ps (get_or ns i 0)) (start ps ns) (start-length ps ns) (start-at ps ns))

  -- the run is no longer than the executions together
  pub conflict-run : DeadlockRun ps (start ps ns) (total (length ns) len)
  unfolding run
  conflict-run =
      let bound = total (length ns) len in
      let le : total (length ns) goal ≤ bound = total-le (length ns) goal len (λ i _. (witness i).short) in
      let member = c.member in
      let r : Retreat ps (length ns) P s bound goal [] there =
      record {
        within = λ i _. le_refl (goal i);
        all_apart = there-apart;
        leads = refl;
        stuck = (
          S,
          blocked-stuck ps bodies S there there-balanced
              (λ t m. subst (λ n. t < n) (sym (length-table (length ns) (λ i. s i (goal i)))) (c.present t m)) there-blocked member.0 member.1,
        );
        short = omega arith;
      } in
      subst (λ us. DeadlockRun ps us bound) start-table
      (retreat-run executions (total (length ns) goal) bound goal [] there (le_refl (total (length ns) goal)) r)
