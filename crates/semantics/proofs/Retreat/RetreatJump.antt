-- The retreat: where no thread can go back, all jump to the begins of the holds that they have just ended (Lemma 3.13). There they have the same
-- counts, each is blocked by another, and fewer steps are left: an earlier deadlock.
use Prim.Native.Nat.{ℕ, suc, ◌-◌, ◌≤◌, ◌<◌}
use mathlib.Core.List.{List, []}
use mathlib.Core.Bool.{Bool, ◌&&◌}
use mathlib.Core.Logic.{⊎_elim}
use mathlib.Core.Path.{◌≡◌, refl, sym, ap, ◌∙◌, subst}
use native.Mathlib.Nat.{eq-zero-or-pos}
use native.Mathlib.Omega.{arith}
use lib.ListN.{length}
use lib.Dec.{T, ltb, ltb→lt, lt→ltb}
use Rattle.laws.proofs.Tests.{T_and, and_T, lt_or_le}
use Rattle.laws.specs.Sums.{total}
use Rattle.laws.proofs.Sums.{total_lt}
use Rattle.semantics.specs.Plan.{Block, hold, end, body_in}
use Rattle.semantics.specs.Run.{ThreadState, apart, everyone, run, counts}
use Rattle.semantics.specs.Stuck.{Stuck}
use Rattle.semantics.specs.Retreat.{joint, Retreat}
use Rattle.semantics.proofs.Thread.Balance.{balanced_plain}
use Rattle.semantics.proofs.Thread.MatchingHold.{matching_hold}
use Rattle.semantics.proofs.Gateway.Compatible.{Excludes}
use Rattle.semantics.proofs.Gateway.Apart.{apart→, apart←}
use Rattle.semantics.proofs.Gateway.Blocked.{Blocked, blocked-stuck}
use Rattle.semantics.proofs.Retreat.JointStates.{Executions, joint-at, in_joint, joint-counts, joint-absent, joint-balanced}
use Rattle.semantics.proofs.Retreat.RetreatRefused.{StepBackRefused}

-- s is an execution that stands at `a` just after the end of a hold: at h it stood before that hold, with the same counts
pub record MatchingBegin (s : ℕ → ThreadState) (a h : ℕ) : Type 0 where
  pub earlier : h < a
  pub claim : ℕ
  pub inside : Block
  pub following : Block
  pub stands : (s h).rest ≡ hold claim inside following
  pub ended : (s (a - 1)).rest ≡ end claim following
  pub same : (s h).count ≡ (s a).count

-- the threads that have taken a step
abbrev pub started : ℕ → (ℕ → ℕ) → ℕ → Bool
started n j k = ltb k n && ltb 0 (j k)

pub started_inv : (n : ℕ) (j : ℕ → ℕ) (k : ℕ) → T (started n j k) → (k < n) × (0 < j k)
started_inv n j k t = let p = T_and (ltb k n) (ltb 0 (j k)) t in (ltb→lt k n p.0, ltb→lt 0 (j k) p.1)

pub is-started : (n : ℕ) (j : ℕ → ℕ) (k : ℕ) → k < n → 0 < j k → T (started n j k)
is-started n j k b o = and_T (ltb k n) (ltb 0 (j k)) (lt→ltb k n b) (lt→ltb 0 (j k) o)

module _ {ps : List Block} {n : ℕ} {P : ℕ → List ℕ} {s : ℕ → ℕ → ThreadState} (x : Executions ps n P s) where
  -- the place before the hold that the last step ended
  pub matching_begin : (j : ℕ → ℕ) (k : ℕ) → k < n → 0 < j k → j k ≤ length (P k) → StepBackRefused n s j k → (h : ℕ) × MatchingBegin (s k) (j k) h
  matching_begin j k b o w r =
      let e : suc (j k - 1) ≡ j k = omega arith in
      let q = matching_hold x.bodies (x.bodies (x.proc k)) (balanced_plain (body_in ps (x.proc k)) (x.bodies (x.proc k))) (x.runs k b)
      r.claim r.following (j k - 1) (omega arith)
      r.ended (ap (λ a. (s k a).rest) e ∙ r.left) in (
        q.0,
        record {
          earlier = omega (arith, q.1);
          claim = r.claim;
          inside = q.2;
          following = r.following;
          stands = q.3;
          ended = r.ended;
          same = q.4 ∙ ap (λ a. (s k a).count) e;
        },
      )

  module _ (j h : ℕ → ℕ) (w : (i : ℕ) → i < n → j i ≤ length (P i)) (a : T (apart everyone (joint n s j)))
      (refused : (k : ℕ) → k < n → 0 < j k → StepBackRefused n s j k) (back : (k : ℕ) → k < n → 0 < j k → MatchingBegin (s k) (j k) (h k))
      (still : (k : ℕ) → k < n → j k ≡ 0 → h k ≡ 0) where
    jump_le : (i : ℕ) → i < n → h i ≤ j i
    jump_le i b = ⊎_elim (λ (e : j i ≡ 0). omega (arith, still i b e)) (λ (o : 0 < j i). omega (arith, (back i b o).earlier)) (eq-zero-or-pos (j i))

    same_count : (i : ℕ) → i < n → (s i (h i)).count ≡ (s i (j i)).count
    same_count i b =
        ⊎_elim (λ (e : j i ≡ 0). ap (λ a. (s i a).count) (still i b e ∙ sym e)) (λ (o : 0 < j i). (back i b o).same) (eq-zero-or-pos (j i))

    same-counts : (i : ℕ) → counts (joint n s h) i ≡ counts (joint n s j) i
    same-counts i = ⊎_elim (λ (b : i < n). joint-counts x h i b ∙ same_count i b ∙ sym (joint-counts x j i b))
        (λ (b : n ≤ i). ap (λ y. y.count) (joint-absent x h i b ∙ sym (joint-absent x j i b))) (lt_or_le i n)

    jump_apart : T (apart everyone (joint n s h))
    jump_apart = apart← everyone (joint n s h) (λ i k d _ _. rw (same-counts i, same-counts k) (apart→ everyone (joint n s j) a i k d tt tt))

    jump_blocked : (k : ℕ) → T (started n j k) → Blocked (started n j) (joint n s h) k
    jump_blocked k t =
        let q = started_inv n j k t in
        let r = refused k q.0 q.1 in
        let e = back k q.0 q.1 in
        let one-lock : r.claim ≡ e.claim = cc (r.ended, e.ended) in
        record {
          claim = e.claim;
          inside = e.inside;
          following = e.following;
          stands = ap (λ x. x.rest) (joint-at x h k q.0) ∙ e.stands;
          other = r.other;
          differs = r.differs;
          member = is-started n j r.other r.there r.began;
          theirs = rw (same-counts r.other, joint-counts x j r.other r.there)
              (subst (Excludes (s r.other (j r.other)).count) one-lock r.theirs);
        }

    jump_within : (i : ℕ) → i < n → h i ≤ length (P i)
    jump_within i b = omega (arith, jump_le i b, w i b)

    pub jump_stuck : (k : ℕ) → k < n → 0 < j k → Stuck ps (joint n s h) (started n j)
    jump_stuck k b o =
        blocked-stuck ps x.bodies (started n j) (joint n s h) (joint-balanced x h jump_within)
        (λ t m. in_joint x h t (started_inv n j t m).0) jump_blocked k (is-started n j k b o)

    pub jump_total : (k : ℕ) → k < n → 0 < j k → total n h < total n j
    jump_total k b o = total_lt n h j jump_le k b (back k b o).earlier

    -- the threads that have taken a step are stuck before those holds: start again from there
    pub retreat_jump : (bound k : ℕ) → k < n → 0 < j k → total n j ≤ bound → Retreat ps n P s bound h [] (joint n s h)
    unfolding run
    retreat_jump bound k b o c =
        record { within = jump_within; all_apart = jump_apart; leads = refl; stuck = (started n j, jump_stuck k b o); short = omega (arith, jump_total k b o) }
