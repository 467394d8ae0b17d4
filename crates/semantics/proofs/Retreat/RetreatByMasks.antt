-- The retreat as a program goes it: positions in a list, what is had as masks, and the hold to go back to found by a scan.
use Prim.Native.Nat.{ℕ, suc, ◌-◌, ◌≤◌, ◌<◌}
use mathlib.Core.List.{List}
use mathlib.Core.Logic.{⊎_elim, ◌≢◌}
use mathlib.Core.Path.{◌≡◌, sym, ap, ◌∙◌, subst}
use native.Mathlib.Omega.{arith}
use lib.ListN.{length, get_or, set}
use lib.Seq.{get_or-set_same, get_or-set_other}
use lib.Dec.{T}
use Rattle.laws.proofs.Tests.{lt_or_le}
use Rattle.semantics.specs.Plan.{Block, body_in}
use Rattle.semantics.specs.Run.{ThreadState, compatible, apart, everyone, nth, counts}
use Rattle.semantics.specs.Conflict.{CompatibleIn}
use Rattle.semantics.specs.Retreat.{joint, had_mask, position_of}
use Rattle.semantics.proofs.Thread.Transitions.{move_transition}
use Rattle.semantics.proofs.Thread.Balance.{balanced_plain, zero_by_end}
use Rattle.semantics.proofs.Thread.MatchingHold.{matching_hold_scan}
use Rattle.semantics.proofs.Gateway.Compatible.{compatible-held, held-compatible}
use Rattle.semantics.proofs.Gateway.Apart.{compatible-empty, apart→, apart←, Clash, apart_or_clash, clash-not-apart}
use Rattle.semantics.proofs.Retreat.JointStates.{Executions, earlier, joint-counts, in_joint, joint-absent, state-balanced, last_step}
use Rattle.semantics.proofs.Retreat.RetreatStep.{Lowered}
use Rattle.semantics.proofs.Retreat.RetreatJump.{MatchingBegin}

-- ---- what a thread has, as a mask

pub apart_of_masks : (ts : List ThreadState) → ((i k : ℕ) → i ≢ k → CompatibleIn (had_mask (nth ts i)) (had_mask (nth ts k))) → T (apart everyone ts)
apart_of_masks ts h = apart← everyone ts (λ i k d _ _. compatible-held (counts ts i) (counts ts k) (h i k d))

pub masks_of-apart : (ts : List ThreadState) → T (apart everyone ts) → (i k : ℕ) → i ≢ k → CompatibleIn (had_mask (nth ts i)) (had_mask (nth ts k))
masks_of-apart ts a i k d = held-compatible (counts ts i) (counts ts k) (apart→ everyone ts a i k d tt tt)

-- ---- positions in a list

pub lowered_set : (positions : List ℕ) (k : ℕ) → k < length positions → 0 < position_of positions k → Lowered k (position_of positions) (position_of (set positions k (position_of positions k - 1)))
lowered_set positions k b o = record {
  one_less = rw (get_or-set_same positions k (position_of positions k - 1) 0 b) (omega arith);
  others = λ i d. get_or-set_other positions k i (position_of positions k - 1) 0 d;
}

module _ {ps : List Block} {n : ℕ} {P : ℕ → List ℕ} {s : ℕ → ℕ → ThreadState} (x : Executions ps n P s) where
  module _ (j : ℕ → ℕ) (w : (i : ℕ) → i < n → j i ≤ length (P i)) (a : T (apart everyone (joint n s j))) (k : ℕ) (b : k < n) (o : 0 < j k) where
    -- thread k may go back by a step just if what it held then is held by no other
    pub step_back-permitted : ((i : ℕ) → i < n → i ≢ k → CompatibleIn (had_mask (s k (j k - 1))) (had_mask (s i (j i))))
        → T (apart everyone (earlier n s j k))
    step_back-permitted h =
        ⊎_elim (λ t. t)
        (λ (r : Clash everyone (joint n s j) k (s k (j k - 1))).
        ⊎_elim
        (λ (b : r.other < n). absurd (r.against
        (rw (joint-counts x j r.other b)
        (compatible-held (s k (j k - 1)).count (s r.other (j r.other)).count (h r.other b r.differs)))))
        (λ (b : n ≤ r.other). absurd (r.against
        (subst (λ y. T (compatible (s k (j k - 1)).count y.count)) (sym (joint-absent x j r.other b))
        (compatible-empty (s k (j k - 1)).count))))
        (lt_or_le r.other n))
        (apart_or_clash everyone (joint n s j) k (s k (j k - 1)) (in_joint x j k b) (apart→ everyone (joint n s j) a))

    pub step_back-refused : (i : ℕ) → i < n → i ≢ k → (CompatibleIn (had_mask (s k (j k - 1))) (had_mask (s i (j i))) → ⊥)
        → T (apart everyone (earlier n s j k)) → ⊥
    step_back-refused i c d e t =
        clash-not-apart everyone (joint n s j) k (s k (j k - 1)) (in_joint x j k b) tt
        (record {
          other = i;
          differs = d;
          member = tt;
          against = λ q. e
              (held-compatible (s k (j k - 1)).count (s i (j i)).count (rw (joint-counts x j i c) at q));
        })
        t

    -- where the last step gave up claim l, the place to go back to is the last at which l was not had
    pub matching_begin_scan : (l h : ℕ) → 0 < get_or (s k (j k - 1)).count l 0 → get_or (s k (j k)).count l 0 ≡ 0 → h < j k - 1
        → get_or (s k h).count l 0 ≡ 0
        → ((i : ℕ) → h < i → i < j k → 0 < get_or (s k i).count l 0) → MatchingBegin (s k) (j k) h
    matching_begin_scan l h g z c without between =
        let e : suc (j k - 1) ≡ j k = omega arith in
        let f = zero_by_end ps x.bodies
        (move_transition ps (get_or (P k) (j k - 1) 0) (s k (j k - 1)).rest (s k (j k - 1)).count (s k (j k)) (last_step x j k b o (w k b)))
        (state-balanced x k (j k - 1) b (omega (arith, w k b))) l g z in
        let r = matching_hold_scan x.bodies (x.bodies (x.proc k)) (balanced_plain (body_in ps (x.proc k)) (x.bodies (x.proc k)))
        (x.runs k b) l f.0 (j k - 1) (omega (arith, w k b)) f.1
        (ap (λ a. (s k a).rest) e ∙ f.2) (ap (λ a. get_or (s k a).count l 0) e ∙ z) h c without (λ i u v. between i u (omega arith)) in
        record { earlier = omega arith; claim = l; inside = r.0; following = f.0; stands = r.1; ended = f.1; same = r.2 ∙ ap (λ a. (s k a).count) e }
