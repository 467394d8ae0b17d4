-- The retreat: why a thread cannot go back. Its last step ended a hold of a claim from which another thread, which has taken a step too, now excludes it: nothing
-- but an end makes a count smaller.
use Prim.Native.Nat.{ℕ, ◌-◌, ◌≤◌, ◌<◌}
use mathlib.Core.List.{List}
use mathlib.Core.Logic.{⊎_elim, ◌≢◌}
use mathlib.Core.Path.{◌≡◌, sym, subst}
use native.Mathlib.Nat.{eq-zero-or-pos}
use native.Mathlib.Omega.{arith}
use lib.ListN.{length, get_or}
use lib.Dec.{T}
use Rattle.semantics.specs.Plan.{Block, end}
use Rattle.semantics.specs.Run.{ThreadState, compatible, apart, everyone, counts}
use Rattle.semantics.specs.Retreat.{joint}
use Rattle.semantics.proofs.Thread.Transitions.{move_transition}
use Rattle.semantics.proofs.Thread.Balance.{zero_by_end}
use Rattle.semantics.proofs.Gateway.Compatible.{HasClaim, Excludes, compatible_or_contended, excluded-not-held}
use Rattle.semantics.proofs.Gateway.Apart.{excludes_present, apart→, Clash, apart_or_clash}
use Rattle.semantics.proofs.Retreat.JointStates.{Executions, earlier, in_joint, of_joint, joint-counts, state-balanced, start_excludes_none, last_step}

-- what refuses thread k's last step: that step ended a hold of a claim from which another thread, which has taken a step too, excludes it
pub record StepBackRefused (n : ℕ) (s : ℕ → ℕ → ThreadState) (j : ℕ → ℕ) (k : ℕ) : Type 0 where
  pub claim : ℕ
  pub following : Block
  pub other : ℕ
  pub ended : (s k (j k - 1)).rest ≡ end claim following
  pub left : (s k (j k)).rest ≡ following
  pub held-before : 0 < get_or (s k (j k - 1)).count claim 0
  pub freed : get_or (s k (j k)).count claim 0 ≡ 0
  pub differs : other ≢ k
  pub there : other < n
  pub began : 0 < j other
  pub theirs : Excludes (s other (j other)).count claim

module _ {ps : List Block} {n : ℕ} {P : ℕ → List ℕ} {s : ℕ → ℕ → ThreadState} (x : Executions ps n P s) where
  pub retreat-refused : (j : ℕ → ℕ) (k : ℕ) → ((i : ℕ) → i < n → j i ≤ length (P i)) → T (apart everyone (joint n s j)) → k < n → 0 < j k
      → (T (apart everyone (earlier n s j k)) → ⊥) → StepBackRefused n s j k
  retreat-refused j k w a b o f =
      ⊎_elim (λ t. absurd (f t))
      (λ (r : Clash everyone (joint n s j) k (s k (j k - 1))).
      ⊎_elim (λ c. absurd (r.against c))
      (λ (q : (l : ℕ) × HasClaim (s k (j k - 1)).count l × Excludes (counts (joint n s j) r.other) l).
      let l = q.0 in
      let there : r.other < n = of_joint x j r.other (excludes_present (joint n s j) r.other l q.2) in
      let theirs : Excludes (s r.other (j r.other)).count l = rw (joint-counts x j r.other there) at q.2 in
      let apart : T (compatible (s k (j k)).count (s r.other (j r.other)).count) =
      rw (joint-counts x j k b, joint-counts x j r.other there) at (apart→ everyone (joint n s j) a k r.other (λ e. r.differs (sym e)) tt tt) in
      let z = excluded-not-held (s k (j k)).count (s r.other (j r.other)).count apart l theirs in
      let m = zero_by_end ps x.bodies
      (move_transition ps (get_or (P k) (j k - 1) 0) (s k (j k - 1)).rest (s k (j k - 1)).count (s k (j k)) (last_step x j k b o (w k b)))
      (state-balanced x k (j k - 1) b (omega (arith, w k b))) l q.1 z in
      let began : 0 < j r.other =
      ⊎_elim (λ (e : j r.other ≡ 0). absurd
      (start_excludes_none x r.other l there (subst (λ a. Excludes (s r.other a).count l) e theirs))) (λ h. h)
      (eq-zero-or-pos (j r.other)) in
      record {
        claim = l;
        following = m.0;
        other = r.other;
        ended = m.1;
        left = m.2;
        held-before = q.1;
        freed = z;
        differs = r.differs;
        there = there;
        began = began;
        theirs = theirs;
      })
      (compatible_or_contended (s k (j k - 1)).count (counts (joint n s j) r.other)))
      (apart_or_clash everyone (joint n s j) k (s k (j k - 1)) (in_joint x j k b) (apart→ everyone (joint n s j) a))
