-- The buffer of steps: what stands in front of the place where a step is put stays, and so does what a walk goes back to.
use Prim.Native.Nat.{ℕ, ◌+◌, ◌%◌, ◌<◌, ◌≤◌, min}
use native.Mathlib.Numerals.{add-one}
use native.Mathlib.Omega.{arith}
use native.Mathlib.Nat.{le_refl}
use mathlib.Core.List.{List}
use mathlib.Core.Logic.{◌⊎◌, ⊎_elim}
use mathlib.Core.Path.{◌≡◌, refl, sym, ap, ◌∙◌}
use lib.ListN.{length, take, set, length-set}
use lib.Seq.{take-take, take-set-le, take-suc-set}
use Rattle.semantics.specs.Paths.{step_of}
use Rattle.columns.specs.Columns.{steps}
use Rattle.columns.proofs.Steps.{steps-length, steps-set}
use Rattle.paths.specs.Walks.{FrontKept, PutAt}

pub kept_same : (s : List ℕ) (n : ℕ) → n ≤ length s → FrontKept s n s n
kept_same s n h = record { grows = le_refl n; room = h; size = refl; same = refl }

shorter : (n k : ℕ) (s t : List ℕ) → n ≤ k → take k s ≡ take k t → take n s ≡ take n t
shorter n k s t h e = sym (take-take n k s h) ∙ ap (take n) e ∙ take-take n k t h

pub kept_then : {s s₁ s₂ : List ℕ} {n k j : ℕ} → FrontKept s n s₁ k → FrontKept s₁ k s₂ j → FrontKept s n s₂ j
kept_then {s} {s₁} {s₂} {n} {k} a b = record {
  grows = omega arith;
  room = b.room;
  size = b.size ∙ a.size;
  same = shorter n k s₂ s₁ a.grows b.same ∙ a.same;
}

-- back to the first n
pub kept_back : {s s₁ s₂ : List ℕ} {n k j : ℕ} → FrontKept s n s₁ k → FrontKept s₁ n s₂ j → FrontKept s n s₂ j
kept_back a b = record { grows = b.grows; room = b.room; size = b.size ∙ a.size; same = b.same ∙ a.same }

-- ---- a step that is put

put_stored : (s : List ℕ) (n e : ℕ) → n < length s → PutAt s n e (n + 1) (set s n e)
put_stored s n e h = record {
  buffer = record { grows = omega arith; room = rw (length-set s n e) (omega arith); size = length-set s n e; same = take-set-le n s n e (le_refl n) };
  one = le_refl (n + 1);
  put = λ k. rw add-one (take-suc-set s n e h);
}

module _ (cs ms : List ℕ) (n c m : ℕ) where
  pub put_both : c < 4 → n < length cs → n < length ms → PutAt (steps cs ms) n (step_of c m) (n + 1) (steps (set cs n c) (set ms n m))
  put_both k h l =
      let e : c % 4 ≡ c = omega arith in
      let long : n < length (steps cs ms) = omega (arith, steps-length cs ms) in
      rw (← steps-set cs ms n c m) (rw e (put_stored (steps cs ms) n (step_of c m) long))

  pub put_full : ((n < length cs) × (length ms ≤ n)) ⊎ (length cs ≤ n) → n ≤ length (steps cs ms) → PutAt (steps cs ms) n (step_of c m) n (steps cs ms)
  put_full h k =
      let full : min (length cs) (length ms) ≤ n = ⊎_elim (λ (l : (n < length cs) × (length ms ≤ n)). omega arith) (λ (l : length cs ≤ n). omega arith) h in
      record { buffer = kept_same (steps cs ms) n k; one = omega arith; put = λ l. absurd (omega (arith, steps-length cs ms)) }
