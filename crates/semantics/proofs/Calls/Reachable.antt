-- The procedures that are reachable from threads. The mask that joins them has p where some thread's procedure is p or, by the masks, reaches it (`reachable-any`); so where the
-- masks have what is reached it has the reachable procedures (`reachable_by`, `reachable-is`).
use Prim.Native.Nat.{ℕ}
use mathlib.Core.Bool.{Bool, ◌||◌, or-false, or_assoc}
use mathlib.Core.List.Memᴰ
use mathlib.Core.List.{List, [], ◌∷◌, foldl, Memᴰ}
use mathlib.Core.Logic.{inl, inr, ⊎_elim, ◌↔◌}
use mathlib.Core.Path.{◌≡◌, sym, ◌∙◌}
use lib.Dec.{T, eqb, eqb→eq, eqb_refl}
use lib.ListN.{length, get_or}
use Rattle.laws.specs.Mask.{in_mask}
use Rattle.laws.proofs.Masks.{in_none, in_power, in_or}
use Rattle.laws.proofs.Tests.{T-or, or_T}
use Rattle.semantics.specs.Plan.{LockPlan}
use Rattle.semantics.specs.Calls.{Reaches, Reachable, named, through-calls}
use Rattle.semantics.specs.CallMasks.{reach_masks, reach_mask, join_reached, reachable_mask, reachable}
use Rattle.semantics.specs.Conflict.{any}
use Rattle.semantics.proofs.Ground.Members.{any-is, is_any}
use Rattle.semantics.proofs.Calls.Closure.{reaches-is}

module _ (masks : List ℕ) (p : ℕ) where
  -- n is p, or its mask has p
  abbrev leads : ℕ → Bool
  leads n = eqb p n || in_mask (get_or masks n 0) p

  reachable-any : (m : ℕ) (ns : List ℕ) → in_mask (foldl (join_reached masks) m ns) p ≡ (in_mask m p || any leads ns)
  unfolding join_reached any
  reachable-any m [] = sym (or-false (in_mask m p))
  reachable-any m (n ∷ ns) = reachable-any (join_reached masks m n) ns ∙ rw (in_or, in_or, in_power) (or_assoc (in_mask m p) (leads n) (any leads ns))

module _ (plan : LockPlan) (masks : List ℕ) (p : ℕ)
    (exact : (q : ℕ) → Memᴰ q plan.threads → T (in_mask (get_or masks q 0) p) ↔ Reaches plan.procs q p) where
  found : T (any (leads masks p) plan.threads) → Reachable plan p
  found t =
      let (n, m, u) = any-is (leads masks p) plan.threads t in
      ⊎_elim (λ e. named (Memᴰ.cast (eqb→eq p n e) m)) (λ r. through-calls m ((exact n m).0 r)) (T-or (eqb p n) (in_mask (get_or masks n 0) p) u)

  counted : Reachable plan p → T (any (leads masks p) plan.threads)
  counted (named m) = is_any (leads masks p) plan.threads p m (or_T (eqb p p) _ (inl (eqb_refl p)))
  counted (through-calls {q} m r) = is_any (leads masks p) plan.threads q m (or_T (eqb p q) _ (inr ((exact q m).1 r)))

  pub reachable_by : T (in_mask (reachable_mask masks plan.threads) p) ↔ Reachable plan p
  reachable_by = rw (reachable-any masks p 0 plan.threads, in_none p) (found, counted)

-- the masks that are closed over the calls have what is reached
pub reachable-is : (plan : LockPlan) (p : ℕ) → T (reachable plan p) ↔ Reachable plan p
unfolding reach_mask
reachable-is plan p = reachable_by plan (reach_masks (length plan.procs) plan.procs) p (λ q m. reaches-is plan.procs q p)
