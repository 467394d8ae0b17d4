-- The sizes found so far. A procedure of which all that it reaches are found gets its size from those of its callees (`size_by_callees`). A round finds all of the next rank, so
-- that after d rounds those of a rank below d are found, and ranks are below the number of procedures.
use Prim.Native.Nat.{ℕ, ◌+◌, ◌<◌, ◌≤◌, min}
use native.Mathlib.Omega.{arith}
use mathlib.Core.Path.{◌≡◌, refl, sym, ap, subst, ◌∙◌}
use mathlib.Core.Bool.{Bool, true}
use mathlib.Core.List.{List}
use mathlib.Core.Logic.{inl, inr, ⊎_elim, ◌≢◌}
use native.Mathlib.Nat.{eq-or-lt_of_le}
use lib.Bits.{bit_or}
use lib.Dec.{T, eqb→eq}
use lib.ListN.{length, get_or, set, length-set}
use lib.Seq.{get_or-set_same, get_or-set_other}
use Rattle.limits.specs.Limits.{max_procs, size_room}
use Rattle.laws.specs.Mask.{in_mask}
use Rattle.laws.proofs.Masks.{in_none, in_or, within_or, or_within}
use Rattle.laws.proofs.Tests.{T-or, or_T, eq→eqb, eq_or_ne}
use Rattle.semantics.specs.Plan.{Block}
use Rattle.semantics.specs.Calls.{Reaches, directly}
use Rattle.semantics.specs.Sizes.{size_of}
use Rattle.semantics.proofs.Calls.Ranks.{reach-falls, reached-present}
use Rattle.semantics.proofs.Analysis.CutOffSizes.{size_by_callees}
use Rattle.plan.specs.Settled.{PlanTable, table_plan}
use Rattle.procs.specs.declared.Layout.{Layout}
use Rattle.reach.specs.Passes.{proc_bit}
use Rattle.reach.proofs.Called.{in_proc_bit}
use Rattle.sizes.specs.Passes.{known_size, size_from}
use Rattle.sizes.specs.Sized.{Sized, SizesAsked, SizesFound, FoundAt, FoundRound}
use Rattle.sizes.proofs.Costs.{start_cost}

-- ---- a procedure

module _ (mask p before : ℕ) where
  pub found_already : (q : Bool) → q ≡ in_mask before p → q ≡ true → FoundAt mask p before before
  found_already q e z = record { kept = λ k t. t; here = λ _. subst T (sym z ∙ e) tt }

  pub not_found : (bit_or mask before ≡ before → ⊥) → FoundAt mask p before before
  not_found z = record { kept = λ k t. t; here = λ c. absurd (z (within_or mask before c)) }

  pub found-now : (b : ℕ) → p < max_procs → b ≡ proc_bit p → FoundAt mask p before (bit_or before b)
  found-now b h e = record {
    kept = λ k t. subst T (sym (in_or before b k)) (or_T (in_mask before k) (in_mask b k) (inl t));
    here = λ _. subst T (sym (in_or before b p)) (or_T (in_mask before p) (in_mask b p) (inr (subst T (sym (in_proc_bit p b p h e)) (eq→eqb p p refl))));
  }

module _ (ws : List ℕ) (l : Layout) (masks sizes : List ℕ) (p found v b : ℕ) (a : SizesAsked ws l masks) (f : SizesFound ws sizes found) (g : p < l.procs) where
  abbrev ps : List Block
  ps = (table_plan ws).procs

  h : p < length ps
  h = omega (arith, a.laid.procs-all)

  few : p < max_procs
  few = omega (arith, h, a.plan.settled.few-procs)

  -- the procedure's own size, where all that it reaches are found
  size-now : bit_or (get_or masks p 0) found ≡ found → v ≡ size_from ws sizes (get_or l.starts p 0) → v ≡ min size_room (size_of ps p)
  unfolding size_from
  size-now e k =
      k ∙ ap (min size_room) (start_cost ws l.starts a.plan a.laid.starts_there (known_size sizes) p h)
      ∙ size_by_callees size_room ps a.ranks (known_size sizes) p h (λ q c.
      let x : Reaches ps p q = directly c in
      f.entries q (reached-present ps a.plan.settled.callees_present x) (or_within (get_or masks p 0) found q e ((a.reach.exact p h q).1 x)))

  pub size-put : (bit_or (get_or masks p 0) found ≡ found) → v ≡ size_from ws sizes (get_or l.starts p 0) → b ≡ proc_bit p → SizesFound ws (set sizes p v) (bit_or found b)
  size-put e c k = record {
    room = omega (arith, f.room, length-set sizes p v);
    entries = λ q i t. ⊎_elim
        (λ (z : q ≡ p). rw z (get_or-set_same sizes p v 0 (omega (arith, f.room, h)) ∙ size-now e c))
        (λ (d : q ≢ p).
        get_or-set_other sizes p q v 0 d
        ∙ f.entries q i (⊎_elim (λ x. x) (λ x. absurd (d (eqb→eq q p (subst T (in_proc_bit p b q few k) x)))) (T-or (in_mask found q) (in_mask b q) (subst T (in_or found b q) t))))
        (eq_or_ne q p);
  }

  pub put-found : b ≡ proc_bit p → FoundAt (get_or masks p 0) p found (bit_or found b)
  put-found k = found-now (get_or masks p 0) p found b few k

-- ---- a round

pub round-none : (masks : List ℕ) (found : ℕ) → FoundRound masks 0 found found
round-none masks found = record { kept = λ q t. t; here = λ p h. absurd (omega arith) }

pub round-more : (masks : List ℕ) (p before found after : ℕ) → FoundRound masks p before found → FoundAt (get_or masks p 0) p found after → FoundRound masks (p + 1) before after
round-more masks p before found after r x = record {
  kept = λ q t. x.kept q (r.kept q t);
  here = λ q h c. ⊎_elim
      (λ (e : q ≡ p). subst (λ n. T (in_mask after n)) (sym e) (x.here (λ k t. r.kept k (c k (subst (λ n. T (in_mask (get_or masks n 0) k)) (sym e) t)))))
      (λ (l : q < p). x.kept q (r.here q l c))
      (eq-or-lt_of_le (omega arith));
}

pub round-done : (masks : List ℕ) (p n before after : ℕ) → p ≤ n → n ≤ p → FoundRound masks p before after → FoundRound masks n before after
round-done masks p n before after h k r = let z : p ≡ n = omega arith in rw z at r

-- ---- all rounds

-- those of a rank below d are found
pub record RanksFound (ws : List ℕ) (l : Layout) (masks : List ℕ) (d found : ℕ) : Type 0 where
  pub asked : SizesAsked ws l masks
  pub below : (p : ℕ) → p < length (table_plan ws).procs → asked.ranks.rank p < d → T (in_mask found p)

module _ (ws : List ℕ) (l : Layout) (masks : List ℕ) where
  pub ranks-none : SizesAsked ws l masks → RanksFound ws l masks 0 0
  ranks-none a = record { asked = a; below = λ p h i. absurd (omega arith) }

  pub ranks-more : (d before after : ℕ) → RanksFound ws l masks d before → FoundRound masks l.procs before after → RanksFound ws l masks (d + 1) after
  ranks-more d before after r x =
      let ps = (table_plan ws).procs in
      let a = r.asked in
      record {
        asked = a;
        below = λ p h i. x.here p (omega (arith, a.laid.procs-all)) (λ q t.
            let y : Reaches ps p q = (a.reach.exact p h q).0 t in
            r.below q (reached-present ps a.plan.settled.callees_present y) (omega (arith, reach-falls ps a.ranks.rank a.ranks.sound y)));
      }

  pub all_found : (sizes : List ℕ) (d found : ℕ) → l.procs ≤ d → RanksFound ws l masks d found → SizesFound ws sizes found → Sized ws sizes
  all_found sizes d found h r f =
      record { room = f.room; entries = λ p k. f.entries p k (r.below p k (omega (arith, r.asked.ranks.below p k, r.asked.laid.procs-all))) }

pub sizes-none : (ws sizes : List ℕ) → PlanTable ws → max_procs ≤ length sizes → SizesFound ws sizes 0
sizes-none ws sizes t h = record { room = omega (arith, t.settled.few-procs); entries = λ p k x. absurd (subst T (in_none p) x) }

pub ruleset rounds = (round-none, round-more, round-done)
