-- While the machine of rule 4 reads a plan, the brackets that the pass counts are those opened behind the last `(proc` and not closed again (`open_step`). Where a
-- procedure is open their number goes with the machine's stack; elsewhere all are closed.
use Prim.Native.Nat.{ℕ, suc, ◌+◌, ◌<◌, ◌≤◌}
use mathlib.Core.Bool.{false}
use mathlib.Core.List.{List, [], ◌∷◌, ◌++◌, append_assoc}
use mathlib.Core.Logic.{◌↔◌}
use mathlib.Core.Path.{◌≡◌, refl, sym, ap, ◌∙◌}
use native.Mathlib.Omega.{arith}
use Rattle.limits.specs.Limits.{max_brackets}
use Rattle.text.specs.declared.Form.{Form}
use Rattle.text.specs.declared.Form.TheVariants.{Plan, Proc, Thread, Close, Skip, Call, Hold, Loop, Either, One, Two, Share}
use Rattle.text.specs.Forms.{kind_in, is_proc, is_bracket, is_close}
use Rattle.plan.specs.declared.Counts.{Counts}
use Rattle.plan.specs.Limits.{counted, count_if}
use Rattle.plan.specs.declared.Bracket.{Bracket}
use Rattle.plan.specs.declared.Bracket.TheVariants.{OfStatement as statement, OfOne as one, OfTwo as two}
use Rattle.plan.proofs.States.{State, initial, first-proc, next-proc, next-thread, finished, in_block, awaits_one, awaits_two, ends-either}
use Rattle.plan.proofs.States.{Step, begins-plan, first, next, first-thread, more-threads, ends-plan, skips, calls, holds, shares, loops, chooses}
use Rattle.plan.proofs.States.{begins-one, begins-two, ends-proc, ends-statement, ends-one, ends-two, ends-choice}
use Rattle.demands.specs.Broken.{TooDeep}
use Rattle.demands.proofs.Counting as Counting
use Rattle.demands.proofs.Counting.{count_snoc, no_proc_in, inside-unique}

-- the forms behind the last `(proc`
pub record Inside (fs : List Form) : Type 0 where
  pub earlier : List Form
  pub inside : List Form
  pub split : fs ≡ earlier ++ Proc ∷ inside
  pub last : count_if is_proc inside ≡ 0

-- one form more
inside-more : (fs : List Form) (f : Form) → is_proc f ≡ false → Inside fs → Inside (fs ++ f ∷ [])
inside-more fs f h x = record {
  earlier = x.earlier;
  inside = x.inside ++ f ∷ [];
  split = ap (λ gs. gs ++ f ∷ []) x.split ∙ append_assoc x.earlier (Proc ∷ x.inside) (f ∷ []);
  last = count_snoc is_proc x.inside f ∙ rw h (omega (arith, x.last));
}

inside_new : (fs : List Form) → Inside (fs ++ Proc ∷ [])
unfolding count_if
inside_new fs = record { earlier = fs; inside = []; split = refl; last = refl }

-- k brackets are open in the procedure; d are counted
pub record Within (k : ℕ) (fs : List Form) (d : ℕ) : Type 0 where
  pub in_proc : Inside fs
  pub unclosed : count_if is_bracket in_proc.inside ≡ count_if is_close in_proc.inside + k
  pub depth : d ≡ k

-- the last procedure is closed
pub record Ended (fs : List Form) (d : ℕ) : Type 0 where
  pub in_proc : Inside fs
  pub closed : count_if is_bracket in_proc.inside ≤ count_if is_close in_proc.inside
  pub depth : d ≡ 0

-- no procedure has begun
pub record Unbegun (fs : List Form) (d : ℕ) : Type 0 where
  pub none-begun : count_if is_proc fs ≡ 0
  pub depth : d ≡ 0

-- the brackets that a stack stands for: an either is open around its one or two
unfoldable pub levels : List Bracket → ℕ
levels [] = 0
levels (statement ∷ ks) = suc (levels ks)
levels (one ∷ ks) = suc (suc (levels ks))
levels (two ∷ ks) = suc (suc (levels ks))

unfoldable pub Open : State → List Form → ℕ → Type 0
Open initial = Unbegun
Open first-proc = Unbegun
Open next-proc = Ended
Open next-thread = Ended
Open finished = Ended
Open (in_block e ks) = Within (levels ks)
Open (awaits_one ks) = Within (suc (levels ks))
Open (awaits_two ks) = Within (suc (levels ks))
Open (ends-either ks) = Within (suc (levels ks))

-- one form more
module _ (fs : List Form) (f : Form) (d e : ℕ) (other : is_proc f ≡ false) where
  within_more : (k m : ℕ) → Counting.one is_bracket f + k ≡ Counting.one is_close f + m → e ≡ m → Within k fs d → Within m (fs ++ f ∷ []) e
  unfolding inside-more
  within_more k m h i w =
      let x = w.in_proc.inside in
      record {
        in_proc = inside-more fs f other w.in_proc;
        unclosed = omega (arith, w.unclosed, count_snoc is_bracket x f, count_snoc is_close x f);
        depth = i;
      }

  within-ended : Counting.one is_bracket f ≡ 0 → 1 ≤ Counting.one is_close f → e ≡ 0 → Within 0 fs d → Ended (fs ++ f ∷ []) e
  unfolding inside-more
  within-ended h k i w =
      let x = w.in_proc.inside in
      record {
        in_proc = inside-more fs f other w.in_proc;
        closed = omega (arith, w.unclosed, count_snoc is_bracket x f, count_snoc is_close x f);
        depth = i;
      }

  ended-more : Counting.one is_bracket f ≡ 0 → e ≡ 0 → Ended fs d → Ended (fs ++ f ∷ []) e
  unfolding inside-more
  ended-more h i w =
      let x = w.in_proc.inside in
      record {
        in_proc = inside-more fs f other w.in_proc;
        closed = omega (arith, w.closed, count_snoc is_bracket x f, count_snoc is_close x f);
        depth = i;
      }

new_within : (fs : List Form) (d : ℕ) → d ≡ 0 → Within 0 (fs ++ Proc ∷ []) d
unfolding count_if inside_new
new_within fs d e = record { in_proc = inside_new fs; unclosed = omega arith; depth = e }

pub open_step : {s t : State} {f : Form} → Step s f t → (fs : List Form) (c : Counts) → Open s fs c.depth → Open t (fs ++ f ∷ []) (counted c f).depth
unfolding Open levels counted kind_in
open_step begins-plan fs c x = record { none-begun = count_snoc is_proc fs Plan ∙ omega (arith, x.none-begun); depth = x.depth }
open_step first fs c x = new_within fs c.depth x.depth
open_step next fs c x = new_within fs c.depth x.depth
open_step (first-thread {n}) fs c x = ended-more fs (Thread n) _ _ refl refl x.depth x
open_step (more-threads {n}) fs c x = ended-more fs (Thread n) _ _ refl refl x.depth x
open_step ends-plan fs c x = ended-more fs Close _ _ refl refl (omega (arith, x.depth)) x
open_step (skips {ks}) fs c x = within_more fs Skip _ _ refl (levels ks) (levels ks) refl x.depth x
open_step (calls {ks} {n}) fs c x = within_more fs (Call n) _ _ refl (levels ks) (levels ks) refl x.depth x
open_step (holds {ks} {l}) fs c x = within_more fs (Hold l) _ _ refl (levels ks) (suc (levels ks)) (omega arith) (omega (arith, x.depth)) x
open_step (shares {ks} {l}) fs c x = within_more fs (Share l) _ _ refl (levels ks) (suc (levels ks)) (omega arith) (omega (arith, x.depth)) x
open_step (loops {ks}) fs c x = within_more fs Loop _ _ refl (levels ks) (suc (levels ks)) (omega arith) (omega (arith, x.depth)) x
open_step (chooses {ks}) fs c x = within_more fs Either _ _ refl (levels ks) (suc (levels ks)) (omega arith) (omega (arith, x.depth)) x
open_step (begins-one {ks}) fs c x = within_more fs One _ _ refl (suc (levels ks)) (suc (suc (levels ks))) (omega arith) (omega (arith, x.depth)) x
open_step (begins-two {ks}) fs c x = within_more fs Two _ _ refl (suc (levels ks)) (suc (suc (levels ks))) (omega arith) (omega (arith, x.depth)) x
open_step ends-proc fs c x = within-ended fs Close _ _ refl refl (omega arith) (omega (arith, x.depth)) x
open_step (ends-statement {ks}) fs c x = within_more fs Close _ _ refl (suc (levels ks)) (levels ks) (omega arith) (omega (arith, x.depth)) x
open_step (ends-one {ks}) fs c x = within_more fs Close _ _ refl (suc (suc (levels ks))) (suc (levels ks)) (omega arith) (omega (arith, x.depth)) x
open_step (ends-two {ks}) fs c x = within_more fs Close _ _ refl (suc (suc (levels ks))) (suc (levels ks)) (omega arith) (omega (arith, x.depth)) x
open_step (ends-choice {ks}) fs c x = within_more fs Close _ _ refl (suc (levels ks)) (levels ks) (omega arith) (omega (arith, x.depth)) x

-- ---- more than 16

module _ (fs : List Form) (d : ℕ) where
  unbegun_deep : Unbegun fs d → (max_brackets < d) ↔ TooDeep fs
  unbegun_deep x = (λ h. absurd (omega (arith, x.depth)), λ t. absurd (no_proc_in t.earlier t.inside (rw t.split at x.none-begun)))

  same-inside : (x : Inside fs) (t : TooDeep fs) → t.inside ≡ x.inside
  same-inside x t = inside-unique t.earlier x.earlier t.inside x.inside (sym t.split ∙ x.split) t.last x.last

  within-deep : (k : ℕ) → Within k fs d → (max_brackets < d) ↔ TooDeep fs
  within-deep k w =
      let x = w.in_proc in (
        λ h. record { earlier = x.earlier; inside = x.inside; split = x.split; last = x.last; unclosed = omega (arith, w.unclosed, w.depth) },
        λ t. omega (arith, w.unclosed, w.depth, rw (same-inside x t) at t.unclosed),
      )

  ended-deep : Ended fs d → (max_brackets < d) ↔ TooDeep fs
  ended-deep w = (λ h. absurd (omega (arith, w.depth)), λ t. absurd (omega (arith, w.closed, rw (same-inside w.in_proc t) at t.unclosed)))

  pub open_deep : (s : State) → Open s fs d → (max_brackets < d) ↔ TooDeep fs
  unfolding Open
  open_deep initial x = unbegun_deep x
  open_deep first-proc x = unbegun_deep x
  open_deep next-proc x = ended-deep x
  open_deep next-thread x = ended-deep x
  open_deep finished x = ended-deep x
  open_deep (in_block e ks) x = within-deep (levels ks) x
  open_deep (awaits_one ks) x = within-deep (suc (levels ks)) x
  open_deep (awaits_two ks) x = within-deep (suc (levels ks)) x
  open_deep (ends-either ks) x = within-deep (suc (levels ks)) x
