-- What holds of a block holds of the straightened one, by induction: an either and a loop become blocks one after the other, and what holds of two blocks holds of the first and
-- then the second (the lemmas in ⨾). A straightened block is straight_line (`straight_line`), so that straightening it again alters nothing (`straight-twice`).
use Prim.Native.Nat.{ℕ, zero, suc, ◌<◌}
use mathlib.Core.Bool.{Bool, true, false}
use mathlib.Core.List.{List, [], ◌∷◌, map, map-map, map_congr_left}
use mathlib.Core.Path.{◌≡◌, refl, ap, ap₂, ◌∙◌}
use lib.Dec.{T}
use lib.ListN.{length, length-map}
use Rattle.semantics.specs.Plan.{Block, done, skip, call, hold, loop, either, end, ◌⨾◌, LockPlan, body_in, WellFormed, Written}
use Rattle.straightening.specs.Straight.{straight, straight_plan, StraightLine}

pub straight-length : (ps : List Block) → length (map straight ps) ≡ length ps
straight-length ps = length-map ps straight

-- of a procedure that is not there too: the empty block is straight
pub straight-body : (ps : List Block) (p : ℕ) → body_in (map straight ps) p ≡ straight (body_in ps p)
unfolding body_in straight
straight-body [] p = refl
straight-body (b ∷ ps) zero = refl
straight-body (b ∷ ps) (suc p) = straight-body ps p

-- ---- calls and locks

module _ (C : ℕ → Type 0) where
  written_⨾ : (a b : Block) → Written C a → Written C b → Written C (a ⨾ b)
  unfolding Written ◌⨾◌
  written_⨾ done b w v = v
  written_⨾ (skip r) b w v = written_⨾ r b w v
  written_⨾ (call p r) b w v = (w.0, written_⨾ r b w.1 v)
  written_⨾ (hold l x r) b w v = (w.0, w.1, written_⨾ r b w.2 v)
  written_⨾ (loop x r) b w v = (w.0, written_⨾ r b w.1 v)
  written_⨾ (either x y r) b w v = (w.0, w.1, written_⨾ r b w.2 v)
  written_⨾ (end l r) b w v = absurd w

  pub straight-written : (b : Block) → Written C b → Written C (straight b)
  unfolding Written straight
  straight-written done w = w
  straight-written (skip r) w = straight-written r w
  straight-written (call p r) w = (w.0, straight-written r w.1)
  straight-written (hold l b r) w = (w.0, straight-written b w.1, straight-written r w.2)
  straight-written (loop b r) w = written_⨾ (straight b) (straight r) (straight-written b w.0) (straight-written r w.1)
  straight-written (either a b r) w =
      written_⨾ (straight a) (straight b ⨾ straight r) (straight-written a w.0)
      (written_⨾ (straight b) (straight r) (straight-written b w.1) (straight-written r w.2))
  straight-written (end l r) w = absurd w

  pub straight-bodies-written : (ps : List Block) (p : ℕ) → Written C (body_in ps p) → Written C (body_in (map straight ps) p)
  straight-bodies-written ps p w = rw (straight-body ps p) (straight-written (body_in ps p) w)

-- ---- "one or more statements"

-- a, which may be empty only if both together may, and then b
formed_⨾ : (empty both : Bool) → (T empty → T both) → (a b : Block) → WellFormed empty a → WellFormed true b → WellFormed both (a ⨾ b)
unfolding WellFormed ◌⨾◌
formed_⨾ true true f done b w v = v
formed_⨾ true false f done b w v = absurd (f tt)
formed_⨾ false both f done b w v = absurd w
formed_⨾ empty both f (skip r) b w v = formed_⨾ true true (λ t. t) r b w v
formed_⨾ empty both f (call p r) b w v = formed_⨾ true true (λ t. t) r b w v
formed_⨾ empty both f (hold l x r) b w v = (w.0, formed_⨾ true true (λ t. t) r b w.1 v)
formed_⨾ empty both f (loop x r) b w v = (w.0, formed_⨾ true true (λ t. t) r b w.1 v)
formed_⨾ empty both f (either x y r) b w v = (w.0, w.1, formed_⨾ true true (λ t. t) r b w.2 v)
formed_⨾ empty both f (end l r) b w v = absurd w

straight-formed : (empty : Bool) (b : Block) → WellFormed empty b → WellFormed empty (straight b)
unfolding WellFormed straight
straight-formed empty done w = w
straight-formed empty (skip r) w = straight-formed true r w
straight-formed empty (call p r) w = straight-formed true r w
straight-formed empty (hold l b r) w = (straight-formed false b w.0, straight-formed true r w.1)
straight-formed empty (loop b r) w = formed_⨾ false empty absurd (straight b) (straight r) (straight-formed false b w.0) (straight-formed true r w.1)
straight-formed empty (either a b r) w =
    formed_⨾ false empty absurd (straight a) (straight b ⨾ straight r) (straight-formed false a w.0)
    (formed_⨾ false true absurd (straight b) (straight r) (straight-formed false b w.1) (straight-formed true r w.2))
straight-formed empty (end l r) w = absurd w

pub straight-bodies-formed : (ps : List Block) → ((p : ℕ) → p < length ps → WellFormed false (body_in ps p))
    → (p : ℕ) → p < length (map straight ps) → WellFormed false (body_in (map straight ps) p)
straight-bodies-formed ps w p h = rw (straight-body ps p) (straight-formed false (body_in ps p) (w p (rw (straight-length ps) at h)))

-- ---- straight_line code

straight_line_⨾ : (a b : Block) → StraightLine a → StraightLine b → StraightLine (a ⨾ b)
unfolding StraightLine ◌⨾◌
straight_line_⨾ done b s t = t
straight_line_⨾ (skip r) b s t = straight_line_⨾ r b s t
straight_line_⨾ (call p r) b s t = straight_line_⨾ r b s t
straight_line_⨾ (hold l x r) b s t = (s.0, straight_line_⨾ r b s.1 t)
straight_line_⨾ (loop x r) b s t = absurd s
straight_line_⨾ (either x y r) b s t = absurd s
straight_line_⨾ (end l r) b s t = straight_line_⨾ r b s t

-- no either and no loop is left
pub straight_line : (b : Block) → StraightLine (straight b)
unfolding StraightLine straight
straight_line done = tt
straight_line (skip r) = straight_line r
straight_line (call p r) = straight_line r
straight_line (hold l b r) = (straight_line b, straight_line r)
straight_line (loop b r) = straight_line_⨾ (straight b) (straight r) (straight_line b) (straight_line r)
straight_line (either a b r) =
    straight_line_⨾ (straight a) (straight b ⨾ straight r) (straight_line a) (straight_line_⨾ (straight b) (straight r) (straight_line b) (straight_line r))
straight_line (end l r) = straight_line r

-- straight_line code is left as it is
straight-unaltered : (b : Block) → StraightLine b → straight b ≡ b
unfolding StraightLine straight
straight-unaltered done s = refl
straight-unaltered (skip r) s = ap skip (straight-unaltered r s)
straight-unaltered (call p r) s = ap (call p) (straight-unaltered r s)
straight-unaltered (hold l b r) s = ap₂ (hold l) (straight-unaltered b s.0) (straight-unaltered r s.1)
straight-unaltered (loop b r) s = absurd s
straight-unaltered (either a b r) s = absurd s
straight-unaltered (end l r) s = ap (end l) (straight-unaltered r s)

pub straight-twice : (plan : LockPlan) → straight_plan (straight_plan plan) ≡ straight_plan plan
unfolding straight_plan
straight-twice plan =
    let again : map straight (map straight plan.procs) ≡ map straight plan.procs =
    map-map straight straight plan.procs ∙ map_congr_left {l = plan.procs} (λ b m. straight-unaltered (straight b) (straight_line b)) in
    ap (λ ps. record { procs = ps; threads = plan.threads }) again
