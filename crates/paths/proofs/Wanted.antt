-- The block of a procedure begins with a hold or a share just if the form at its place is one.
use Prim.Native.Nat.{ℕ, ◌+◌, ◌^◌, ◌<◌, ◌≤◌}
use mathlib.Core.List.{List, ◌∷◌}
use mathlib.Core.Path.{◌≡◌, refl, sym, ◌∙◌}
use Rattle.std.specs.Prelude.{None}
use lib.ListN.{length, drop, get_or}
use Rattle.text.specs.declared.Form.{Form}
use Rattle.text.specs.declared.Form.TheVariants.{Close}
use Rattle.semantics.specs.Plan.{Block, done, skip, call, hold, loop, either, end, Written, body_in}
use Rattle.semantics.specs.StuckRounds.{first_wanted}
use Rattle.plan.specs.Grammar.{block_forms, claim_form}
use Rattle.plan.specs.Table.{form_at, table_forms}
use Rattle.plan.specs.Settled.{table_plan}
use Rattle.paths.specs.Walks.{ClaimOf, InPlan}
use Rattle.paths.specs.Wanted.{FirstWantedAt}
use Rattle.paths.proofs.Blocks.{none-begins, hold-only, table_more, table_none}

-- a block that does not begin with a claim wants none
wanted-none : (C : ℕ → Type 0) (f : Form) (fs later : List Form) (b : Block) → Written C b → ClaimOf f None → f ∷ fs ≡ block_forms b (Close ∷ later) → 0 ≡ first_wanted b
unfolding Written block_forms first_wanted
wanted-none C f fs later done v n e = refl
wanted-none C f fs later (skip r) v n e = refl
wanted-none C f fs later (call p r) v n e = refl
wanted-none C f fs later (hold l b r) v n e = absurd (n l v.0 (cc))
wanted-none C f fs later (loop b r) v n e = refl
wanted-none C f fs later (either a b r) v n e = refl
wanted-none C f fs later (end l r) v n e = refl

module _ (ws : List ℕ) (start : ℕ) where
  pub wanted-ended : length ws ≤ start → FirstWantedAt ws start 0
  wanted-ended h t p k st = absurd (none-begins (InPlan ws) st.later st.later _ (t.settled.callees_present p) (sym (table_none ws start h) ∙ st.written))

  module _ (f : Form) {x : ℕ} (look : (start < length ws) × ((d : ℕ) → x ≡ get_or ws start d)) (e : f ≡ form_at x) where
    pub wanted-claim : (a r : ℕ) → f ≡ claim_form a → r ≡ 2 ^ a → FirstWantedAt ws start r
    unfolding first_wanted
    wanted-claim a r g u t p k st =
        hold-only (InPlan ws) st.later (table_forms (drop (start + 1) ws)) a (λ b. r ≡ first_wanted b) (λ b x c v v' q. u)
        (body_in (table_plan ws).procs p) (t.settled.callees_present p) (let m = table_more ws start look.0 in let k = look.1 0 in let w = st.written in cc)

    pub wanted-other : ClaimOf f None → FirstWantedAt ws start 0
    wanted-other n t p k st =
        wanted-none (InPlan ws) f (table_forms (drop (start + 1) ws)) st.later (body_in (table_plan ws).procs p) (t.settled.callees_present p) n
        (let m = table_more ws start look.0 in let k = look.1 0 in let w = st.written in cc)
