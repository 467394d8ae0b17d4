-- The fold that adds up a procedure's size: the sum so far and what is left cost together, cut off, as much as all.
use Prim.Native.Nat.{ℕ, ◌+◌, ◌≤◌, min}
use native.Mathlib.Omega.{arith}
use mathlib.Core.Path.{◌≡◌, ap, ◌∙◌}
use mathlib.Core.Bool.{Bool, true, false, cond}
use mathlib.Core.List.{List, [], ◌∷◌}
use lib.ListN.{drop}
use Rattle.std.specs.List.{fold, before_first}
use Rattle.limits.specs.Limits.{size_room}
use Rattle.text.specs.Forms.{begins_other}
use Rattle.plan.specs.Table.{form_at, table_forms}
use Rattle.procs.proofs.Fronts.{before_first-cons}
use Rattle.sizes.specs.Passes.{cost_of, cost_from, known_size, size_from}

module _ (sizes : List ℕ) where
  -- a form's cost added, both cut off
  abbrev pub added : ℕ → ℕ → ℕ
  added n w = min size_room (n + min size_room (cost_of (known_size sizes) (form_at w)))

  sizes_folded : (ws : List ℕ) (m : ℕ) → m ≤ size_room → fold added m (before_first (λ w. begins_other (form_at w)) ws) ≡ min size_room (m + cost_from (known_size sizes) (table_forms ws))
  unfolding cost_from
  sizes_folded [] m h = omega arith
  sizes_folded (w ∷ ws) m h =
      let rest = before_first (λ v. begins_other (form_at v)) ws in
      let more = sizes_folded ws (added m w) (omega arith) in
      rw (before_first-cons (λ v. begins_other (form_at v)) w ws) (go (begins_other (form_at w)) rest (cost_from (known_size sizes) (table_forms ws)) more)
    where
      go : (b : Bool) (rest : List ℕ) (n : ℕ) → fold added (added m w) rest ≡ min size_room (added m w + n)
          → fold added m (cond b [] (w ∷ rest)) ≡ min size_room (m + cond b 0 (cost_of (known_size sizes) (form_at w) + n))
      go true rest n e = omega arith
      go false rest n e = omega (arith, e)

  pub all_added : (ws rest : List ℕ) (k r : ℕ) → rest ≡ before_first (λ w. begins_other (form_at w)) (drop k ws) → r ≡ fold added 0 rest → r ≡ size_from ws sizes k
  unfolding size_from
  all_added ws rest k r e g = g ∙ ap (fold added 0) e ∙ sizes_folded (drop k ws) 0 (omega arith) ∙ omega arith
