-- Which forms a copy retains, by the arms of a match on forms: the closing one, those of loops and eithers, the rest. In the shape of the needs of `is_retained`.
use mathlib.Core.Bool.{Bool, true, not}
use mathlib.Core.List.{List, [], ◌∷◌}
use mathlib.Core.Path.{◌≡◌, refl, sym, ap, ◌∙◌}
use denote.Enum.Declared.{tag_of}
use types.Run.{OneOf}
use Rattle.text.specs.declared.Form.{Form}
use Rattle.text.specs.declared.Form.TheVariants.{Close, Loop, Either, One, Two}
use Rattle.text.specs.Forms.{kind_in}
use Rattle.text.specs.contracts.Form.{the_type}
use Rattle.text.proofs.Matches.{match_arm, positions, others}
use Rattle.bare_text.specs.Writing.{is_retained}

-- a form of each kind that straightening leaves out
abbrev branches : List Form
branches = Loop ∷ Either ∷ One ∷ Two ∷ []

module _ (straighten enclosed : Bool) (f : Form) (r : Bool) where
  pub retained_closing : f ≡ Close → r ≡ enclosed → r ≡ is_retained straighten enclosed f
  unfolding is_retained kind_in
  retained_closing e k = k ∙ sym (ap (is_retained straighten enclosed) e)

  pub retained_left_out : OneOf (positions branches) (tag_of the_type f) → r ≡ not straighten → r ≡ is_retained straighten enclosed f
  unfolding is_retained kind_in
  retained_left_out h k = k ∙ sym (match_arm (is_retained straighten enclosed) (not straighten) (positions branches) f h refl)

  pub retained_other : OneOf (others (Close ∷ branches)) (tag_of the_type f) → r ≡ true → r ≡ is_retained straighten enclosed f
  unfolding is_retained kind_in
  retained_other h k = k ∙ sym (match_arm (is_retained straighten enclosed) true (others (Close ∷ branches)) f h refl)
