-- A match on forms. An arm with one pattern knows the form; another knows that the form's position among the declared forms is one of the arm's. Positions are the
-- numbers of kinds (`kind_tag`), and a form is settled by its kind and its number (`form-there`), so what a function gives at each position of an arm it gives there
-- (`match_arm`).
use Prim.Native.Nat.{ℕ}
use mathlib.Core.Bool.{Bool, true, false, ◌||◌, cond}
use mathlib.Core.List.{List, [], ◌∷◌, map, head-eq_of_cons-eq, tail-eq_of_cons-eq}
use mathlib.Core.Logic.{inl, inr}
use mathlib.Core.Path.{◌≡◌, refl, sym, ap, subst, ◌∙◌}
use lib.Dec.{eqb}
use lib.ListN.{get_or}
use denote.Enum.Declared.{tag_of}
use mir.Val.{has_key}
use types.Run.{OneOf}
use native.Mathlib.Omega.{arith}
use Rattle.std.proofs.lemmas.Bool.Decides.{nat_tests}
use Rattle.text.specs.declared.Form.{Form}
use Rattle.text.specs.declared.Form.TheVariants.{Plan, Proc, Thread, Close, Skip, Call, Hold, Loop, Either, One, Two, Share}
use Rattle.text.specs.Forms.{number_in, kind_number, kind_in}
use Rattle.text.specs.contracts.Form.{the_type}

-- the forms in the order in which they are declared, each with the number n where it has one
abbrev pub form_at : ℕ → ℕ → Form
form_at n k = get_or (Plan ∷ Proc ∷ Thread n ∷ Close ∷ Skip ∷ Call n ∷ Hold n ∷ Loop ∷ Either ∷ One ∷ Two ∷ Share n ∷ []) k Close

form-there : (f : Form) → form_at (number_in f) (kind_number f) ≡ f
unfolding number_in
form-there Plan = refl
form-there f = refl

kind_tag : (f : Form) → tag_of the_type f ≡ kind_number f
kind_tag Plan = refl
kind_tag f = refl

-- a form of the kind of g
same-number : (k n : ℕ) → (eqb k n || false) ≡ true → n ≡ k
same-number k n e = grind (arith, nat_tests)

pub kind-form : (g f : Form) → kind_in (g ∷ []) f ≡ true → f ≡ form_at (number_in f) (kind_number g)
unfolding kind_in
kind-form g f e = sym (form-there f) ∙ ap (form_at (number_in f)) (same-number (kind_number g) (kind_number f) e)

-- a function that gives a at each of the numbers gives a at one of them
all_one : {A : Type 0} (g : ℕ → A) (a : A) (ks : List ℕ) (x : ℕ) → OneOf ks x → map g ks ≡ map (λ k. a) ks → g x ≡ a
all_one g a [] x h e = absurd h
all_one g a (k ∷ []) x h e = ap g h ∙ head-eq_of_cons-eq e
all_one g a (k ∷ j ∷ ks) x (inl h) e = ap g h ∙ head-eq_of_cons-eq e
all_one g a (k ∷ j ∷ ks) x (inr h) e = all_one g a (j ∷ ks) x h (tail-eq_of_cons-eq e)

pub match_arm : {A : Type 0} (g : Form → A) (a : A) (ks : List ℕ) (f : Form) → OneOf ks (tag_of the_type f)
    → map (λ k. g (form_at (number_in f) k)) ks ≡ map (λ k. a) ks → g f ≡ a
match_arm g a ks f h e = ap g (sym (form-there f)) ∙ all_one (λ k. g (form_at (number_in f) k)) a ks (kind_number f) (subst (OneOf ks) (kind_tag f) h) e

-- ---- functions that are a test of kinds

-- the test, open to computation
abbrev pub is_key : List Form → Form → Bool
is_key gs f = has_key (map kind_number gs) (kind_number f)

is_key_lem : (gs : List Form) (f : Form) → is_key gs f ≡ kind_in gs f
unfolding kind_in
is_key_lem [] f = refl
is_key_lem (g ∷ gs) f = rw (is_key_lem gs f)

-- the positions of forms, and all but those
abbrev pub positions : List Form → List ℕ
positions gs = map kind_number gs

abbrev pub without : List ℕ → List ℕ → List ℕ
without js [] = []
without js (k ∷ ks) = cond (has_key js k) (without js ks) (k ∷ without js ks)

abbrev pub others : List Form → List ℕ
others gs = without (positions gs) (0 ∷ 1 ∷ 2 ∷ 3 ∷ 4 ∷ 5 ∷ 6 ∷ 7 ∷ 8 ∷ 9 ∷ 10 ∷ 11 ∷ [])

-- the arm of several patterns, and of the rest
module _ (gs : List Form) (f : Form) (r : Bool) where
  pub kind-among : OneOf (positions gs) (tag_of the_type f) → map (λ k. is_key gs (form_at (number_in f) k)) (positions gs) ≡ map (λ k. true) (positions gs)
      → r ≡ true → r ≡ kind_in gs f
  kind-among h e k = k ∙ sym (match_arm (is_key gs) true (positions gs) f h e) ∙ is_key_lem gs f

  pub kind-rest : OneOf (others gs) (tag_of the_type f) → map (λ k. is_key gs (form_at (number_in f) k)) (others gs) ≡ map (λ k. false) (others gs)
      → r ≡ false → r ≡ kind_in gs f
  kind-rest h e k = k ∙ sym (match_arm (is_key gs) false (others gs) f h e) ∙ is_key_lem gs f
