-- Passes over the forms of a plan, each as a function on a list of forms: where the procedures begin, and the threads.
use Rattle.std.specs.Prelude.{ℕ, suc, Bool, true, false, List, [], ◌∷◌}
use Rattle.text.specs.declared.Form.{Form}
use Rattle.text.specs.Forms.{number_in, is_proc, is_thread}

-- x in front, if b
abbrev pub cons_if : Bool → ℕ → List ℕ → List ℕ
cons_if true x xs = x ∷ xs
cons_if false x xs = xs

-- the place after each `(proc`, of the forms from a place on
unfoldable pub places_from : ℕ → List Form → List ℕ
places_from place [] = []
places_from place (f ∷ fs) = cons_if (is_proc f) (suc place) (places_from (suc place) fs)

-- the procedures that the threads run
unfoldable pub threads_from : List Form → List ℕ
threads_from [] = []
threads_from (f ∷ fs) = cons_if (is_thread f) (number_in f) (threads_from fs)
