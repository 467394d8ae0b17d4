-- Rule 3: what `unreadable` names is the first line that is neither passed over nor a form, or the last where it is not ended. By induction on the lines: a line that
-- is good in front of others leaves the bad ones as they are, and one that is not is the first.
use Prim.Native.Nat.{ℕ, zero, suc, ◌+◌, ◌-◌, ◌<◌}
use mathlib.Core.Bool.{Bool, true, false}
use mathlib.Core.List.{List, [], ◌∷◌}
use mathlib.Core.Logic.{◌⊎◌, inl, inr, ⊎_elim}
use mathlib.Core.Option.{Option, none, some}
use mathlib.Core.Path.{◌≡◌, refl, sym, subst, ◌∙◌}
use native.Mathlib.Omega.{arith}
use lib.Dec.{T}
use lib.ListN.{length, get_or}
use Rattle.laws.specs.Choice.{pick}
use Rattle.text.specs.declared.Form.{Form}
use Rattle.std.specs.Prelude.{Option as Maybe, Some, None}
use Rattle.text.specs.Forms.{IsForm}
use Rattle.text.specs.Kinds.{kind_of}
use Rattle.text.specs.Lines.{split, unindented, passed_over, unknown_or, unreadable, unreadable_line}
use Rattle.text.proofs.Written.{kind-written, unknown-written}
use Rattle.demands.specs.Lines.{First}
use Rattle.demands.specs.Broken.{Unreadable}
use Rattle.demands.proofs.Order.{Names}
use Rattle.demands.proofs.Firsts.{Scanned, names-scanned}

-- a line that is ended, is not passed over and is no form
abbrev BadLine : List ℕ → Type 0
BadLine l = (passed_over l ≡ false) × ((f : Form) → IsForm (unindented l) f → ⊥)

-- the line behind i others is such, or not ended
abbrev Bad : List (List ℕ) → List ℕ → ℕ → Type 0
Bad ls tail i = ((i < length ls) × BadLine (get_or ls i [])) ⊎ ((i ≡ length ls) × (0 < length tail))

-- what is named, behind `line` others
record Found (ls : List (List ℕ)) (tail : List ℕ) (line n : ℕ) : Type 0 where
  place : ℕ
  at : n ≡ line + place
  first : First (Bad ls tail) place

abbrev Answered : List (List ℕ) → List ℕ → ℕ → Option ℕ → Type 0
Answered ls tail line none = (i : ℕ) → Bad ls tail i → ⊥
Answered ls tail line (some n) = Found ls tail line n

here : (ls : List (List ℕ)) (tail : List ℕ) (line : ℕ) → Bad ls tail 0 → Found ls tail line line
here ls tail line b = record { place = 0; at = omega arith; first = record { here = b; none_before = λ m h. absurd (omega arith) } }

-- a line in front that is not bad
module _ (l : List ℕ) (ls : List (List ℕ)) (tail : List ℕ) (good : BadLine l → ⊥) where
  bad-later : (i : ℕ) → Bad ls tail i → Bad (l ∷ ls) tail (suc i)
  bad-later i (inl b) = inl (omega arith, b.1)
  bad-later i (inr b) = inr (omega arith, b.1)

  bad-cases : (i : ℕ) → Bad (l ∷ ls) tail i → (j : ℕ) × (i ≡ suc j) × Bad ls tail j
  bad-cases zero (inl b) = absurd (good b.1)
  bad-cases zero (inr b) = absurd (omega (arith, b.0))
  bad-cases (suc i) (inl b) = (i, refl, inl (omega arith, b.1))
  bad-cases (suc i) (inr b) = (i, refl, inr (omega (arith, b.0), b.1))

  later : (line : ℕ) (o : Option ℕ) → Answered ls tail (suc line) o → Answered (l ∷ ls) tail line o
  later line none x = λ i b. let (j, _, c) = bad-cases i b in x j c
  later line (some n) x = record {
    place = suc x.place;
    at = omega (arith, x.at);
    first = record {
      here = bad-later x.place x.first.here;
      none_before = λ m h b. let (j, e, c) = bad-cases m b in x.first.none_before j (omega arith) c;
    };
  }

answered : (ls : List (List ℕ)) (tail : List ℕ) (line : ℕ) → Answered ls tail line (unreadable line ls tail)
unfolding unreadable pick
answered [] [] line = λ i. ⊎_elim (λ b. omega (arith, b.0)) (λ b. omega (arith, b.1))
answered [] (b ∷ bs) line = here [] (b ∷ bs) line (inr (refl, omega arith))
answered (l ∷ ls) tail line = go (passed_over l) refl (kind_of (unindented l)) refl (answered ls tail (suc line))
  where
    o : Option ℕ
    o = unreadable (suc line) ls tail

    go : (b : Bool) → passed_over l ≡ b → (k : Maybe Form) → kind_of (unindented l) ≡ k → Answered ls tail (suc line) o
        → Answered (l ∷ ls) tail line (pick b o (unknown_or line k o))
    go true p k q x = later l ls tail (λ b. subst T (sym p ∙ b.0) tt) line o x
    go false p (Some f) q x = later l ls tail (λ b. b.1 f ((kind-written (unindented l) f).0 q)) line o x
    go false p None q x = here (l ∷ ls) tail line (inl (omega arith, (p, (unknown-written (unindented l)).0 q)))

-- lines from 1
module _ (text : List ℕ) where
  bad-line : (i n : ℕ) → n ≡ 1 + i → Bad (split text).ended (split text).tail i → Unreadable text n
  bad-line i n e (inl b) =
      let k : n - 1 ≡ i = omega arith in
      inl (record { from_one = omega arith; present = omega (arith, b.0); judged = rw k b.1.0; unknown = rw k b.1.1 })
  bad-line i n e (inr b) = inr (record { last = omega (arith, b.0); bytes = b.1 })

  line-bad : (n : ℕ) → Unreadable text n → (i : ℕ) × (n ≡ 1 + i) × Bad (split text).ended (split text).tail i
  line-bad n (inl b) = (n - 1, omega (arith, b.from_one), inl (omega (arith, b.from_one, b.present), (b.judged, b.unknown)))
  line-bad n (inr b) = (n - 1, omega (arith, b.last), inr (omega (arith, b.last), b.bytes))

  scanned : (o : Option ℕ) → Answered (split text).ended (split text).tail 1 o → Scanned (Unreadable text) o
  scanned none x = λ n b. let (i, _, c) = line-bad n b in x i c
  scanned (some n) x = record {
    here = bad-line x.place n x.at x.first.here;
    none_before = λ m h b. let (i, k, c) = line-bad m b in x.first.none_before i (omega (arith, x.at)) c;
  }

  pub readable_names : Names (unreadable_line text) (First (Unreadable text))
  unfolding unreadable_line
  readable_names =
      let o = unreadable 1 (split text).ended (split text).tail in
      names-scanned o (Unreadable text) (scanned o (answered (split text).ended (split text).tail 1))
