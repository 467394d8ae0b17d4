-- Which block the forms of a table begin with: the first form says its first statement, and what follows are the forms of its parts.
use Prim.Native.Nat.{ℕ, ◌+◌, ◌<◌, ◌≤◌}
use native.Mathlib.Numerals.{add-one}
use native.Mathlib.Omega.{arith}
use Rattle.std.specs.Prelude.{Option, None, ltb}
use Rattle.std.specs.Bool.{then_some}
use mathlib.Core.Bool.{not}
use mathlib.Core.List.{List, [], ◌∷◌}
use mathlib.Core.Logic.{⊎_elim}
use mathlib.Core.Path.{◌≡◌, sym, ap, ◌∙◌, subst}
use borrow.Author.Tests.{lt-ltb, le-ltb}
use denote.Enum.Declared.{tag_of}
use lib.Dec.{T}
use lib.ListN.{length, drop, get_or, drop_of_length-le}
use lib.Seq.{drop-cons}
use mir.Val.{has_key}
use Rattle.limits.specs.Limits.{claim_count}
use Rattle.laws.proofs.Tests.{lt_or_le}
use Rattle.text.specs.contracts.Form.{the_type}
use Rattle.text.specs.declared.Form.{Form}
use Rattle.text.specs.declared.Form.TheVariants.{Close, Skip, Call, Hold, Loop, Either, One, Two, Share}
use Rattle.semantics.specs.Plan.{Block, done, skip, call, hold, loop, either, end, Written}
use Rattle.semantics.specs.Claims.{by_share, by_hold}
use Rattle.plan.specs.Grammar.{block_forms, claim_form}
use Rattle.plan.proofs.ClaimForms.{by_claim, hold-form, share-form, claim_elim}
use Rattle.plan.specs.Table.{form_at, table_forms}
use Rattle.paths.specs.Walks.{ClaimOf}

-- a form that is neither a hold nor a share is no claim's
pub claim-not : (f : Form) (a : ℕ) → T (not (has_key (6 ∷ 11 ∷ []) (tag_of the_type f))) → f ≡ claim_form a → ⊥
claim-not f a h =
    by_claim (λ g. f ≡ g → ⊥) a (λ e. subst (λ x. T (not (has_key (6 ∷ 11 ∷ []) (tag_of the_type x)))) e h) (λ e. subst (λ x. T (not (has_key (6 ∷ 11 ∷ []) (tag_of the_type x)))) e h)

-- ---- the claim of a form

-- a claim has one form, and a form one claim
claim-same : (a b : ℕ) → claim_form a ≡ claim_form b → a ≡ b
claim-same a b =
    claim_elim (λ f c. f ≡ claim_form b → c ≡ b) (λ l. claim_elim (λ g d. Hold l ≡ g → by_hold l ≡ d) (λ k e. cc) (λ k e. cc) b)
    (λ l. claim_elim (λ g d. Share l ≡ g → by_share l ≡ d) (λ k e. cc) (λ k e. cc) b) a

-- the claim of a form, if its number is below 64
claim-if : (f : Form) (a : ℕ) → f ≡ claim_form a → ClaimOf f (then_some (ltb a claim_count) a)
claim-if f a e = ⊎_elim
    (λ (h : a < claim_count). rw (lt-ltb a claim_count h) (h, e))
    (λ (h : claim_count ≤ a). rw (le-ltb a claim_count h) (λ b c g. let same : a ≡ b = claim-same a b (sym e ∙ g) in omega arith))
    (lt_or_le a claim_count)

module _ (f : Form) (l a : ℕ) (r : Option ℕ) (is : r ≡ then_some (ltb a claim_count) a) where
  pub claim-hold : f ≡ Hold l → a ≡ by_hold l → ClaimOf f r
  claim-hold e g = rw is (claim-if f a (e ∙ sym (hold-form l) ∙ ap claim_form (sym g)))

  pub claim-share : f ≡ Share l → a ≡ by_share l → ClaimOf f r
  claim-share e g = rw is (claim-if f a (e ∙ sym (share-form l) ∙ ap claim_form (sym g)))

-- a form that is neither a hold nor a share has none
pub claim-none : (f : Form) → ((l : ℕ) → f ≡ Hold l → ⊥) → ((l : ℕ) → f ≡ Share l → ⊥) → ClaimOf f None
claim-none f n m a c e = claim_elim (λ g b. f ≡ g → ⊥) n m a e

module _ (C : ℕ → Type 0) (later fs : List Form) where
  pub none-begins : (b : Block) → Written C b → [] ≡ block_forms b (Close ∷ later) → ⊥
  unfolding Written block_forms
  none-begins done v e = cc
  none-begins (skip r) v e = cc
  none-begins (call p r) v e = cc
  none-begins (hold l b r) v e = cc
  none-begins (loop b r) v e = cc
  none-begins (either a b r) v e = cc
  none-begins (end l r) v e = absurd v

  pub statement-begins : (f : Form) → (f ≡ Skip → ⊥) → ((p : ℕ) → f ≡ Call p → ⊥) → (f ≡ Loop → ⊥) → (f ≡ Either → ⊥) → ClaimOf f None → (f ≡ Close → ⊥)
      → (b : Block) → Written C b → f ∷ fs ≡ block_forms b (Close ∷ later) → ⊥
  unfolding Written block_forms
  statement-begins f h k l m none n done v e = n (cc)
  statement-begins f h k l m none n (skip r) v e = h (cc)
  statement-begins f h k l m none n (call p r) v e = k p (cc)
  statement-begins f h k l m none n (hold c b r) v e = none c v.0 (cc)
  statement-begins f h k l m none n (loop b r) v e = l (cc)
  statement-begins f h k l m none n (either a b r) v e = m (cc)
  statement-begins f h k l m none n (end c r) v e = absurd v

  pub close-only : (P : Block → Type 0) → (fs ≡ later → P done)
      → (b : Block) → Written C b → Close ∷ fs ≡ block_forms b (Close ∷ later) → P b
  unfolding Written block_forms
  close-only P g done v e = g (cc)
  close-only P g (skip r) v e = cc
  close-only P g (call p r) v e = cc
  close-only P g (hold l b r) v e = absurd (claim-not Close l tt (cc))
  close-only P g (loop b r) v e = cc
  close-only P g (either a b r) v e = cc
  close-only P g (end l r) v e = absurd v

  pub skip-only : (P : Block → Type 0) → ((r : Block) → Written C r → fs ≡ block_forms r (Close ∷ later) → P (skip r))
      → (b : Block) → Written C b → Skip ∷ fs ≡ block_forms b (Close ∷ later) → P b
  unfolding Written block_forms
  skip-only P g done v e = cc
  skip-only P g (skip r) v e = g r v (cc)
  skip-only P g (call p r) v e = cc
  skip-only P g (hold l b r) v e = absurd (claim-not Skip l tt (cc))
  skip-only P g (loop b r) v e = cc
  skip-only P g (either a b r) v e = cc
  skip-only P g (end l r) v e = absurd v

  pub call-only : (n : ℕ) (P : Block → Type 0) → ((r : Block) → C n → Written C r → fs ≡ block_forms r (Close ∷ later) → P (call n r))
      → (b : Block) → Written C b → Call n ∷ fs ≡ block_forms b (Close ∷ later) → P b
  unfolding Written block_forms
  call-only n P g done v e = cc
  call-only n P g (skip r) v e = cc
  call-only n P g (call p r) v e = let h : n ≡ p = cc in rw (← h) (g r (rw h v.0) v.1 (cc))
  call-only n P g (hold l b r) v e = absurd (claim-not (Call n) l tt (cc))
  call-only n P g (loop b r) v e = cc
  call-only n P g (either a b r) v e = cc
  call-only n P g (end l r) v e = absurd v

  pub hold-only : (n : ℕ) (P : Block → Type 0)
      → ((b r : Block) → n < claim_count → Written C b → Written C r → fs ≡ block_forms b (Close ∷ block_forms r (Close ∷ later)) → P (hold n b r))
      → (b : Block) → Written C b → claim_form n ∷ fs ≡ block_forms b (Close ∷ later) → P b
  unfolding Written block_forms
  hold-only n P g done v e = absurd (claim-not Close n tt (cc))
  hold-only n P g (skip r) v e = absurd (claim-not Skip n tt (cc))
  hold-only n P g (call p r) v e = absurd (claim-not (Call p) n tt (cc))
  hold-only n P g (hold l b r) v e = let h : n ≡ l = claim-same n l (cc) in rw (← h) (g b r (rw h v.0) v.1 v.2 (cc))
  hold-only n P g (loop b r) v e = absurd (claim-not Loop n tt (cc))
  hold-only n P g (either a b r) v e = absurd (claim-not Either n tt (cc))
  hold-only n P g (end l r) v e = absurd v

  pub loop-only : (P : Block → Type 0) → ((b r : Block) → Written C b → Written C r → fs ≡ block_forms b (Close ∷ block_forms r (Close ∷ later)) → P (loop b r))
      → (b : Block) → Written C b → Loop ∷ fs ≡ block_forms b (Close ∷ later) → P b
  unfolding Written block_forms
  loop-only P g done v e = cc
  loop-only P g (skip r) v e = cc
  loop-only P g (call p r) v e = cc
  loop-only P g (hold l b r) v e = absurd (claim-not Loop l tt (cc))
  loop-only P g (loop b r) v e = g b r v.0 v.1 (cc)
  loop-only P g (either a b r) v e = cc
  loop-only P g (end l r) v e = absurd v

  pub either-only : (P : Block → Type 0) → ((a b r : Block) → Written C a → Written C b → Written C r
      → fs ≡ One ∷ block_forms a (Close ∷ Two ∷ block_forms b (Close ∷ Close ∷ block_forms r (Close ∷ later))) → P (either a b r))
      → (b : Block) → Written C b → Either ∷ fs ≡ block_forms b (Close ∷ later) → P b
  unfolding Written block_forms
  either-only P g done v e = cc
  either-only P g (skip r) v e = cc
  either-only P g (call p r) v e = cc
  either-only P g (hold l b r) v e = absurd (claim-not Either l tt (cc))
  either-only P g (loop b r) v e = cc
  either-only P g (either a b r) v e = g a b r v.0 v.1 v.2 (cc)
  either-only P g (end l r) v e = absurd v

-- the form at a place, and those behind it
pub table_more : (ws : List ℕ) (at : ℕ) → at < length ws → table_forms (drop at ws) ≡ form_at (get_or ws at 0) ∷ table_forms (drop (at + 1) ws)
table_more ws at h = rw (add-one, drop-cons ws at 0 h)

pub table_none : (ws : List ℕ) (at : ℕ) → length ws ≤ at → table_forms (drop at ws) ≡ []
table_none ws at h = rw (drop_of_length-le ws h)

pub table-behind : (ws : List ℕ) (at q : ℕ) (f : Form) (fs : List Form) → (at < length ws → q ≡ at + 1) → table_forms (drop at ws) ≡ f ∷ fs
    → table_forms (drop q ws) ≡ fs
table-behind ws at q f fs g e =
    ⊎_elim
    (λ (h : at < length ws). rw (g h) (let k = table_more ws at h in cc))
    (λ (h : length ws ≤ at). let k = table_none ws at h in cc)
    (lt_or_le at (length ws))
