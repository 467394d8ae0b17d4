-- The form of a claim: a hold or a share, of its lock (`by_claim`). A claim has one form and a form one claim (`hold-form`, `share-form`, `claim_elim`).
use Prim.Native.Nat.{ℕ}
use mathlib.Core.Bool.{Bool, true, false, cond}
use mathlib.Core.Logic.{⊎_elim}
use mathlib.Core.Path.{◌≡◌, refl, sym, subst}
use Rattle.text.specs.declared.Form.{Form}
use Rattle.text.specs.declared.Form.TheVariants.{Hold, Share}
use Rattle.semantics.specs.Plan.{hold}
use Rattle.semantics.specs.Claims.{by_share, by_hold, lock_of, is_hold}
use Rattle.semantics.proofs.Ground.Claims.{share-lock, hold-lock, share-way, hold-way, claim_of}
use Rattle.plan.specs.Grammar.{claim_form, Behind, with_open, at_two, in_front}

-- what both forms of a lock have, the form of its claim has
pub by_claim : (P : Form → Type 0) (a : ℕ) → P (Hold (lock_of a)) → P (Share (lock_of a)) → P (claim_form a)
unfolding claim_form
by_claim P a h s = go (is_hold a)
  where
    go : (b : Bool) → P (cond b (Hold (lock_of a)) (Share (lock_of a)))
    go true = h
    go false = s

pub hold-form : (l : ℕ) → claim_form (by_hold l) ≡ Hold l
unfolding claim_form
hold-form l = rw (hold-way l, hold-lock l)

pub share-form : (l : ℕ) → claim_form (by_share l) ≡ Share l
unfolding claim_form
share-form l = rw (share-way l, share-lock l)

-- what holds of each form with the claim that it takes, holds of each claim with its form
pub claim_elim : (P : Form → ℕ → Type 0) → ((l : ℕ) → P (Hold l) (by_hold l)) → ((l : ℕ) → P (Share l) (by_share l)) → (a : ℕ) → P (claim_form a) a
claim_elim P h s a =
    let l = lock_of a in
    ⊎_elim (λ (e : (is_hold a ≡ false) × (by_share l ≡ a)). subst (λ c. P (claim_form c) c) e.1 (subst (λ f. P f (by_share l)) (sym (share-form l)) (s l)))
    (λ (e : (is_hold a ≡ true) × (by_hold l ≡ a)). subst (λ c. P (claim_form c) c) e.1 (subst (λ f. P f (by_hold l)) (sym (hold-form l)) (h l)))
    (claim_of a)

-- in front of a block it is a hold with the claim
pub claim-front : (a : ℕ) (x : Behind) → in_front (claim_form a) x ≡ with_open (at_two (hold a) x.blocks) x
unfolding in_front
claim-front a x = claim_elim (λ f c. in_front f x ≡ with_open (at_two (hold c) x.blocks) x) (λ l. refl) (λ l. refl) a
