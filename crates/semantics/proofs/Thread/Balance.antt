-- Balance: at each moment a thread's counts are those of the holds that its remainder will end (`Balanced`), so the remainder settles the counts.
-- Hence only to begin a hold makes a count positive (`positive_by_begin`) and only to end one makes it zero (`zero_by_end`).
use Prim.Native.Nat.{ℕ, ◌+◌, ◌-◌, ◌<◌}
use mathlib.Core.List.{List}
use mathlib.Core.Bool.{true, false, cond}
use mathlib.Core.Logic.{⊎_elim, ◌≢◌}
use mathlib.Core.Path.{◌≡◌, refl, sym, ap, ◌∙◌}
use native.Mathlib.Omega.{arith}
use lib.ListN.{length, get_or, set}
use lib.Seq.{get_or-set_same, get_or-set_other, ext_get_or}
use lib.Dec.{eqb, eqb_refl}
use Rattle.limits.specs.Limits.{claim_count}
use Rattle.laws.proofs.Places.{zeros_at}
use Rattle.laws.proofs.Tests.{T_true, eqb-cases}
use Rattle.semantics.specs.Plan.{Block, done, skip, call, hold, loop, either, end, ◌⨾◌, body_in, Written, AnyCall, Plain}
use Rattle.semantics.specs.Run.{up, down, unlocked}
use Rattle.semantics.proofs.Thread.Remainders.{⨾-done, length_up, length-down, Remainder, remainder_of_written}
use Rattle.semantics.proofs.Thread.Transitions.{Transition, remainder-step, skips, calls, begins, ends, enters, leaves, takes_one, takes_two}

-- how many holds of claim l a remainder will end
unfoldable pub end_count : ℕ → Block → ℕ
end_count l done = 0
end_count l (skip r) = end_count l r
end_count l (call p r) = end_count l r
end_count l (hold k b r) = end_count l r
end_count l (loop b r) = end_count l r
end_count l (either a b r) = end_count l r
end_count l (end k r) = cond (eqb k l) 1 0 + end_count l r

-- a plain block in front adds nothing
pub end_count_⨾ : (l : ℕ) (a b : Block) → Plain a → end_count l (a ⨾ b) ≡ end_count l b
unfolding Written end_count ◌⨾◌
end_count_⨾ l done b w = refl
end_count_⨾ l (skip r) b w = end_count_⨾ l r b w
end_count_⨾ l (call p r) b w = end_count_⨾ l r b w.1
end_count_⨾ l (hold k x r) b w = end_count_⨾ l r b w.2
end_count_⨾ l (loop x r) b w = end_count_⨾ l r b w.1
end_count_⨾ l (either x y r) b w = end_count_⨾ l r b w.2
end_count_⨾ l (end k r) b w = absurd w

pub record Balanced (b : Block) (cs : List ℕ) : Type 0 where
  pub remainder : Remainder AnyCall b
  pub size : length cs ≡ claim_count
  pub counts : (l : ℕ) → get_or cs l 0 ≡ end_count l b

-- so the counts are settled by the remainder
pub balanced-unique : {b : Block} {cs ds : List ℕ} → Balanced b cs → Balanced b ds → cs ≡ ds
balanced-unique {b} {cs} {ds} k m = ext_get_or 0 cs ds (k.size ∙ sym m.size) (λ i _. k.counts i ∙ sym (m.counts i))

-- a hold that has not begun adds nothing
pub balanced-hold : {l : ℕ} {b r : Block} {cs : List ℕ} → Balanced (hold l b r) cs → Balanced r cs
unfolding Remainder end_count
balanced-hold k = record { remainder = k.remainder.2; size = k.size; counts = k.counts }

-- a block as read, with no lock held
pub balanced_plain : (a : Block) → Plain a → Balanced a unlocked
unfolding Remainder end_count
balanced_plain a w =
    record {
      remainder = remainder_of_written AnyCall a w;
      size = refl;
      counts = λ l. zeros_at claim_count l ∙ sym (end_count_⨾ l a done w) ∙ ap (end_count l) (⨾-done a);
    }

pub up-count : (m l : ℕ) (cs : List ℕ) → l < length cs → get_or (up l cs) m 0 ≡ cond (eqb l m) 1 0 + get_or cs m 0
unfolding up
up-count m l cs h =
    ⊎_elim
    (λ (p : (l ≡ m) × (eqb l m ≡ true)).
    rw p.1 (ap (λ n. get_or (set cs l (get_or cs l 0 + 1)) n 0) (sym p.0) ∙ get_or-set_same cs l (get_or cs l 0 + 1) 0 h ∙ rw p.0 (omega arith)))
    (λ (p : (l ≢ m) × (eqb l m ≡ false)). rw p.1 (get_or-set_other cs l m (get_or cs l 0 + 1) 0 (λ e. p.0 (sym e)) ∙ omega arith))
    (eqb-cases l m)

pub down-count : (m l n : ℕ) (cs : List ℕ) → l < length cs → get_or cs m 0 ≡ cond (eqb l m) 1 0 + n → get_or (down l cs) m 0 ≡ n
unfolding down
down-count m l n cs h e =
    ⊎_elim
    (λ (p : (l ≡ m) × (eqb l m ≡ true)).
    let f : get_or cs m 0 ≡ 1 + n = rw p.1 at e in
    ap (λ k. get_or (set cs l (get_or cs l 0 - 1)) k 0) (sym p.0) ∙ get_or-set_same cs l (get_or cs l 0 - 1) 0 h ∙ rw p.0 (omega arith))
    (λ (p : (l ≢ m) × (eqb l m ≡ false)).
    let f : get_or cs m 0 ≡ 0 + n = rw p.1 at e in
    get_or-set_other cs l m (get_or cs l 0 - 1) 0 (λ e. p.0 (sym e)) ∙ omega arith)
    (eqb-cases l m)

module _ (ps : List Block) (bodies : (p : ℕ) → Plain (body_in ps p)) where
  size-move : {c : ℕ} {b b' : Block} {cs cs' : List ℕ} → Transition ps c b cs b' cs' → length cs ≡ claim_count → length cs' ≡ claim_count
  size-move skips e = e
  size-move calls e = e
  size-move (begins {l} {cs = cs}) e = length_up l cs ∙ e
  size-move (ends {l} {cs = cs}) e = length-down l cs ∙ e
  size-move enters e = e
  size-move leaves e = e
  size-move takes_one e = e
  size-move takes_two e = e

  counts_move : {c : ℕ} {b b' : Block} {cs cs' : List ℕ} → Transition ps c b cs b' cs' → Balanced b cs → (l : ℕ) → get_or cs' l 0 ≡ end_count l b'
  unfolding Remainder end_count
  counts_move skips k l = k.counts l
  counts_move (calls {p} {r}) k l = k.counts l ∙ sym (end_count_⨾ l (body_in ps p) r (bodies p))
  counts_move (begins {l = m} {b} {r} {cs}) k l =
      up-count l m cs (omega (arith, k.remainder.0, k.size)) ∙ ap (λ n. cond (eqb m l) 1 0 + n) (k.counts l)
      ∙ sym (end_count_⨾ l b (end m r) k.remainder.1)
  counts_move (ends {l = m} {r} {cs}) k l = down-count l m (end_count l r) cs (omega (arith, k.remainder.0, k.size)) (k.counts l)
  counts_move (enters {b} {r}) k l = k.counts l ∙ sym (end_count_⨾ l b (loop b r) k.remainder.0)
  counts_move leaves k l = k.counts l
  counts_move (takes_one {a} {b} {r}) k l = k.counts l ∙ sym (end_count_⨾ l a r k.remainder.0)
  counts_move (takes_two {a} {b} {r}) k l = k.counts l ∙ sym (end_count_⨾ l b r k.remainder.1)

  pub balanced-step : {c : ℕ} {b b' : Block} {cs cs' : List ℕ} → Transition ps c b cs b' cs' → Balanced b cs → Balanced b' cs'
  balanced-step m k = record {
    remainder = remainder-step ps AnyCall (λ p _. bodies p) m k.remainder;
    size = size-move m
        k.size;
    counts = counts_move m k;
  }

  -- only to begin a hold of a claim makes its count positive, and only to end one makes it zero
  pub positive_by_begin : {c : ℕ} {b b' : Block} {cs cs' : List ℕ} → Transition ps c b cs b' cs' → Balanced b cs → (l : ℕ) → get_or cs l 0 ≡ 0
      → 0 < get_or cs' l 0
      → (x : Block) × (r : Block) × (b ≡ hold l x r)
  unfolding Remainder end_count
  positive_by_begin skips k l z h = absurd (omega arith)
  positive_by_begin calls k l z h = absurd (omega arith)
  positive_by_begin (begins {l = m} {b} {r} {cs}) k l z h =
      let u = up-count l m cs (omega (arith, k.remainder.0, k.size)) in
      ⊎_elim (λ (p : (m ≡ l) × (eqb m l ≡ true)). (b, r, ap (λ n. hold n b r) p.0))
      (λ (p : (m ≢ l) × (eqb m l ≡ false)). let v : get_or (up m cs) l 0 ≡ 0 + get_or cs l 0 = rw p.1 at u in absurd (omega arith))
      (eqb-cases m l)
  positive_by_begin (ends {l = m} {r} {cs}) k l z h =
      let u = down-count l m (end_count l r) cs (omega (arith, k.remainder.0, k.size)) (k.counts l) in
      absurd (omega (arith, k.counts l))
  positive_by_begin enters k l z h = absurd (omega arith)
  positive_by_begin leaves k l z h = absurd (omega arith)
  positive_by_begin takes_one k l z h = absurd (omega arith)
  positive_by_begin takes_two k l z h = absurd (omega arith)

  pub zero_by_end : {c : ℕ} {b b' : Block} {cs cs' : List ℕ} → Transition ps c b cs b' cs' → Balanced b cs → (l : ℕ) → 0 < get_or cs l 0
      → get_or cs' l 0 ≡ 0
      → (r : Block) × (b ≡ end l r) × (b' ≡ r)
  unfolding Remainder end_count
  zero_by_end skips k l h z = absurd (omega arith)
  zero_by_end calls k l h z = absurd (omega arith)
  zero_by_end (begins {l = m} {b} {r} {cs}) k l h z = absurd (omega (arith, up-count l m cs (omega (arith, k.remainder.0, k.size))))
  zero_by_end (ends {l = m} {r} {cs}) k l h z =
      let u = down-count l m (end_count l r) cs (omega (arith, k.remainder.0, k.size)) (k.counts l) in
      ⊎_elim (λ (p : (m ≡ l) × (eqb m l ≡ true)). (r, ap (λ n. end n r) p.0, refl))
      (λ (p : (m ≢ l) × (eqb m l ≡ false)). let v : get_or cs l 0 ≡ 0 + end_count l r = rw p.1 at (k.counts l) in absurd (omega arith))
      (eqb-cases m l)
  zero_by_end enters k l h z = absurd (omega arith)
  zero_by_end leaves k l h z = absurd (omega arith)
  zero_by_end takes_one k l h z = absurd (omega arith)
  zero_by_end takes_two k l h z = absurd (omega arith)

  pub begin_positive : {c l : ℕ} {x r b' : Block} {cs cs' : List ℕ} → Transition ps c (hold l x r) cs b' cs' → Balanced (hold l x r) cs
      → 0 < get_or cs' l 0
  unfolding Remainder
  begin_positive (begins {l} {b} {r} {cs}) k =
      let u = up-count l l cs (omega (arith, k.remainder.0, k.size)) in
      let v : get_or (up l cs) l 0 ≡ 1 + get_or cs l 0 = rw (T_true (eqb l l) (eqb_refl l)) at u in
      omega arith
