-- `(0..n).filter(p).fold(0, |all, i| all | f(i))` is the join of f over the numbers below n that pass, and their set where f gives the bit of each.
use Rattle.std.proofs.Common.{◌≡◌, ℕ, zero, suc, ◌+◌, ◌^◌, Bool, true, false, cond, List, [], ◌∷◌, ◌++◌, refl, sym, ap, ◌∙◌, arith, add-zero}
use Rattle.std.specs.Int.Bits.{bit_or, or_zero_r}
use Rattle.std.specs.Fn.{Called, CalledAt}
use Rattle.std.specs.List.{fold, filter, range_with_len, FoldsTo}
use Rattle.std.specs.Iterator.{Drains}
use Rattle.std.specs.Iterator.Adapters.{filter_source, filter_callee, filter_steps}
use Rattle.std.specs.declared.iter.Filter.{Filter}
use Rattle.std.specs.declared.ops.Range.{Range}
use Rattle.std.proofs.iter.Yields.{nat_range_steps}
use Rattle.std.proofs.lemmas.Iterator.{YieldsList-from_range}
use Rattle.std.proofs.lemmas.Iterator.Consumers.{YieldsList-from_filter, fold_from_yields_List}
use Rattle.std.proofs.lemmas.List.Sums.{fold-append}
use Rattle.std.proofs.lemmas.List.Elements.{filter-append}
use denote.Param.Members.{Mut}
use denote.Ref.{Bor}
use Rattle.laws.specs.Mask.{mask_of}
use Rattle.laws.proofs.Masks.{mask-more}
use Rattle.semantics.specs.Joins.{join_below}

range_more : (a n : ℕ) → range_with_len a (suc n) ≡ range_with_len a n ++ (a + n) ∷ []
range_more a zero = rw add-zero
range_more a (suc n) = let e : (a + 1) + n ≡ a + suc n = omega arith in rw (← e) (ap (λ (l : List ℕ). a ∷ l) (range_more (a + 1) n))

module _ (p : ℕ → Bool) (f : ℕ → ℕ) where
  abbrev h : ℕ → ℕ → ℕ
  h a i = bit_or a (f i)

  one : (a i : ℕ) → fold h a (filter p (i ∷ [])) ≡ bit_or a (cond (p i) (f i) 0)
  one a i = elim (p i) as (λ b. fold h a (cond b (i ∷ []) []) ≡ bit_or a (cond b (f i) 0)) [ true ↦ refl | false ↦ sym (or_zero_r a) ]

  folded : (n : ℕ) → fold h 0 (filter p (range_with_len 0 n)) ≡ join_below n p f
  unfolding join_below
  folded zero = refl
  folded (suc n) =
      let z : 0 + n ≡ n = omega arith in
      ap (λ (l : List ℕ). fold h 0 (filter p l)) (range_more 0 n ∙ ap (λ i. range_with_len 0 n ++ i ∷ []) z)
      ∙ ap (fold h 0) (filter-append p (range_with_len 0 n) (n ∷ []))
      ∙ fold-append h 0 (filter p (range_with_len 0 n)) (filter p (n ∷ []))
      ∙ ap (λ a. fold h a (filter p (n ∷ []))) (folded n)
      ∙ one (join_below n p f) n

-- the closures p and f, the chain's source, and what its fold ran
module _ {F G : Type 0} (g : Mut F (Bor ℕ × Unit {0}) Bool) (h : Mut G (ℕ × (ℕ × Unit {0})) ℕ) {q : F} {j : G} (p : ℕ → Bool) (f : ℕ → ℕ) (n r : ℕ) (s : Filter (Range ℕ) F) where
  pub joined : filter_source s ≡ record { start = 0; end = n } → filter_callee s ≡ q → ((x : ℕ) (b : Bool) (q' : F) → CalledAt g q x b q' → (q' ≡ q) × (b ≡ p x))
      → ((xs : List ℕ) × (j' : G) × Drains (filter_steps nat_range_steps g) s xs × FoldsTo {P = G × ℕ} (λ a x b. Called h a.0 (a.1, (x, tt)) b.1 b.0) (j, 0) xs (j', r))
      → ((a x b : ℕ) (j' : G) → Called h j (a, (x, tt)) b j' → (j' ≡ j) × (b ≡ bit_or a (f x))) → r ≡ join_below n p f
  joined from test passes ran adds =
      fold_from_yields_List h (λ a i. bit_or a (f i)) 0 r ran (YieldsList-from_filter g p (YieldsList-from_range 0 n n from (omega arith)) test passes) adds ∙ folded p f n

join-mask : (p : ℕ → Bool) (n : ℕ) → join_below n p (λ i. 2 ^ i) ≡ mask_of n p
unfolding join_below mask_of
join-mask p zero = refl
join-mask p (suc n) =
    let e : n + 1 ≡ suc n = omega arith in
    mask-more p n (join_below n p (λ i. 2 ^ i)) (cond (p n) (2 ^ n) 0) (join-mask p n) refl ∙ ap (λ k. mask_of k p) e

pub gathered : (p : ℕ → Bool) (n r : ℕ) → r ≡ join_below n p (λ i. 2 ^ i) → r ≡ mask_of n p
gathered p n r e = e ∙ join-mask p n
