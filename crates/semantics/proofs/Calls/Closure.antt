-- Warshall's algorithm: after round k a mask has what is reached through procedures below k (`row-meet`: ways that meet below k are one way; of a way through procedures
-- below k + 1 either all are below k, or it goes to k and from k on). So after all rounds it has what is reached (`reaches-is`).
use Prim.Native.Nat.{ℕ, zero, suc, ◌<◌, ◌≤◌}
use mathlib.Core.Bool.{Bool, true, false, ◌||◌, ◌&&◌, cond}
use mathlib.Core.List.{List}
use mathlib.Core.Logic.{◌⊎◌, inl, inr, ⊎_elim, ◌↔◌}
use mathlib.Core.Path.{◌≡◌, refl, sym, ap, ◌∙◌, subst}
use native.Mathlib.Nat.{eq-or-lt_of_le}
use native.Mathlib.Omega.{arith}
use lib.Bits.{bit_or}
use lib.Dec.{T}
use lib.ListN.{length, get_or, get_or-map}
use Rattle.laws.specs.Mask.{in_mask}
use Rattle.laws.proofs.Masks.{in_none, in_power, in_or}
use Rattle.laws.proofs.Tests.{T_and, and_T, T-or, or_T, lt_or_le}
use Rattle.semantics.specs.Plan.{Block, done, skip, call, hold, loop, either, end, body_in}
use Rattle.semantics.specs.Calls.{has_call, Reaches, directly, through}
use Rattle.semantics.specs.CallMasks.{call_mask, join_through, warshall_round, reach_masks, reach_mask, reaches}
use Rattle.semantics.proofs.Thread.Remainders.{absent-body, map-bodies}

-- the mask of a block has what the block calls
call-mask : (b : Block) (q : ℕ) → in_mask (call_mask b) q ≡ has_call b q
unfolding call_mask has_call
call-mask done q = in_none q
call-mask (skip r) q = call-mask r q
call-mask (call p r) q = rw (in_or, in_power, call-mask r q)
call-mask (hold l b r) q = rw (in_or, call-mask b q, call-mask r q)
call-mask (loop b r) q = rw (in_or, call-mask b q, call-mask r q)
call-mask (either a b r) q = rw (in_or (call_mask a), in_or (call_mask b), call-mask a q, call-mask b q, call-mask r q)
call-mask (end l r) q = call-mask r q

join_in : (k reached mask q : ℕ) → in_mask (join_through k reached mask) q ≡ (in_mask mask q || (in_mask mask k && in_mask reached q))
unfolding join_through
join_in k reached mask q = go (in_mask mask k)
  where
    or_false : (b : Bool) → b ≡ (b || false)
    or_false true = refl
    or_false false = refl

    go : (b : Bool) → in_mask (cond b (bit_or mask reached) mask) q ≡ (in_mask mask q || (b && in_mask reached q))
    go true = in_or mask reached q
    go false = or_false (in_mask mask q)

module _ (ps : List Block) where
  -- the mask of procedure p after k rounds
  abbrev row : ℕ → ℕ → ℕ
  row k p = get_or (reach_masks k ps) p 0

  row_first : (p : ℕ) → get_or (reach_masks 0 ps) p 0 ≡ call_mask (body_in ps p)
  unfolding reach_masks call_mask
  row_first p = map-bodies call_mask ps p

  row_next : (k p : ℕ) → get_or (reach_masks (suc k) ps) p 0 ≡ join_through k (get_or (reach_masks k ps) k 0) (get_or (reach_masks k ps) p 0)
  unfolding reach_masks warshall_round join_through
  row_next k p =
      let f = join_through k (row k k) in
      let empty : f 0 ≡ 0 = rw (in_none k) refl in
      ap (get_or (warshall_round k (reach_masks k ps)) p) (sym empty) ∙ get_or-map f (reach_masks k ps) p 0

  -- q is in row p after k rounds
  abbrev row_in : ℕ → ℕ → ℕ → Bool
  row_in k p q = in_mask (row k p) q

  first-calls : (p q : ℕ) → row_in 0 p q ≡ has_call (body_in ps p) q
  first-calls p q = ap (λ m. in_mask m q) (row_first p) ∙ call-mask (body_in ps p) q

  next_joins : (k p q : ℕ) → row_in (suc k) p q ≡ (row_in k p q || (row_in k p k && row_in k k q))
  next_joins k p q = ap (λ m. in_mask m q) (row_next k p) ∙ join_in k (row k k) (row k p) q

  -- a round keeps what was there, and joins two ways at k
  row_keeps : (k p q : ℕ) → T (row_in k p q) → T (row_in (suc k) p q)
  row_keeps k p q h = rw (next_joins k p q) (or_T (row_in k p q) _ (inl h))

  row_joins : (k p q : ℕ) → T (row_in k p k) → T (row_in k k q) → T (row_in (suc k) p q)
  row_joins k p q h i = rw (next_joins k p q) (or_T (row_in k p q) _ (inr (and_T (row_in k p k) (row_in k k q) h i)))

  row-cases : (k p q : ℕ) → T (row_in (suc k) p q) → T (row_in k p q) ⊎ (T (row_in k p k) × T (row_in k k q))
  row-cases k p q h =
      ⊎_elim (λ x. inl x) (λ x. inr (T_and (row_in k p k) (row_in k k q) x))
      (T-or (row_in k p q) (row_in k p k && row_in k k q) (rw (next_joins k p q) at h))

  row-to : (k p : ℕ) → T (row_in (suc k) p k) → T (row_in k p k)
  row-to k p h = ⊎_elim (λ x. x) (λ x. x.0) (row-cases k p k h)

  row_from : (k q : ℕ) → T (row_in (suc k) k q) → T (row_in k k q)
  row_from k q h = ⊎_elim (λ x. x) (λ x. x.1) (row-cases k k q h)

  -- ways that meet at a procedure below k
  row-meet : (k r p q : ℕ) → r < k → T (row_in k p r) → T (row_in k r q) → T (row_in k p q)
  row-meet zero r p q b h i = absurd (omega arith)
  row-meet (suc k) r p q b h i =
      ⊎_elim
      (λ (e : r ≡ k). row_joins k p q (row-to k p (subst (λ x. T (row_in (suc k) p x)) e h)) (row_from k q (subst (λ x. T (row_in (suc k) x q)) e i)))
      (λ (l : r < k).
      ⊎_elim
      (λ (a : T (row_in k p r)).
      ⊎_elim (λ (c : T (row_in k r q)). row_keeps k p q (row-meet k r p q l a c))
      (λ (c : T (row_in k r k) × T (row_in k k q)). row_joins k p q (row-meet k r p k l a c.0) c.1)
      (row-cases k r q i))
      (λ (a : T (row_in k p k) × T (row_in k k r)).
      ⊎_elim (λ (c : T (row_in k r q)). row_joins k p q a.0 (row-meet k r k q l a.1 c))
      (λ (c : T (row_in k r k) × T (row_in k k q)). row_joins k p q a.0 c.1)
      (row-cases k r q i))
      (row-cases k p r h))
      (eq-or-lt_of_le (omega arith))

  reaches_trans : {p r q : ℕ} → Reaches ps p r → Reaches ps r q → Reaches ps p q
  reaches_trans (directly h) y = through h y
  reaches_trans (through h x) y = through h (reaches_trans x y)

  row-reached : (k p q : ℕ) → T (row_in k p q) → Reaches ps p q
  row-reached zero p q h = directly (rw (first-calls p q) at h)
  row-reached (suc k) p q h =
      ⊎_elim (λ x. row-reached k p q x) (λ x. reaches_trans (row-reached k p k x.0) (row-reached k k q x.1)) (row-cases k p q h)

  row-call : (k p q : ℕ) → T (has_call (body_in ps p) q) → T (row_in k p q)
  row-call zero p q h = rw (first-calls p q) h
  row-call (suc k) p q h = row_keeps k p q (row-call k p q h)

  -- a procedure that calls is there
  caller_present : (p q : ℕ) → T (has_call (body_in ps p) q) → p < length ps
  unfolding has_call
  caller_present p q h = ⊎_elim (λ b. b) (λ (o : length ps ≤ p). absurd (rw (absent-body ps p o) at h)) (lt_or_le p (length ps))

  pub reacher_present : {p q : ℕ} → Reaches ps p q → p < length ps
  reacher_present {p} {q} (directly h) = caller_present p q h
  reacher_present {p} {q} (through {r = r} h x) = caller_present p r h

  reached-row : {p q : ℕ} → Reaches ps p q → T (row_in (length ps) p q)
  reached-row {p} {q} (directly h) = row-call (length ps) p q h
  reached-row {p} {q} (through {r = r} h x) = row-meet (length ps) r p q (reacher_present x) (row-call (length ps) p r h) (reached-row x)

  -- the masks have what is reached
  pub reaches-is : (p q : ℕ) → T (reaches ps p q) ↔ Reaches ps p q
  unfolding reach_mask
  reaches-is p q = (row-reached (length ps) p q, reached-row)
