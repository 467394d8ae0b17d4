-- The members of the list of couples are the couples, one pair of each list, that cross (`couples_are`); and there are no more than the lists have pairs, one for the other
-- (`couples-few`).
use Prim.Native.Nat.{ℕ, suc, ◌*◌, ◌≤◌}
use native.Mathlib.Omega.{arith}
use mathlib.Core.Bool.{Bool, true, false, cond, ◌&&◌}
use mathlib.Core.List.Memᴰ
use mathlib.Core.List.{List, [], ◌∷◌, flat_map, Memᴰ}
use mathlib.Core.Logic.{⊎_elim, ◌↔◌}
use mathlib.Core.Path.{◌≡◌, refl, ap, subst}
use lib.Bits.{bit_and}
use lib.Dec.{T, eqb→eq}
use lib.ListN.{length, length-append}
use Rattle.limits.specs.Limits.{max_pairs}
use Rattle.laws.specs.Mask.{bit}
use Rattle.laws.proofs.Tests.{T_and, and_T, T_true, eq→eqb}
use Rattle.semantics.specs.Pairs.{had_of, wanted_of}
use Rattle.semantics.specs.Conflict.{bars, compatible_sets, excludes_set}
use Rattle.couples.specs.Couples.{Couple, couple, Crosses, crosses, couples_with, couples_of}

pub crosses-is : (v w : ℕ) → T (crosses v w) ↔ Crosses v w
unfolding crosses
crosses-is v w = (
  λ t.
      let x = T_and (compatible_sets (had_of v) (had_of w)) (excludes_set (had_of w) (wanted_of v) && excludes_set (had_of v) (wanted_of w)) t in
      let y = T_and (excludes_set (had_of w) (wanted_of v)) (excludes_set (had_of v) (wanted_of w)) x.1 in
      record {
        apart = eqb→eq (bit_and (bars (had_of v)) (had_of w)) 0 x.0;
        first-wants = eqb→eq (bit (bars (had_of w)) (wanted_of v)) 1 y.0;
        second-wants = eqb→eq (bit (bars (had_of v)) (wanted_of w)) 1 y.1;
      },
  λ c.
      and_T (compatible_sets (had_of v) (had_of w)) (excludes_set (had_of w) (wanted_of v) && excludes_set (had_of v) (wanted_of w))
      (eq→eqb (bit_and (bars (had_of v)) (had_of w)) 0 c.apart)
      (and_T (excludes_set (had_of w) (wanted_of v)) (excludes_set (had_of v) (wanted_of w))
      (eq→eqb (bit (bars (had_of w)) (wanted_of v)) 1 c.first-wants) (eq→eqb (bit (bars (had_of v)) (wanted_of w)) 1 c.second-wants)),
)

-- ---- the couples of one pair

-- a couple of the pair v with one of ws
pub record With (v : ℕ) (ws : List ℕ) (c : Couple) : Type 0 where
  pub is : c.first ≡ v
  pub from : Memᴰ c.second ws
  pub cross : T (crosses v c.second)

pub with_member : (v : ℕ) (ws : List ℕ) (c : Couple) → Memᴰ c (couples_with v ws) → With v ws c
unfolding couples_with
with_member v [] c m = absurd (Memᴰ.not-nil m)
with_member v (w ∷ ws) c m = go (crosses v w) refl m (λ n. with_member v ws c n)
  where
    later : With v ws c → With v (w ∷ ws) c
    later x = record { is = x.is; from = Memᴰ.tail x.from; cross = x.cross }

    go : (b : Bool) → crosses v w ≡ b → Memᴰ c (cond b (couple v w ∷ couples_with v ws) (couples_with v ws)) → (Memᴰ c (couples_with v ws) → With v ws c)
        → With v (w ∷ ws) c
    go true e n rec =
        ⊎_elim
        (λ (q : c ≡ couple v w).
        record {
          is = ap (λ x. x.first) q;
          from = Memᴰ.head (ap (λ x. x.second) q);
          cross = rw (ap (λ x. x.second) q, e) tt;
        })
        (λ k. later (rec k)) (Memᴰ.cases_cons n)
    go false e n rec = later (rec n)

member_with : (v : ℕ) (ws : List ℕ) (w : ℕ) → Memᴰ w ws → T (crosses v w) → Memᴰ (couple v w) (couples_with v ws)
unfolding couples_with
member_with v [] w m t = absurd (Memᴰ.not-nil m)
member_with v (x ∷ ws) w m t =
    ⊎_elim
    (λ (e : w ≡ x). let k : crosses v x ≡ true = T_true (crosses v x) (subst (λ y. T (crosses v y)) e t) in rw k (Memᴰ.head (ap (couple v) e)))
    (λ n. later (crosses v x) (member_with v ws w n t)) (Memᴰ.cases_cons m)
  where
    later : (b : Bool) → Memᴰ (couple v w) (couples_with v ws) → Memᴰ (couple v w) (cond b (couple v x ∷ couples_with v ws) (couples_with v ws))
    later true n = Memᴰ.tail n
    later false n = n

with_few : (v : ℕ) (ws : List ℕ) → length (couples_with v ws) ≤ length ws
unfolding couples_with
with_few v [] = omega arith
with_few v (w ∷ ws) = go (crosses v w) (with_few v ws)
  where
    go : (b : Bool) → length (couples_with v ws) ≤ length ws → length (cond b (couple v w ∷ couples_with v ws) (couples_with v ws)) ≤ suc (length ws)
    go true h = omega arith
    go false h = omega arith

-- ---- those of two lists

-- a couple of the list
pub record Among (vs ws : List ℕ) (c : Couple) : Type 0 where
  pub first-from : Memᴰ c.first vs
  pub second_from : Memᴰ c.second ws
  pub cross : Crosses c.first c.second

among-member : (vs ws : List ℕ) (c : Couple) → Memᴰ c (couples_of vs ws) → Among vs ws c
unfolding flat_map
among-member [] ws c m = absurd (Memᴰ.not-nil m)
among-member (v ∷ vs) ws c m =
    ⊎_elim
    (λ (k : Memᴰ c (couples_with v ws)).
    let x = with_member v ws c k in
    record { first-from = Memᴰ.head x.is; second_from = x.from; cross = (crosses-is c.first c.second).0 (rw x.is x.cross) })
    (λ (k : Memᴰ c (couples_of vs ws)).
    let x = among-member vs ws c k in
    record { first-from = Memᴰ.tail x.first-from; second_from = x.second_from; cross = x.cross })
    (Memᴰ.append_cases (couples_with v ws) m)

member-among : (vs ws : List ℕ) (v w : ℕ) → Memᴰ v vs → Memᴰ w ws → T (crosses v w) → Memᴰ (couple v w) (couples_of vs ws)
unfolding flat_map
member-among [] ws v w m n t = absurd (Memᴰ.not-nil m)
member-among (x ∷ vs) ws v w m n t =
    ⊎_elim
    (λ (e : v ≡ x). Memᴰ.append_left (couples_of vs ws) (subst (λ y. Memᴰ (couple v w) (couples_with y ws)) e (member_with v ws w n t)))
    (λ k. Memᴰ.append_right (couples_with x ws) (member-among vs ws v w k n t)) (Memᴰ.cases_cons m)

pub couples_are : (vs ws : List ℕ) (c : Couple) → Memᴰ c (couples_of vs ws) ↔ Among vs ws c
couples_are vs ws c = (
  among-member vs ws c,
  λ x. member-among vs ws c.first c.second x.first-from x.second_from ((crosses-is c.first c.second).1 x.cross),
)

pub couples-few : (vs ws : List ℕ) → length ws ≤ max_pairs → length (couples_of vs ws) ≤ max_pairs * length vs
unfolding flat_map
couples-few [] ws h = omega arith
couples-few (v ∷ vs) ws h = rw length-append (omega (arith, with_few v ws, couples-few vs ws h))
