-- Of ascending lists the couples are in order, "by the first word, then the second", and none is there twice (`couples-ordered`).
use Prim.Native.Nat.{ℕ, ◌<◌}
use mathlib.Core.Bool.{Bool, true, false, cond}
use mathlib.Core.List.Memᴰ
use mathlib.Core.List.{List, [], ◌∷◌, ◌++◌, flat_map, Memᴰ}
use mathlib.Core.Logic.{inl, inr, ⊎_elim}
use mathlib.Core.Path.{refl, sym, subst}
use Rattle.laws.specs.Ascending.{Ascends}
use Rattle.couples.specs.Couples.{Couple, couple, crosses, couples_with, couples_of, Before, InOrder}
use Rattle.couples.proofs.Members.{with_member, couples_are}

with_ordered : (v : ℕ) (ws : List ℕ) → Ascends ws → InOrder (couples_with v ws)
unfolding couples_with InOrder Ascends
with_ordered v [] a = tt
with_ordered v (w ∷ ws) a = go (crosses v w) (with_ordered v ws a.1)
  where
    go : (b : Bool) → InOrder (couples_with v ws) → InOrder (cond b (couple v w ∷ couples_with v ws) (couples_with v ws))
    go true o = (λ d m. let x = with_member v ws d m in inr (sym x.is, a.0 d.second x.from), o)
    go false o = o

append_ordered : (cs ds : List Couple) → InOrder cs → InOrder ds → ((c d : Couple) → Memᴰ c cs → Memᴰ d ds → Before c d) → InOrder (cs ++ ds)
unfolding InOrder
append_ordered [] ds o p h = p
append_ordered (c ∷ cs) ds o p h = (
  λ d m. ⊎_elim (λ k. o.0 d k) (λ k. h c d (Memᴰ.head refl) k) (Memᴰ.append_cases cs m),
  append_ordered cs ds o.1 p (λ e d k l. h e d (Memᴰ.tail k) l),
)

pub couples-ordered : (vs ws : List ℕ) → Ascends vs → Ascends ws → InOrder (couples_of vs ws)
unfolding flat_map InOrder Ascends
couples-ordered [] ws a b = tt
couples-ordered (v ∷ vs) ws a b =
    append_ordered (couples_with v ws) (couples_of vs ws) (with_ordered v ws b) (couples-ordered vs ws a.1 b)
    (λ c d m n. inl (subst (λ x. x < d.first) (sym (with_member v ws c m).is) (a.0 d.first ((couples_are vs ws d).0 n).first-from)))
