-- The steps of a thread by itself as a relation that has each step of `move` (`move_transition`): a proof about steps has one clause for each kind of
-- step.
use Prim.Native.Nat.{ℕ}
use mathlib.Core.List.{List}
use mathlib.Core.Bool.{Bool, true, false, cond}
use mathlib.Core.Option.{Option, none, some, some-injective, none-ne-some}
use mathlib.Core.Path.{◌≡◌, refl, sym, subst}
use lib.Dec.{T, eqb, eqb→eq}
use Rattle.semantics.specs.Plan.{Block, done, skip, call, hold, loop, either, end, ◌⨾◌, body_in, Written}
use Rattle.semantics.specs.Run.{ThreadState, thread, up, down, move}
use Rattle.semantics.proofs.Thread.Remainders.{Remainder, remainder_⨾}

-- the steps that `move` allows: the choice, the remainder and the counts before, then those after
pub data Transition (ps : List Block) : ℕ → Block → List ℕ → Block → List ℕ → Type 0 where
  skips : {r : Block} {cs : List ℕ} → Transition ps 0 (skip r) cs r cs
  calls : {p : ℕ} {r : Block} {cs : List ℕ} → Transition ps 0 (call p r) cs (body_in ps p ⨾ r) cs
  begins : {l : ℕ} {b r : Block} {cs : List ℕ} → Transition ps 0 (hold l b r) cs (b ⨾ end l r) (up l cs)
  ends : {l : ℕ} {r : Block} {cs : List ℕ} → Transition ps 0 (end l r) cs r (down l cs)
  enters : {b r : Block} {cs : List ℕ} → Transition ps 1 (loop b r) cs (b ⨾ loop b r) cs
  leaves : {b r : Block} {cs : List ℕ} → Transition ps 2 (loop b r) cs r cs
  takes_one : {a b r : Block} {cs : List ℕ} → Transition ps 1 (either a b r) cs (a ⨾ r) cs
  takes_two : {a b r : Block} {cs : List ℕ} → Transition ps 2 (either a b r) cs (b ⨾ r) cs

module _ (ps : List Block) where
  abbrev Steps : ℕ → Block → List ℕ → ThreadState → Type 0
  Steps c b cs y = Transition ps c b cs y.rest y.count

  -- the one choice n leads to x
  under : (n c : ℕ) (b : Block) (cs : List ℕ) (x y : ThreadState) (o : Option ThreadState) → Steps n b cs x → (o ≡ some y → Steps c b cs y)
      → cond (eqb c n) (some x) o ≡ some y → Steps c b cs y
  under n c b cs x y o m k h = go (eqb c n) refl h
    where
      go : (t : Bool) → eqb c n ≡ t → cond t (some x) o ≡ some y → Steps c b cs y
      go true e h =
          subst (λ z. Steps c b cs z) (some-injective x y h)
          (subst (λ k. Steps k b cs x) (sym (eqb→eq c n (subst T (sym e) tt))) m)
      go false e h = k h

  pub move_transition : (c : ℕ) (b : Block) (cs : List ℕ) (y : ThreadState) → move ps c b cs ≡ some y → Transition ps c b cs y.rest y.count
  unfolding move
  move_transition c done cs y h = absurd (none-ne-some y h)
  move_transition c (skip r) cs y h = under 0 c (skip r) cs (thread r cs) y none skips (λ e. absurd (none-ne-some y e)) h
  move_transition c (call p r) cs y h = under 0 c (call p r) cs (thread (body_in ps p ⨾ r) cs) y none calls (λ e. absurd (none-ne-some y e)) h
  move_transition c (hold l b r) cs y h = under 0 c (hold l b r) cs (thread (b ⨾ end l r) (up l cs)) y none begins
      (λ e. absurd (none-ne-some y e)) h
  move_transition c (end l r) cs y h = under 0 c (end l r) cs (thread r (down l cs)) y none ends (λ e. absurd (none-ne-some y e)) h
  move_transition c (loop b r) cs y h =
      under 1 c (loop b r) cs (thread (b ⨾ loop b r) cs) y (cond (eqb c 2) (some (thread r cs)) none) enters
      (λ e. under 2 c (loop b r) cs (thread r cs) y none leaves (λ e. absurd (none-ne-some y e)) e) h
  move_transition c (either a b r) cs y h =
      under 1 c (either a b r) cs (thread (a ⨾ r) cs) y (cond (eqb c 2) (some (thread (b ⨾ r) cs)) none) takes_one
      (λ e. under 2 c (either a b r) cs (thread (b ⨾ r) cs) y none takes_two (λ e. absurd (none-ne-some y e)) e) h

-- a step of a remainder leaves one
module _ (ps : List Block) (C : ℕ → Type 0) (body : (p : ℕ) → C p → Written C (body_in ps p)) where
  pub remainder-step : {c : ℕ} {b b' : Block} {cs cs' : List ℕ} → Transition ps c b cs b' cs' → Remainder C b → Remainder C b'
  unfolding Remainder
  remainder-step skips v = v
  remainder-step (calls {p} {r}) v = remainder_⨾ C (body_in ps p) r (body p v.0) v.1
  remainder-step (begins {l} {b} {r}) v = remainder_⨾ C b (end l r) v.1 (v.0, v.2)
  remainder-step ends v = v.1
  remainder-step (enters {b} {r}) v = remainder_⨾ C b (loop b r) v.0 v
  remainder-step leaves v = v.1
  remainder-step (takes_one {a} {b} {r}) v = remainder_⨾ C a r v.0 v.2
  remainder-step (takes_two {a} {b} {r}) v = remainder_⨾ C b r v.1 v.2
