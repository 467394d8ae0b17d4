-- Critical pairs as source 000 publishes them: by the language of traces of a block (its Definitions 3.1, 3.5 and 4.1). Theorem
-- `critical-is-published` says that these pairs are those of 01 (`Critical`).
use Rattle.std.specs.Prelude.{ℕ, List, [], ◌∷◌, ◌++◌, ◌≡◌, T}
use Rattle.semantics.specs.Plan.{Block, done, skip, call, hold, loop, either, end, body_in}
use Rattle.semantics.specs.Run.{unlocked, up, down}
use Rattle.semantics.specs.Pairs.{pair_of, had, fresh}

-- Definition 3.1: "The lock alphabet Σ is defined as the union of two disjoint copies of Locks": ℓ, where the lock is acquired, and ℓ̄, where it is
-- released. 02, change 9: a lock is acquired by share or by hold, so that it is two copies of the claims here.
pub data Action : Type 0 where
  acquire : ℕ → Action
  release : ℕ → Action

-- "⟨ε⟩ := ∅, ⟨uℓ⟩ := ⟨u⟩[ℓ++], ⟨uℓ̄⟩ := ⟨u⟩[ℓ--]", here from the counts cs on
unfoldable pub counts_after : List ℕ → List Action → List ℕ
counts_after cs [] = cs
counts_after cs (acquire l ∷ u) = counts_after (up l cs) u
counts_after cs (release l ∷ u) = counts_after (down l cs) u

-- Definition 3.5: "The language ℒ(C) of a statement C is defined inductively as follows:
--   ℒ(skip) := {ε}   ℒ(p()) := ℒ(body(p))   ℒ(acq(ℓ)) := {ℓ}   ℒ(rel(ℓ)) := {ℓ̄}   ℒ(C₁; C₂) := ℒ(C₁) · ℒ(C₂)
--   ℒ(if(∗) then C₁ else C₂) := ℒ(C₁) ∪ ℒ(C₂)   ℒ(while(∗) do C) := ℒ(C)*".
-- A block is its first statement, then the rest r, so each word has a word v of the rest at its end. A hold is acq(ℓ); b; rel(ℓ), and a
-- share the same of its claim.
pub data InLanguage (ps : List Block) : Block → List Action → Type 0 where
  in_done : InLanguage ps done []
  in_skip : {r : Block} {v : List Action} → InLanguage ps r v → InLanguage ps (skip r) v
  in_call : {p : ℕ} {r : Block} {u v : List Action} → InLanguage ps (body_in ps p) u → InLanguage ps r v → InLanguage ps (call p r) (u ++ v)
  in_hold : {l : ℕ} {b r : Block} {u v : List Action} → InLanguage ps b u → InLanguage ps r v → InLanguage ps (hold l b r) (acquire l ∷ (u ++ release l ∷ v))
  in_leave : {b r : Block} {v : List Action} → InLanguage ps r v → InLanguage ps (loop b r) v
  in_enter : {b r : Block} {u v : List Action} → InLanguage ps b u → InLanguage ps (loop b r) v → InLanguage ps (loop b r) (u ++ v)
  in_one : {a b r : Block} {u v : List Action} → InLanguage ps a u → InLanguage ps r v → InLanguage ps (either a b r) (u ++ v)
  in_two : {a b r : Block} {u v : List Action} → InLanguage ps b u → InLanguage ps r v → InLanguage ps (either a b r) (u ++ v)
  in_end : {l : ℕ} {r : Block} {v : List Action} → InLanguage ps r v → InLanguage ps (end l r) (release l ∷ v)

-- Definition 4.1: "The set Crit(C) of critical pairs of a statement C is defined as: Crit(C) := {(⌊⟨u⟩⌋, ℓ) | ∃v. uℓv ∈ ℒ(C) and ℓ ∉ ⌊⟨u⟩⌋}", where
-- ⌊⟨u⟩⌋ is the set of the claims with a positive count after u, and ℓ ∉ ⌊⟨u⟩⌋ is widened to: ℓ is fresh (02, change 9). Here C is procedure p, ℓ is `claim`, u is `before`,
-- v is `behind`, and w is the pair as one number.
pub record PublishedCritical (ps : List Block) (p w : ℕ) : Type 0 where
  pub before : List Action
  pub claim : ℕ
  pub behind : List Action
  pub in_language : InLanguage ps (body_in ps p) (before ++ acquire claim ∷ behind)
  pub free : T (fresh (counts_after unlocked before) claim)
  pub pair : w ≡ pair_of (had (counts_after unlocked before)) claim
