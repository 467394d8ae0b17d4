-- A block and the straightened one have the same calls (`straight-calls`), so that the same procedures reach each other (`straight-reaches`) and the same are reachable from the
-- threads (`straight-reachable`).
use Prim.Native.Nat.{ℕ}
use mathlib.Core.Bool.{◌||◌, or_assoc}
use mathlib.Core.List.{List, map}
use mathlib.Core.Logic.{◌↔◌}
use mathlib.Core.Path.{◌≡◌, refl, sym, ap, ◌∙◌, subst}
use lib.Dec.{T}
use Rattle.semantics.specs.Plan.{Block, done, skip, call, hold, loop, either, end, ◌⨾◌, LockPlan, body_in}
use Rattle.semantics.specs.Calls.{has_call, Reaches, directly, through, Recursive, Reachable, named, through-calls}
use Rattle.straightening.specs.Straight.{straight, straight_plan}
use Rattle.straightening.proofs.Blocks.{straight-body}

calls_⨾ : (a b : Block) (q : ℕ) → has_call (a ⨾ b) q ≡ (has_call a q || has_call b q)
unfolding has_call ◌⨾◌
calls_⨾ done b q = refl
calls_⨾ (skip r) b q = calls_⨾ r b q
calls_⨾ (call p r) b q = rw (calls_⨾ r b q) (simp or_assoc)
calls_⨾ (hold l x r) b q = rw (calls_⨾ r b q) (simp or_assoc)
calls_⨾ (loop x r) b q = rw (calls_⨾ r b q) (simp or_assoc)
calls_⨾ (either x y r) b q = rw (calls_⨾ r b q) (simp or_assoc)
calls_⨾ (end l r) b q = calls_⨾ r b q

straight-calls : (b : Block) (q : ℕ) → has_call (straight b) q ≡ has_call b q
unfolding has_call straight
straight-calls done q = refl
straight-calls (skip r) q = straight-calls r q
straight-calls (call p r) q = cc (straight-calls r q)
straight-calls (hold l b r) q = cc (straight-calls b q, straight-calls r q)
straight-calls (loop b r) q = rw (calls_⨾ (straight b) (straight r) q) (cc (straight-calls b q, straight-calls r q))
straight-calls (either a b r) q =
    rw (calls_⨾ (straight a) (straight b ⨾ straight r) q, calls_⨾ (straight b) (straight r) q) (cc (straight-calls a q, straight-calls b q, straight-calls r q))
straight-calls (end l r) q = straight-calls r q

-- procedures whose blocks have the calls that those of others have, and the same threads
module _ (ps qs : List Block) (same : (p q : ℕ) → has_call (body_in ps p) q ≡ has_call (body_in qs p) q) where
  reaches_too : {p q : ℕ} → Reaches ps p q → Reaches qs p q
  reaches_too {p} {q} (directly h) = directly (subst T (same p q) h)
  reaches_too {p} {q} (through {r = r} h x) = through (subst T (same p r) h) (reaches_too x)

  reachable_too : (ns : List ℕ) {p : ℕ} → Reachable (record { procs = ps; threads = ns }) p → Reachable (record { procs = qs; threads = ns }) p
  reachable_too ns (named m) = named m
  reachable_too ns (through-calls m x) = through-calls m (reaches_too x)

module _ (ps : List Block) where
  body-calls : (p q : ℕ) → has_call (body_in (map straight ps) p) q ≡ has_call (body_in ps p) q
  body-calls p q = ap (λ b. has_call b q) (straight-body ps p) ∙ straight-calls (body_in ps p) q

  body_calls' : (p q : ℕ) → has_call (body_in ps p) q ≡ has_call (body_in (map straight ps) p) q
  body_calls' p q = sym (body-calls p q)

  pub straight-reaches : (p q : ℕ) → Reaches (map straight ps) p q ↔ Reaches ps p q
  straight-reaches p q = (reaches_too (map straight ps) ps body-calls, reaches_too ps (map straight ps) body_calls')

  pub straight-recursive : (p : ℕ) → Recursive (map straight ps) p ↔ Recursive ps p
  straight-recursive p = straight-reaches p p

pub straight-reachable : (plan : LockPlan) (p : ℕ) → Reachable (straight_plan plan) p ↔ Reachable plan p
unfolding straight_plan
straight-reachable plan p =
    let ps = plan.procs in
    (reachable_too (map straight ps) ps (body-calls ps) plan.threads, reachable_too ps (map straight ps) (body_calls' ps) plan.threads)
