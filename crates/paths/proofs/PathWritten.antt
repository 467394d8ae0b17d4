-- The walk of a procedure whose pairs have the pair finds it (`path-found`), so what is written is the path.
use Prim.Native.Nat.{ℕ, ◌-◌, ◌<◌, ◌≤◌}
use native.Mathlib.Omega.{arith}
use Rattle.std.specs.declared.ops.ControlFlow.TheVariants.{Continue, Break}
use mathlib.Core.List.{List, []}
use mathlib.Core.Path.{◌≡◌, sym, ap, ◌∙◌}
use lib.ListN.{length, take, get_or}
use lib.Seq.{length-take-le}
use Rattle.limits.specs.Limits.{max_size}
use Rattle.semantics.specs.Plan.{body_in}
use Rattle.semantics.specs.Sizes.{size_of}
use Rattle.semantics.specs.Paths.{found, PathFound}
use Rattle.semantics.proofs.Analysis.Paths.{path-found}
use Rattle.paths.specs.declared.Spot.{Spot}
use Rattle.paths.specs.Walks.{procs_in, Stopped, outcome_of, Walks, BlockWalked, PathAsked, PathWritten}
use Rattle.paths.proofs.Walking.{one_deeper, size-deeper}

module _ {ws starts s s₁ : List ℕ} {procs p pair : ℕ} {r : Stopped} (a : PathAsked ws starts procs p pair) (room : max_size ≤ length s)
    (i : Walks ws pair (record { depth = procs - 1; mask = 0 }) (get_or starts p 0) s 0 (take 0 s) 0 r s₁) where
  proc-walked : (later : _) × BlockWalked ws pair (record { depth = length (procs_in ws) - 1; mask = 0 }) (take 0 s) 0 (body_in (procs_in ws) p) later r s₁
  unfolding size_of
  proc-walked =
      let here : p < length (procs_in ws) = rw (← a.count) a.present in
      let there = a.begins.stands p here in
      let size = size-deeper (procs_in ws) (length (procs_in ws)) p (λ z. omega arith) in
      let small = a.small in (
        there.later,
        rw a.count at (i.walked (body_in (procs_in ws) p) there.later there.written (a.plan.settled.callees_present p)
            (rw a.count (omega arith))),
      )

  path-of : PathFound (length (procs_in ws)) (procs_in ws) p pair
  path-of =
      let here : p < length (procs_in ws) = rw (← a.count) a.present in
      path-found (procs_in ws) a.ranks.rank a.ranks.sound (length (procs_in ws)) p pair (a.ranks.below p here) a.member

  same-outcome : found path-of.path ≡ outcome_of r s₁
  same-outcome =
      let here : p < length (procs_in ws) = rw (← a.count) a.present in
      sym path-of.walked ∙ one_deeper (procs_in ws) (length (procs_in ws)) pair p 0 [] (λ z. omega arith) ∙ proc-walked.1.outcome

module _ {ws starts s s₁ : List ℕ} {procs p pair : ℕ} (a : PathAsked ws starts procs p pair) (room : max_size ≤ length s) where
  pub path-written : {n : ℕ} → Walks ws pair (record { depth = procs - 1; mask = 0 }) (get_or starts p 0) s 0 (take 0 s) 0 (Break n) s₁
      → PathWritten ws p pair n s₁
  path-written {n} i =
      let f = path-of a room i in
      let same : take n s₁ ≡ f.path = let e = same-outcome a room i in cc in
      record { found = f; written = same; count = sym (length-take-le n s₁ i.buffer.room) ∙ ap length same }

  -- the walk comes to the hold
  pub never-passed : {here : Spot} → Walks ws pair (record { depth = procs - 1; mask = 0 }) (get_or starts p 0) s 0 (take 0 s) 0 (Continue here) s₁ → ⊥
  never-passed i = let e = same-outcome a room i in cc
