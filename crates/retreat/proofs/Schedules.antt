-- Tables that are right for a plan and a cycle are paths of its threads (`Paths`), at whose ends each member stands before the hold of its pair
-- (`AtCycle`). So the way back starts at the theory's first target, and where it has come to the start the entries are a schedule, with the set that
-- the rounds give.
use Prim.Native.Nat.{ℕ, zero, suc, ◌+◌, ◌-◌, ◌%◌, ◌<◌, ◌≤◌}
use native.Mathlib.Omega.{arith}
use mathlib.Core.Path.{◌≡◌, refl, sym, ap, ◌∙◌, subst}
use mathlib.Core.Logic.{◌⊎◌, inl, inr, ⊎_elim, ◌≢◌}
use mathlib.Core.List.{List, [], ◌++◌}
use lib.Dec.{T, eqb, eqb→eq, eqb_refl}
use lib.ListN.{length, get_or, take, drop, length-drop, length-map, get_or-map}
use lib.Seq.{take-length, length-take-le, get_or-take, get_or-drop}
use Rattle.limits.specs.Limits.{max_threads, max_size, max_entries}
use Rattle.laws.specs.Mask.{in_mask}
use Rattle.laws.specs.Wrote.{Wrote}
use Rattle.laws.proofs.Tests.{search_below}
use Rattle.semantics.specs.Plan.{Block, done, hold, ◌⨾◌, body_in, LockPlan}
use Rattle.semantics.specs.Run.{ThreadState, thread, initial, unlocked}
use Rattle.semantics.specs.Sizes.{size_of, thread_size, thread_sizes}
use Rattle.semantics.specs.Stuck.{Schedule}
use Rattle.semantics.specs.Pairs.{had, had_of, wanted_of}
use Rattle.semantics.specs.Retreat.{had_mask, Paths, GoingBack}
use Rattle.semantics.proofs.Ground.Claims.{pair-had, pair-wants}
use Rattle.semantics.proofs.Thread.Remainders.{plain_body}
use Rattle.semantics.specs.Execution.{state_after}
use Rattle.semantics.specs.StuckRounds.{stuck_rounds}
use Rattle.columns.specs.Columns.{steps}
use Rattle.columns.proofs.Steps.{steps-length, steps-at, step-choice, step-mask}
use Rattle.semantics.specs.Paths.{step_of, choices as choices_of, choice_of, mask_in, mask_at, Stands}
use Rattle.semantics.proofs.Analysis.Paths.{stands-first, stands-last, stands-masks}
use Rattle.semantics.proofs.Retreat.RetreatMoves.{paths_of, AtCycle, cycle-target, finished, finished-schedule, paths-short}
use Rattle.retreat.specs.declared.Targets.{Targets}
use Rattle.retreat.specs.declared.Outcome.{Outcome}
use Rattle.retreat.specs.Paths.{row_start, path_of, masks_of, choice_at, Holding}
use Rattle.retreat.specs.declared.State.{State}
use Rattle.retreat.specs.Moves.{AtStart, steps_left, Retreats, WentBack}
use Rattle.retreat.specs.Answer.{TargetsFit, Right, Scheduled}
use Rattle.retreat.proofs.HeldLocks.{within-at}

-- ---- a path in its row

module _ (choices rows lens : List ℕ) (t : ℕ) (turns : max_entries ≤ length choices) (long : max_entries ≤ length rows) (low : t < max_threads) (short : get_or lens t 0 ≤ max_size) where
  path-length : length (path_of choices rows lens t) ≡ get_or lens t 0
  unfolding path_of
  path-length =
      length-take-le (get_or lens t 0) (drop (row_start t) (steps choices rows))
      (rw (length-drop (row_start t) (steps choices rows)) (omega (arith, steps-length choices rows)))

  step-at : (j : ℕ) → j < get_or lens t 0 → get_or (path_of choices rows lens t) j 0 ≡ step_of (get_or choices (row_start t + j) 0 % 4) (get_or rows (row_start t + j) 0)
  unfolding path_of
  step-at j h =
      get_or-take (get_or lens t 0) (drop (row_start t) (steps choices rows)) j 0 h ∙ get_or-drop (row_start t) (steps choices rows) j 0
      ∙ steps-at choices rows (row_start t + j) (omega arith) (omega arith)

  path-choice : (j : ℕ) → j < length (choices_of (path_of choices rows lens t)) → get_or (choices_of (path_of choices rows lens t)) j 0 ≡ choice_at choices t j
  unfolding choice_at
  path-choice j h =
      get_or-map choice_of (path_of choices rows lens t) j 0
      ∙ ap choice_of (step-at j (omega (arith, h, length-map (path_of choices rows lens t) choice_of, path-length)))
      ∙ step-choice (get_or choices (row_start t + j) 0) (get_or rows (row_start t + j) 0)

  path-mask : (j : ℕ) → j ≤ get_or lens t 0 → get_or (masks_of rows t) j 0 ≡ mask_at (path_of choices rows lens t) j
  unfolding masks_of
  path-mask zero h = refl
  path-mask (suc j) h =
      get_or-drop (row_start t) rows j 0 ∙ sym (ap mask_in (step-at j (omega arith)) ∙ step-mask (get_or choices (row_start t + j) 0) (get_or rows (row_start t + j) 0))

path-none : (choices rows lens : List ℕ) (t : ℕ) → get_or lens t 0 ≡ 0 → path_of choices rows lens t ≡ []
unfolding path_of
path-none choices rows lens t e = rw e

-- a path of procedure p leads somewhere
record PathLeads (ps : List Block) (p : ℕ) (path : List ℕ) : Type 0 where
  mask : ℕ
  count : List ℕ
  rest : Block
  stands : Stands ps (initial ps p) path mask count rest

leads-nowhere : (ps : List Block) (p : ℕ) (path : List ℕ) → path ≡ [] → PathLeads ps p path
leads-nowhere ps p path e =
    subst (PathLeads ps p) (sym e) (record { mask = 0; count = unlocked; rest = body_in ps p ⨾ done; stands = stands-first ps p })

-- ---- what is right for a plan and a cycle of its threads

module _ (plan : LockPlan) (vss : List (List ℕ)) (k : ℕ) (thread_of pair : ℕ → ℕ) (choices rows : List ℕ) (targets : Targets)
    (r : Right plan vss k thread_of pair choices rows targets) (fit : TargetsFit choices rows targets) where
  abbrev ps : List Block
  ps = plan.procs

  abbrev n : ℕ
  n = length plan.threads

  abbrev lens : List ℕ
  lens = targets.positions

  abbrev proc_at : ℕ → ℕ
  proc_at t = get_or plan.threads t 0

  abbrev path : ℕ → List ℕ
  path t = path_of choices rows lens t

  abbrev P : ℕ → List ℕ
  P t = choices_of (path t)

  abbrev s : ℕ → ℕ → ThreadState
  s t = state_after ps (initial ps (proc_at t)) (P t)

  -- the positions as the theory has them
  abbrev first-at : List ℕ
  first-at = take n lens

  few : n ≤ max_threads
  few = omega (arith, fit.few, r.all)

  present : (i : ℕ) → i < k → thread_of i < n
  present i b = omega (arith, r.present i b, r.all)

  below : (t : ℕ) → t < n → t < targets.threads
  below t b = omega (arith, r.all)

  in_row : (t : ℕ) → t < n → get_or lens t 0 ≤ max_size
  in_row t b = within-at lens targets.threads t fit.in_rows (below t b)

  at : (t : ℕ) → t < n → get_or first-at t 0 ≡ get_or lens t 0
  at t b = get_or-take n lens t 0 b

  sized : (t : ℕ) → t < n → length (path t) ≡ get_or lens t 0
  sized t b = path-length choices rows lens t fit.turns fit.paths (omega (arith, few)) (in_row t b)

  -- a thread is a member of the cycle or not
  member_or : (t : ℕ) → ((i : ℕ) × (i < k) × (thread_of i ≡ t)) ⊎ ((i : ℕ) → i < k → thread_of i ≢ t)
  member_or t =
      ⊎_elim (λ (q : (i : ℕ) × (i < k) × T (eqb (thread_of i) t)). inl (q.0, q.1, eqb→eq (thread_of q.0) t q.2))
      (λ (q : (i : ℕ) → i < k → T (eqb (thread_of i) t) → ⊥). inr (λ i c e. q i c (subst (λ x. T (eqb x t)) (sym e) (eqb_refl t))))
      (search_below k (λ i. eqb (thread_of i) t))

  leads : (t : ℕ) → t < n → PathLeads ps (proc_at t) (path t)
  leads t b =
      ⊎_elim
      (λ (q : (i : ℕ) × (i < k) × (thread_of i ≡ t)).
      let f = r.path q.0 q.1 in
      subst (λ u. PathLeads ps (proc_at u) (path u)) q.2
      (record { mask = f.mask; count = f.count; rest = hold f.claim f.inside f.following; stands = f.stands }))
      (λ (q : (i : ℕ) → i < k → thread_of i ≢ t). leads-nowhere ps (proc_at t) (path t) (path-none choices rows lens t (r.others t (below t b) q).0))
      (member_or t)

  table-masks : (t j : ℕ) → t < n → j ≤ length (P t) → get_or (masks_of rows t) j 0 ≡ had_mask (s t j)
  table-masks t j b l =
      let le : j ≤ length (path t) = omega (arith, l, length-map (path t) choice_of) in
      path-mask choices rows lens t fit.turns fit.paths (omega (arith, few)) (in_row t b) j (omega (arith, le, sized t b))
      ∙ stands-masks ps (proc_at t) (leads t b).stands j le

  paths : Paths ps plan.threads P s (masks_of rows) targets.begins
  paths =
      paths_of ps plan.threads P (masks_of rows) targets.begins (plain_body r.ranks.sound) (omega (arith, few))
      (λ t b. let q = leads t b in (thread q.rest q.count, q.stands.leads)) table-masks (λ t b. r.begins_with t (below t b))

  inside : (t : ℕ) → t < n → get_or first-at t 0 ≤ length (P t)
  inside t b = omega (arith, at t b, sized t b, length-map (path t) choice_of)

  -- at the end of its path a member stands before the hold of its pair
  member-ends : (i : ℕ) (b : i < k) → s (thread_of i) (get_or first-at (thread_of i) 0)
      ≡ thread (hold (r.path i b).claim (r.path i b).inside (r.path i b).following) (r.path i b).count
  member-ends i b =
      let c = present i b in
      ap (s (thread_of i)) (at (thread_of i) c ∙ sym (sized (thread_of i) c)) ∙ stands-last (r.path i b).stands

  member-wants : (i : ℕ) (b : i < k) → (r.path i b).claim ≡ wanted_of (pair i)
  member-wants i b = let f = r.path i b in sym (ap wanted_of f.pair ∙ pair-wants (had f.count) f.claim f.small)

  member-holds : (i : ℕ) (b : i < k) → had (r.path i b).count ≡ had_of (pair i)
  member-holds i b = let f = r.path i b in sym (ap had_of f.pair ∙ pair-had (had f.count) f.claim f.small)

  -- no path is longer than its thread's size, so that together they ask for no more steps than a schedule may have
  within : (t : ℕ) → t < n → get_or lens t 0 ≤ thread_size plan t
  unfolding thread_size
  within t b = ⊎_elim
      (λ (q : (i : ℕ) × (i < k) × (thread_of i ≡ t)). subst (λ u. get_or lens u 0 ≤ size_of ps (proc_at u)) q.2 (r.short q.0 q.1))
      (λ (q : (i : ℕ) → i < k → thread_of i ≢ t). omega (arith, (r.others t (below t b) q).0))
      (member_or t)

  pub targets_short : steps_left lens targets.threads ≤ thread_sizes plan
  unfolding steps_left
  targets_short = rw r.all (paths-short plan lens within)

  -- with what the threads hold at the paths' ends
  module _ (masks : List ℕ) (h : Holding rows lens masks targets.threads) where
    at-cycle : AtCycle n s (masks_of rows) targets.begins k thread_of pair first-at targets.wanted masks
    unfolding Holding
    at-cycle = record {
      size = length-take-le n lens (omega (arith, few, fit.full.positions-full));
      present = present;
      stands = λ i b. let f = r.path i b in
          (f.inside, f.following, ap (λ x. x.rest) (member-ends i b) ∙ ap (λ l. hold l f.inside f.following) (member-wants i b));
      holds = λ i b. let c = present i b in
          table-masks (thread_of i) (get_or first-at (thread_of i) 0) c (inside (thread_of i) c) ∙ ap had_mask (member-ends i b) ∙ member-holds i b;
      wants = r.wants;
      others = λ t b f. let q = r.others t (below t b) f in (at t b ∙ q.0, q.1);
      mask = λ t b. h t (below t b) ∙ ap (λ j. get_or (masks_of rows t) j 0) (sym (at t b));
    }

    first : GoingBack ps n P s (thread_sizes plan) first-at [] targets.wanted masks
    first = cycle-target paths r.cycle at-cycle inside (thread_sizes plan) (paths-short plan first-at (λ t b. rw (at t b) (within t b)))

    -- what the way back to the start ends with
    ended : (last : State) (es : List ℕ) → Retreats choices rows targets.begins targets.threads (record { positions = lens; wanted = targets.wanted; masks = masks }) last es
        → AtStart last.positions targets.threads → Schedule plan es (in_mask (stuck_rounds targets.threads targets.threads last.wanted last.masks))
    ended last es b z =
        let e = r.all in
        let g = b.leads ps plan.threads P s (thread_sizes plan) (sym e)
        (λ t j c l. let d : t < n = omega (arith, e) in path-choice choices rows lens t fit.turns fit.paths (omega (arith, few)) (in_row t d) j l) paths (rw e first) in
        rw e (finished-schedule plan r.ranks.rank r.ranks.sound (finished paths g (λ t c. get_or-take targets.threads last.positions t 0 (below t c) ∙ z t (below t c))))

-- the entries from a place on to the end, copied to the start of a buffer
pub rest-wrote : (table before part : List ℕ) (d k : ℕ) → k ≡ length table - d → part ≡ take k (drop d table) → length (drop d table) ≤ length before
    → Wrote before (part ++ drop (length (take k (drop d table))) before) 0 (length (take k (drop d table))) (drop d table)
rest-wrote table before part d k e f h =
    let same : take k (drop d table) ≡ drop d table = rw (e, ← length-drop d table) (take-length (drop d table)) in
    rw (f, same) (record { place = omega arith; fits = h; written = refl })

-- the answer, in the shape of the function's need
pub scheduled : (choices rows : List ℕ) (targets : Targets) (masks : List ℕ) (last : State) (es before after : List ℕ) (o : Outcome) → TargetsFit choices rows targets
    → Holding rows targets.positions masks targets.threads
    → WentBack choices rows targets.begins targets.threads (record { positions = targets.positions; wanted = targets.wanted; masks = masks }) last es
    → Wrote before after 0 o.entries es → o.stuck ≡ stuck_rounds targets.threads targets.threads last.wanted last.masks
    → Scheduled choices rows targets before o after
scheduled choices rows targets masks last es before after o fit h went wrote e = record {
  entries = es;
  schedule = λ plan vss k thread_of pair r. rw e (ended plan vss k thread_of pair choices rows targets r fit masks h last es went.retreats went.ended);
  wrote = wrote;
}
