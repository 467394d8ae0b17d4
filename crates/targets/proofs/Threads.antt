-- One thread: the procedure that it runs and what it begins with, and its path, which is written into its row.
use Prim.Native.Nat.{ℕ, ◌+◌, ◌-◌, ◌*◌, ◌/◌, ◌%◌, ◌^◌, ◌<◌, ◌≤◌}
use native.Mathlib.Omega.{arith}
use mathlib.Core.List.{List}
use mathlib.Core.Logic.{⊎_elim, ◌≢◌}
use mathlib.Core.Path.{◌≡◌, refl, sym, ap, ◌∙◌}
use borrow.Rule.Slice.PartMut.{put_mid}
use lib.ListN.{length, get_or, set, take, drop, length-drop, replicate, get_or-replicate}
use lib.Seq.{length-take-le, get_or-set_same, get_or-set_other}
use Rattle.limits.specs.Limits.{max_threads, claim_count, max_size, max_entries}
use Rattle.laws.proofs.Tests.{eq_or_ne}
use Rattle.semantics.specs.Plan.{body_in}
use Rattle.semantics.specs.Pairs.{had_of, wanted_of}
use Rattle.semantics.specs.Sizes.{size_of}
use Rattle.semantics.specs.StuckRounds.{first_wanted}
use Rattle.columns.specs.Columns.{pair_number, steps, places, pair_by}
use Rattle.columns.proofs.Numbers.{number-held}
use Rattle.columns.proofs.Steps.{steps-length}
use Rattle.plan.specs.Table.{table_forms}
use Rattle.plan.specs.Settled.{table_plan}
use Rattle.plan.proofs.WithinSize.{sizes-within}
use Rattle.paths.specs.Walks.{PathAsked, PathWritten}
use Rattle.paths.specs.Wanted.{FirstWantedAt}
use Rattle.procs.specs.declared.Layout.{Layout}
use Rattle.procs.proofs.Layouts.{runs-at}
use Rattle.retreat.specs.declared.Targets.{Targets}
use Rattle.targets.specs.Tables.{proc_of, begin_of, LaidPlan, BeginMasks, AtStarts, Target, RowWritten, MemberPut}
use Rattle.targets.proofs.Rows.{row_same, row_other, steps_back}

pub few-threads : (ws : List ℕ) (l : Layout) → LaidPlan ws l → l.threads ≤ max_threads
few-threads ws l a = rw a.laid.threads-all a.plan.settled.few-threads

module _ (ws : List ℕ) (l : Layout) (t : ℕ) (a : LaidPlan ws l) (h : t < l.threads) where
  pub proc-is : get_or l.runs t 0 ≡ proc_of ws t
  unfolding proc_of
  proc-is = runs-at ws l a.laid t h

  proc_in : proc_of ws t < length (table_plan ws).procs
  unfolding proc_of
  proc_in = a.plan.settled.threads-present t (rw (← a.laid.threads-all) h)

  pub proc-present : get_or l.runs t 0 < l.procs
  proc-present = rw (proc-is, a.laid.procs-all) proc_in

  pub size-within : size_of (table_plan ws).procs (proc_of ws t) ≤ max_size
  size-within = sizes-within (table_forms ws) a.sized (proc_of ws t) proc_in

  pub begin_is : (p r : ℕ) → p ≡ proc_of ws t → FirstWantedAt ws (get_or l.starts p 0) r → r ≡ begin_of ws t
  unfolding begin_of
  begin_is p r e w =
      let k : p < length (table_plan ws).procs = rw e proc_in in
      w a.plan p k (a.laid.starts_there.stands p k) ∙ ap (λ q. first_wanted (body_in (table_plan ws).procs q)) e

-- ---- the threads at their start

module _ (ws : List ℕ) where
  pub begins-none : (entries : List ℕ) → BeginMasks ws entries 0
  unfolding BeginMasks
  begins-none entries t h = absurd (omega arith)

  pub begins-more : (e : List ℕ) (n t v : ℕ) → max_threads ≡ length e → n ≤ max_threads → t < n → v ≡ begin_of ws t → BeginMasks ws e t → BeginMasks ws (set e t v) (t + 1)
  unfolding BeginMasks
  begins-more e n t v a c h k g i l =
      ⊎_elim
      (λ (z : i ≡ t). ap (λ u. get_or (set e t v) u 0) z ∙ get_or-set_same e t v 0 (omega arith) ∙ k ∙ ap (begin_of ws) (sym z))
      (λ (z : i ≢ t). get_or-set_other e t i v 0 z ∙ g i (omega arith))
      (eq_or_ne i t)

  pub begins-done : (e : List ℕ) (n t : ℕ) → n ≤ t → t ≤ n → n ≤ max_threads → max_threads ≡ length e → BeginMasks ws e t
      → AtStarts ws n (record { threads = n; positions = replicate max_threads 0; begins = e; wanted = e })
  unfolding BeginMasks
  begins-done e n t h k f l g = record {
    all = refl;
    full = record { positions-full = refl; begins-full = l; wanted-full = l };
    still = λ i b. get_or-replicate max_threads i 0 0 (omega arith);
    begins_are = λ i b. g i (omega arith);
    wanted_are = λ i b. g i (omega arith);
  }

-- ---- the path

module _ (ws : List ℕ) (l : Layout) (t pair p : ℕ) (a : LaidPlan ws l) (g : Target ws l.threads t pair) (is : p ≡ proc_of ws t) where
  -- what the path asks
  pub target-asked : p < l.procs → PathAsked ws l.starts l.procs p pair
  target-asked k =
      rw is (record {
        plan = a.plan;
        ranks = a.ranks;
        begins = a.laid.starts_there;
        count = a.laid.procs-all;
        present = rw is at k;
        small = size-within ws l t a g.present;
        member = g.member;
      })

  -- one row of each column is lent
  pub row_room : (choices rows : List ℕ) → max_entries ≤ length choices → max_entries ≤ length rows
      → max_size ≤ length (steps (take (max_size * t + max_size - max_size * t) (drop (max_size * t) choices)) (take (max_size * t + max_size - max_size * t) (drop (max_size * t) rows)))
  row_room choices rows long wide =
      let k = max_size * t + max_size - max_size * t in
      let few : t < max_threads = omega (arith, g.present, few-threads ws l a) in
      omega (
        arith,
        few,
        steps-length (take k (drop (max_size * t) choices)) (take k (drop (max_size * t) rows)),
        length-take-le k (drop (max_size * t) choices) (omega (arith, few, length-drop (max_size * t) choices)),
        length-take-le k (drop (max_size * t) rows) (omega (arith, few, length-drop (max_size * t) rows)),
      )

  -- and put back
  pub row_written : (r : ℕ) (choices rows turns masks : List ℕ) → PathWritten ws p pair r (steps turns masks) → max_entries ≤ length choices → max_entries ≤ length rows
      → length turns ≡ length (take (max_size * t + max_size - max_size * t) (drop (max_size * t) choices))
      → length masks ≡ length (take (max_size * t + max_size - max_size * t) (drop (max_size * t) rows))
      → RowWritten ws t pair (steps choices rows) r
      (steps (put_mid (max_size * t) (max_size * t + max_size - max_size * t) choices turns) (put_mid (max_size * t) (max_size * t + max_size - max_size * t) rows masks))
  unfolding size_of
  row_written r choices rows turns masks w long wide same also =
      let k = max_size * t + max_size - max_size * t in
      let size : k ≡ max_size = omega arith in
      let few : t < max_threads = omega (arith, g.present, few-threads ws l a) in
      let all : max_entries ≤ length (steps choices rows) = omega (arith, steps-length choices rows) in
      let room : max_size * t + max_size ≤ length (steps choices rows) = omega arith in
      let turns-full : length turns ≡ max_size = same ∙ length-take-le k (drop (max_size * t) choices) (omega (arith, length-drop (max_size * t) choices)) ∙ size in
      let masks-full : length masks ≡ max_size = also ∙ length-take-le k (drop (max_size * t) rows) (omega (arith, length-drop (max_size * t) rows)) ∙ size in
      let full : length (steps turns masks) ≡ max_size = omega (arith, steps-length turns masks) in
      let short : r ≤ size_of (table_plan ws).procs p = rw w.count w.found.short in
      let small : size_of (table_plan ws).procs p ≤ max_size = rw is (size-within ws l t a g.present) in
      let le : r ≤ max_size = omega (arith, short, small) in
      let back = steps_back choices rows turns masks (max_size * t) k (omega (arith, turns-full, masks-full)) (omega (arith, few)) (omega (arith, few)) in
      rw (← back) (record {
        finds = rw (row_same (steps choices rows) (steps turns masks) t k size full room r le ∙ w.written, ← is) w.found.place;
        short = rw (← is) short;
        others = row_other (steps choices rows) (steps turns masks) t k size full room;
      })

-- ---- the member of a cycle that a candidate is

module _ (hs ws : List ℕ) (c t aim code : ℕ) (of : t ≡ c % 8) (had : aim ≡ had_of (pair_by hs c)) (wish : code ≡ c / 8) where
  pair-again : pair_number aim code ≡ pair_by hs c
  unfolding pair_by
  pair-again =
      let m = get_or hs (c / (8 * claim_count) % places) 0 in
      ap (λ k. pair_number aim k) wish ∙ ap (λ x. pair_number x (c / 8)) (had ∙ number-held m (c / 8))

  pub member-target : (n : ℕ) → Target ws n (c % 8) (pair_by hs c) → Target ws n t (pair_number aim code)
  member-target n g = rw (of, pair-again) g

  pub member-put : (s : Targets) (r k v : ℕ) (steps steps' : List ℕ) → RowWritten ws t (pair_number aim code) steps r steps' → k ≡ wanted_of (pair_by hs c) → v ≡ 2 ^ k
      → MemberPut ws (c % 8) (pair_by hs c) s steps
      (record { threads = s.threads; positions = set s.positions t r; begins = s.begins; wanted = set s.wanted t v }) steps'
  member-put s r k v steps steps' w f h = rw (← of) (record {
    count = r;
    row = rw pair-again at w;
    lengths = refl;
    wanted = ap (λ x. set s.wanted t x) (h ∙ ap (λ x. 2 ^ x) f);
    same-threads = refl;
    same-begins = refl;
  })
