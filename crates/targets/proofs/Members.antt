-- The members of the cycle one after the other: the row, the length and the wanted claim of a thread are written once, since the cycle's threads are
-- distinct, and what is written later is of other threads. When all are done the tables are right for the cycle.
use Prim.Native.Nat.{ℕ, zero, suc, ◌+◌, ◌*◌, ◌%◌, ◌^◌, ◌<◌, ◌≤◌}
use native.Mathlib.Omega.{arith}
use mathlib.Core.List.{List, [], ◌∷◌, map, Memᴰ}
use mathlib.Core.Logic.{⊎_elim, ◌≢◌}
use mathlib.Core.Path.{◌≡◌, refl, sym, ap, ◌∙◌, subst}
use lib.Dec.{T, eqb, eqb→eq}
use lib.ListN.{length, get_or, take, drop, length-map, length-set}
use lib.Seq.{length-take-le, get_or-take, get_or-set_same, get_or-set_other}
use Rattle.limits.specs.Limits.{max_threads, max_size, max_entries}
use Rattle.laws.proofs.Tests.{eq_or_ne, eq→eqb, search_below}
use Rattle.laws.proofs.Ascending.{mem_ascending}
use Rattle.semantics.specs.Run.{initial}
use Rattle.semantics.specs.Sizes.{size_of}
use Rattle.semantics.specs.Pairs.{wanted_of, pairs, pair_list}
use Rattle.semantics.proofs.Conflicts.ConflictTest.{pair_in_lem}
use Rattle.semantics.specs.Paths.{Finds}
use Rattle.plan.specs.Settled.{table_plan}
use Rattle.columns.specs.Columns.{steps as steps_in, pair_by}
use Rattle.candidates.specs.Candidates.{member_thread, member_pair}
use Rattle.procs.specs.declared.Layout.{Layout}
use Rattle.retreat.specs.declared.Targets.{Targets}
use Rattle.retreat.specs.Paths.{path_of, InRows}
use Rattle.retreat.specs.Answer.{Right}
use Rattle.targets.specs.Tables.{pair_lists, proc_of, begin_of, CycleAsked, PathsPrepared, BeginMasks, path_in, AtStarts, Target, MemberPut, MembersDone}
use Rattle.targets.proofs.Threads.{few-threads, size-within}

get_or-map_in : (f : ℕ → List ℕ) (l : List ℕ) (i : ℕ) → i < length l → get_or (map f l) i [] ≡ f (get_or l i 0)
get_or-map_in f [] i h = absurd (omega arith)
get_or-map_in f (x ∷ l) zero h = refl
get_or-map_in f (x ∷ l) (suc i) h = get_or-map_in f l i (omega arith)

module _ (hs ws : List ℕ) (l : Layout) (chosen : List ℕ) (k : ℕ) (a : CycleAsked hs ws l chosen k) where
  abbrev n : ℕ
  n = l.threads

  few-all : n ≤ max_threads
  few-all = few-threads ws l a.plan-laid

  member-present : (i : ℕ) → i < k → member_thread chosen i < n
  member-present i h =
      let b : member_thread chosen i < length (pair_lists ws) = pair_in_lem (pair_lists ws) (member_thread chosen i) (member_pair hs chosen i) (a.cycle.from i h) in
      let e : length (pair_lists ws) ≡ length (table_plan ws).threads = length-map (table_plan ws).threads (pair_list (table_plan ws).procs) in
      rw (a.plan-laid.laid.threads-all, ← e) b

  member_low : (i : ℕ) → i < k → member_thread chosen i < max_threads
  member_low i h = omega (arith, member-present i h, few-all)

  asked-target : (i : ℕ) → i < k → Target ws n (get_or chosen i 0 % 8) (pair_by hs (get_or chosen i 0))
  unfolding pair_list proc_of
  asked-target i h = record {
    present = member-present i h;
    member = mem_ascending (pairs (length (table_plan ws).procs) (table_plan ws).procs (proc_of ws (member_thread chosen i))) (member_pair hs chosen i)
        (subst (Memᴰ (member_pair hs chosen i))
        (get_or-map_in (pair_list (table_plan ws).procs) (table_plan ws).threads (member_thread chosen i) (rw (← a.plan-laid.laid.threads-all) (member-present i h)))
        (a.cycle.from i h));
  }

  -- the candidates of the cycle one after the other
  chosen-length : length (take k chosen) ≡ k
  chosen-length = length-take-le k chosen a.room

  chosen-at : (i : ℕ) → i < length (take k chosen) → get_or (take k chosen) i 0 ≡ get_or chosen i 0
  chosen-at i h = get_or-take k chosen i 0 (omega (arith, chosen-length))

  pub asked-next : (i : ℕ) → i < length (take k chosen) → Target ws n (get_or (take k chosen) i 0 % 8) (pair_by hs (get_or (take k chosen) i 0))
  asked-next i h = rw (chosen-at i h) (asked-target i (omega (arith, chosen-length)))

  -- the length of a member's path is within its row
  member-within : (lens : List ℕ) (j : ℕ) → j < k → get_or lens (member_thread chosen j) 0 ≤ size_of (table_plan ws).procs (proc_of ws (member_thread chosen j))
      → get_or lens (member_thread chosen j) 0 ≤ max_size
  member-within lens j h s =
      let z = size-within ws l (member_thread chosen j) a.plan-laid (member-present j h) in omega arith

  -- ---- one member more

  module _ (steps steps' : List ℕ) (s s' : Targets) (i : ℕ) (here : i < k) (d : MembersDone hs ws chosen i n steps s)
      (m : MemberPut ws (member_thread chosen i) (member_pair hs chosen i) s steps s' steps') where
    abbrev lens : List ℕ
    lens = s.positions

    abbrev lens' : List ℕ
    lens' = s'.positions

    few : member_thread chosen i < max_threads
    few = member_low i here

    own-length : get_or lens' (member_thread chosen i) 0 ≡ m.count
    own-length = ap (λ l. get_or l (member_thread chosen i) 0) m.lengths
        ∙ get_or-set_same lens (member_thread chosen i) m.count 0 (omega (arith, few, d.full.positions-full))

    own-wanted : get_or s'.wanted (member_thread chosen i) 0 ≡ 2 ^ wanted_of (member_pair hs chosen i)
    own-wanted = ap (λ l. get_or l (member_thread chosen i) 0) m.wanted
        ∙ get_or-set_same s.wanted (member_thread chosen i) (2 ^ wanted_of (member_pair hs chosen i)) 0 (omega (arith, few, d.full.wanted-full))

    other_length : (u : ℕ) → u ≢ member_thread chosen i → get_or lens' u 0 ≡ get_or lens u 0
    other_length u z = ap (λ l. get_or l u 0) m.lengths ∙ get_or-set_other lens (member_thread chosen i) u m.count 0 z

    other-wanted : (u : ℕ) → u ≢ member_thread chosen i → get_or s'.wanted u 0 ≡ get_or s.wanted u 0
    other-wanted u z = ap (λ l. get_or l u 0) m.wanted ∙ get_or-set_other s.wanted (member_thread chosen i) u (2 ^ wanted_of (member_pair hs chosen i)) 0 z

    own-path : path_in steps' lens' (member_thread chosen i) ≡ take m.count (drop (max_size * member_thread chosen i) steps')
    unfolding path_in
    own-path = ap (λ r. take r (drop (max_size * member_thread chosen i) steps')) own-length

    other_path : (u : ℕ) → u ≢ member_thread chosen i → get_or lens u 0 ≤ max_size → path_in steps' lens' u ≡ path_in steps lens u
    unfolding path_in
    other_path u z h = ap (λ r. take r (drop (max_size * u) steps')) (other_length u z) ∙ m.row.others u (get_or lens u 0) z h

    apart : (j : ℕ) → j < i → member_thread chosen j ≢ member_thread chosen i
    apart j h e = let z : j ≡ i = a.cycle.distinct j i (omega arith) here e in omega arith

    -- what is so of the earlier members and of this one is so of all of them
    each : (P : ℕ → Type 0) → ((j : ℕ) → j < i → P j) → P i → (j : ℕ) → j < i + 1 → P j
    each P f x j h = ⊎_elim (λ (z : j ≡ i). subst P (sym z) x) (λ (z : j ≢ i). f j (omega arith)) (eq_or_ne j i)

    done_more : MembersDone hs ws chosen (i + 1) n steps' s'
    done_more = record {
      all = m.same-threads ∙ d.all;
      full = record {
        positions-full = rw (m.lengths, length-set) d.full.positions-full;
        begins-full = rw m.same-begins d.full.begins-full;
        wanted-full = rw (m.wanted, length-set) d.full.wanted-full;
      };
      begins_are = rw m.same-begins d.begins_are;
      path = each
          (λ j. Finds (table_plan ws).procs (initial (table_plan ws).procs (proc_of ws (member_thread chosen j))) (member_pair hs chosen j)
          (path_in steps' lens' (member_thread chosen j)))
          (λ j h. rw (other_path (member_thread chosen j) (apart j h) (member-within lens j (omega arith) (d.short j h))) (d.path j h))
          (rw own-path m.row.finds);
      short = each (λ j. get_or lens' (member_thread chosen j) 0 ≤ size_of (table_plan ws).procs (proc_of ws (member_thread chosen j)))
          (λ j h. rw (other_length (member_thread chosen j) (apart j h)) (d.short j h))
          (rw own-length m.row.short);
      wants = each (λ j. get_or s'.wanted (member_thread chosen j) 0 ≡ 2 ^ wanted_of (member_pair hs chosen j))
          (λ j h. other-wanted (member_thread chosen j) (apart j h) ∙ d.wants j h)
          own-wanted;
      others = λ t h none.
          let z : t ≢ member_thread chosen i = λ e. none i (omega arith) (sym e) in
          let o = d.others t h (λ j l. none j (omega arith)) in
          (other_length t z ∙ o.0, other-wanted t z ∙ o.1);
    }

  pub done-next : (steps steps' : List ℕ) (s s' : Targets) (i : ℕ) → i < length (take k chosen) → MembersDone hs ws chosen i n steps s
      → MemberPut ws (get_or (take k chosen) i 0 % 8) (pair_by hs (get_or (take k chosen) i 0)) s steps s' steps' → MembersDone hs ws chosen (i + 1) n steps' s'
  done-next steps steps' s s' i h d m = done_more steps steps' s s' i (omega (arith, chosen-length)) d (rw (chosen-at i h) at m)

  -- ---- all members

  module _ (steps : List ℕ) (s : Targets) (d : MembersDone hs ws chosen k n steps s) where
    abbrev lengths : List ℕ
    lengths = s.positions

    paths-within : InRows lengths n
    unfolding InRows
    paths-within t h =
        ⊎_elim
        (λ (q : (j : ℕ) × (j < k) × T (eqb (member_thread chosen j) t)).
        let i = member_thread chosen q.0 in
        let e : i ≡ t = eqb→eq i t q.2 in
        subst (λ u. get_or lengths u 0 ≤ max_size) e (member-within lengths q.0 q.1 (d.short q.0 q.1)))
        (λ (none : (j : ℕ) → j < k → T (eqb (member_thread chosen j) t) → ⊥).
        let o = d.others t h (λ j l e. none j l (eq→eqb (member_thread chosen j) t e)) in
        omega (arith, o.0))
        (search_below k (λ j. eqb (member_thread chosen j) t))

  module _ (choices rows : List ℕ) (s : Targets) (d : MembersDone hs ws chosen k n (steps_in choices rows) s) where
    tables-right : Right (table_plan ws) (pair_lists ws) k (member_thread chosen) (member_pair hs chosen) choices rows s
    unfolding BeginMasks begin_of proc_of path_in path_of
    tables-right =
        let below : (u : ℕ) → u < s.threads → u < n = λ u h. omega (arith, d.all) in
        record {
          all = d.all ∙ a.plan-laid.laid.threads-all;
          ranks = a.plan-laid.ranks;
          cycle = a.cycle;
          present = λ i h. omega (arith, d.all, member-present i h);
          path = d.path;
          short = d.short;
          wants = d.wants;
          others = λ u h none. let o = d.others u (below u h) none in (o.0, o.1 ∙ sym (d.begins_are u (below u h)));
          begins_with = λ u h. d.begins_are u (below u h);
        }

  pub prepared : (choices rows : List ℕ) (s : Targets) (i : ℕ) → i ≤ length (take k chosen) → length (take k chosen) ≤ i → max_entries ≤ length choices → max_entries ≤ length rows
      → MembersDone hs ws chosen i n (steps_in choices rows) s → PathsPrepared hs ws chosen k choices rows s
  prepared choices rows s i h b long wide d =
      let e : i ≡ k = omega (arith, chosen-length) in
      let all : MembersDone hs ws chosen k n (steps_in choices rows) s = subst (λ j. MembersDone hs ws chosen j n (steps_in choices rows) s) e d in
      record {
        right = tables-right choices rows s all;
        fit = record {
          paths = wide;
          turns = long;
          few = omega (arith, few-all, d.all);
          full = d.full;
          in_rows = rw d.all (paths-within (steps_in choices rows) s all);
        };
      }

pub done_none : (hs ws chosen steps : List ℕ) (n : ℕ) (s : Targets) → AtStarts ws n s → MembersDone hs ws chosen 0 n steps s
unfolding BeginMasks
done_none hs ws chosen steps n s a = record {
  all = a.all;
  full = a.full;
  begins_are = a.begins_are;
  path = λ j h. absurd (omega arith);
  short = λ j h. absurd (omega arith);
  wants = λ j h. absurd (omega arith);
  others = λ t h none. (a.still t h, a.wanted_are t h);
}
