-- At every moment of the walk what is written is an execution to the place where it stands (`Stands`): where the block of a loop or the first of an either was walked in vain, it
-- goes back and leaves, or takes the second. So it finds w (`Finds`) just if w is among the pairs, on a path no longer than the procedure's size.
use Prim.Native.Nat.{ℕ, zero, suc, ◌+◌, ◌<◌, ◌≤◌}
use mathlib.Core.List.{List, [], ◌∷◌, ◌++◌, map-append, Memᴰ}
use mathlib.Core.Bool.{true, false}
use mathlib.Core.Logic.{◌⊎◌, inl, inr, ⊎_elim}
use mathlib.Core.Option.{some, bind}
use mathlib.Core.Path.{◌≡◌, refl, sym, ap, ◌∙◌}
use native.Mathlib.Nat.{eq-or-lt_of_le}
use native.Mathlib.Omega.{arith}
use lib.ListN.{length, get_or, length-append, length-map, get_or-append}
use lib.Seq.{get_or_at}
use lib.Dec.{T, eqb, eqb→eq, eqb_refl}
use Rattle.limits.specs.Limits.{claim_count}
use Rattle.laws.proofs.Tests.{only, T_and, and_T, T_true, T_false, T-dec}
use Rattle.semantics.specs.Plan.{Block, done, skip, call, hold, loop, either, end, ◌⨾◌, body_in, Written, Sound}
use Rattle.semantics.specs.Sizes.{size_with, size_at}
use Rattle.semantics.specs.Run.{ThreadState, thread, initial, unlocked, up, move}
use Rattle.semantics.specs.Pairs.{pair_of, had_from, had, fresh, pair_at, pairs_with, pairs_at, pairs}
use Rattle.semantics.specs.Execution.{exec, state_after, move_or_stay, Execution}
use Rattle.semantics.specs.Paths.{fresh_in, step_of, choice_of, mask_in, choices, mask_at, holding, put, gives, Walked, found, passed, and_then, walk_with, walk_at}
use Rattle.semantics.specs.Paths.{path_to, Stands, Finds, PathFound}
use Rattle.semantics.proofs.Ground.LockSets.{held_begin}
use Rattle.semantics.proofs.Thread.Remainders.{⨾-done, down-up, length_up, body_below}
use Rattle.semantics.proofs.Thread.Execution.{exec_append, exec-last, execution}
use Rattle.semantics.proofs.Gateway.Compatible.{fresh-held}

-- ---- what is written is an execution

pub length-put : (path : List ℕ) (c m : ℕ) → length (put path c m) ≡ suc (length path)
length-put path c m = rw length-append (omega arith)

pub choices-put : (path : List ℕ) (c m : ℕ) → c < 4 → choices (put path c m) ≡ choices path ++ (c ∷ [])
choices-put path c m h = map-append choice_of path (step_of c m ∷ []) ∙ ap (λ k. choices path ++ (k ∷ [])) (omega arith)

after_append : (ps : List Block) (x : ThreadState) (cs ds : List ℕ) (j : ℕ) → j ≤ length cs → state_after ps x (cs ++ ds) j ≡ state_after ps x cs j
unfolding state_after
after_append ps x cs ds zero h = refl
after_append ps x [] ds (suc j) h = absurd (omega arith)
after_append ps x (c ∷ cs) ds (suc j) h = after_append ps (move_or_stay ps c x) cs ds j (omega arith)

module _ {ps : List Block} {x : ThreadState} {path : List ℕ} {m : ℕ} {cs : List ℕ} {b : Block} (st : Stands ps x path m cs b) where
  -- one step more is written
  pub stands-put : (c m' : ℕ) (cs' : List ℕ) (b' : Block) → c < 4 → move ps c b cs ≡ some (thread b' cs') → m' ≡ had cs' → length cs' ≡ claim_count
      → Stands ps x (put path c m') m' cs' b'
  unfolding exec bind
  stands-put c m' cs' b' small moved mask locks = record { leads = leads; masks = masks; mask = mask; locks = locks }
    where
      chosen : choices (put path c m') ≡ choices path ++ (c ∷ [])
      chosen = choices-put path c m' small

      leads : exec ps x (choices (put path c m')) ≡ some (thread b' cs')
      leads = rw chosen (exec_append ps x (thread b cs) (thread b' cs') (choices path) (c ∷ []) st.leads (ap (λ o. bind o some) moved))

      size : length (choices path) ≡ length path
      size = length-map path choice_of

      masks : (j : ℕ) → j < length (put path c m') → mask_in (get_or (put path c m') j 0) ≡ had (state_after ps x (choices (put path c m')) (suc j)).count
      masks j h = rw chosen
          (⊎_elim
          (λ (e : j ≡ length path).
          ap mask_in (get_or_at path (step_of c m') [] 0 j (sym e)) ∙ omega arith ∙ mask
          ∙ ap (λ (t : ThreadState). had t.count) (sym (exec-last ps x (thread b' cs') (choices path ++ (c ∷ [])) (rw chosen at leads)))
          ∙ ap (λ k. had (state_after ps x (choices path ++ (c ∷ [])) k).count) (rw (length-append, size, e) (omega arith)))
          (λ (l : j < length path).
          ap mask_in (get_or-append path (step_of c m' ∷ []) 0 j l) ∙ st.masks j l
          ∙ ap (λ (t : ThreadState). had t.count) (sym (after_append ps x (choices path) (c ∷ []) (suc j) (rw size l))))
          (eq-or-lt_of_le (omega (arith, length-put path c m'))))

-- what the walk writes at each form leads on
module _ {ps : List Block} {x : ThreadState} {path : List ℕ} {m : ℕ} {cs : List ℕ} where
  pub pass-skip : {r : Block} → Stands ps x path m cs (skip r) → Stands ps x (put path 0 m) m cs r
  unfolding move
  pass-skip {r} st = stands-put st 0 m cs r (omega arith) refl st.mask st.locks

  pub enter_call : {p : ℕ} {r : Block} → Stands ps x path m cs (call p r) → Stands ps x (put path 0 m) m cs (body_in ps p ⨾ r)
  unfolding move
  enter_call {p} {r} st = stands-put st 0 m cs (body_in ps p ⨾ r) (omega arith) refl st.mask st.locks

  pub begin_hold : {l : ℕ} {b r : Block} → l < claim_count → Stands ps x path m cs (hold l b r)
      → Stands ps x (put path 0 (holding m l)) (holding m l) (up l cs) (b ⨾ end l r)
  unfolding move
  begin_hold {l} {b} {r} h st =
      stands-put st 0 (holding m l) (up l cs) (b ⨾ end l r) (omega arith) refl
      (rw st.mask (sym (held_begin cs l (rw st.locks h)))) (length_up l cs ∙ st.locks)

  -- the mask goes back to what it was before the hold
  pub end-hold : {q : List ℕ} {l n : ℕ} {b r : Block} → Stands ps x path m cs b → Stands ps x q n (up l cs) (end l r) → Stands ps x (put q 0 m) m cs r
  unfolding move
  end-hold {l = l} {r = r} st last = stands-put last 0 m cs r (omega arith) (rw (down-up l cs)) st.mask st.locks

  pub enter_loop : {b r : Block} → Stands ps x path m cs (loop b r) → Stands ps x (put path 1 m) m cs (b ⨾ loop b r)
  unfolding move
  enter_loop {b} {r} st = stands-put st 1 m cs (b ⨾ loop b r) (omega arith) refl st.mask st.locks

  pub leave_loop : {b r : Block} → Stands ps x path m cs (loop b r) → Stands ps x (put path 2 m) m cs r
  unfolding move
  leave_loop {b} {r} st = stands-put st 2 m cs r (omega arith) refl st.mask st.locks

  pub take-one : {a b r : Block} → Stands ps x path m cs (either a b r) → Stands ps x (put path 1 m) m cs (a ⨾ r)
  unfolding move
  take-one {a} {b} {r} st = stands-put st 1 m cs (a ⨾ r) (omega arith) refl st.mask st.locks

  pub take-two : {a b r : Block} → Stands ps x path m cs (either a b r) → Stands ps x (put path 2 m) m cs (b ⨾ r)
  unfolding move
  take-two {a} {b} {r} st = stands-put st 2 m cs (b ⨾ r) (omega arith) refl st.mask st.locks

-- before the first step
pub stands-first : (ps : List Block) (p : ℕ) → Stands ps (initial ps p) [] 0 unlocked (body_in ps p ⨾ done)
unfolding exec had_from
stands-first ps p = rw (⨾-done (body_in ps p)) (record { leads = refl; masks = λ j h. absurd (omega arith); mask = refl; locks = refl })

-- as `Retreat` has it: the states after each step, and their masks
pub stands-execution : {ps : List Block} {x : ThreadState} {path : List ℕ} {m : ℕ} {cs : List ℕ} {b : Block} → Stands ps x path m cs b
    → Execution ps x (choices path) (state_after ps x (choices path))
stands-execution {ps} {x} {path} {m} {cs} {b} st = execution ps x (thread b cs) (choices path) st.leads

pub stands-last : {ps : List Block} {x : ThreadState} {path : List ℕ} {m : ℕ} {cs : List ℕ} {b : Block} → Stands ps x path m cs b
    → state_after ps x (choices path) (length path) ≡ thread b cs
stands-last {ps} {x} {path} {m} {cs} {b} st =
    rw (length-map path choice_of) at (exec-last ps x (thread b cs) (choices path) st.leads)

pub stands-masks : (ps : List Block) (p : ℕ) {path : List ℕ} {m : ℕ} {cs : List ℕ} {b : Block} → Stands ps (initial ps p) path m cs b
    → (j : ℕ) → j ≤ length path → mask_at path j ≡ had (state_after ps (initial ps p) (choices path) j).count
unfolding state_after had_from
stands-masks ps p st zero h = refl
stands-masks ps p st (suc j) h = st.masks j h

-- ---- where the walk comes to

-- The walk of a block with the pairs ws, after which r follows, begun with the claims of m and counts cs: it comes to a hold that gives w, which is among the
-- pairs, or w is not among them and the walk stands before r as it began. The path is at most n long.
pub data Outcome (ps : List Block) (x : ThreadState) (w : ℕ) (ws : List ℕ) (m : ℕ) (cs : List ℕ) (r : Block) (n : ℕ) : Walked → Type 0 where
  finds : {path : List ℕ} → Finds ps x w path → Memᴰ w ws → length path ≤ n → Outcome ps x w ws m cs r n (found path)
  passes : {path : List ℕ} → Stands ps x path m cs r → (Memᴰ w ws → ⊥) → length path ≤ n → Outcome ps x w ws m cs r n (passed path)

module _ {ps : List Block} {x : ThreadState} {w : ℕ} {m : ℕ} {cs : List ℕ} {r : Block} {n : ℕ} where
  -- pairs before, without w
  pub outcome-after : {ws : List ℕ} {o : Walked} (vs : List ℕ) → (Memᴰ w vs → ⊥) → Outcome ps x w ws m cs r n o → Outcome ps x w (vs ++ ws) m cs r n o
  outcome-after vs f (finds a i h) = finds a (mathlib.Core.List.Memᴰ.append_right vs i) h
  outcome-after vs f (passes a i h) = passes a (λ j. ⊎_elim f i (mathlib.Core.List.Memᴰ.append_cases vs j)) h

  -- one walk, then another
  pub outcome-then : {m' n' : ℕ} {cs' : List ℕ} {r' : Block} {o : Walked} (vs ws : List ℕ) (k : List ℕ → Walked)
      → Outcome ps x w vs m' cs' r' n' o → n' ≤ n
      → ((q : List ℕ) → Stands ps x q m' cs' r' → length q ≤ n' → Outcome ps x w ws m cs r n (k q)) → Outcome ps x w (vs ++ ws) m cs r n (and_then o k)
  outcome-then vs ws k (finds a i h) le f = finds a (mathlib.Core.List.Memᴰ.append_left ws i) (omega arith)
  outcome-then vs ws k (passes {path} a i h) le f = outcome-after vs i (f path a h)

module _ (ps : List Block) (x : ThreadState) (w : ℕ) (C : ℕ → Type 0) (s : ℕ → ℕ) (f : ℕ → List ℕ → List ℕ) (g : ℕ → ℕ → List ℕ → Walked)
    (called : (p : ℕ) → C p → (r : Block) (m : ℕ) (cs path : List ℕ) (n : ℕ) → Stands ps x path m cs (body_in ps p ⨾ r) → length path + s p ≤ n
    → Outcome ps x w (f p cs) m cs r n (g p m path)) where
  abbrev Here : ℕ → List ℕ → ℕ → Type 0
  Here m cs l = (gives w m l ≡ true) × T (fresh cs l) × (w ≡ pair_of (had cs) l)

  abbrev Elsewhere : ℕ → List ℕ → ℕ → Type 0
  Elsewhere m cs l = (gives w m l ≡ false) × (Memᴰ w (pair_at cs l) → ⊥)

  -- the hold of l gives w just if w is its pair
  at-hold : (m : ℕ) (cs : List ℕ) (l : ℕ) → m ≡ had cs → Here m cs l ⊎ Elsewhere m cs l
  at-hold m cs l e = ⊎_elim
      (λ (t : T (gives w m l)).
      let (u, v) = T_and (fresh_in m l) (eqb (pair_of m l) w) t in
      inl (T_true (gives w m l) t, rw (← fresh-held cs l, ← e) u, rw (← e) (sym (eqb→eq (pair_of m l) w v))))
      (λ (t : T (gives w m l) → ⊥).
      inr (
        T_false (gives w m l) t,
        λ i.
            let (u, v) = only w (pair_of (had cs) l) (fresh cs l) i in
            t (and_T (fresh_in m l) (eqb (pair_of m l) w) (rw (e, fresh-held cs l) u) (rw (e, v) (eqb_refl (pair_of (had cs) l)))),
      ))
      (T-dec (gives w m l))

  pub walk : (b : Block) → Written C b → (r : Block) (m : ℕ) (cs path : List ℕ) (n : ℕ) → Stands ps x path m cs (b ⨾ r) → length path + size_with s b ≤ n
      → Outcome ps x w (pairs_with f cs b) m cs r n (walk_with g w m path b)
  unfolding Written ◌⨾◌ size_with pairs_with walk_with
  walk done v r m cs path n st h = passes st mathlib.Core.List.Memᴰ.not-nil (omega arith)
  walk (skip r') v r m cs path n st h = walk r' v r m cs (put path 0 m) n (pass-skip st) (omega (arith, length-put path 0 m))
  walk (call p r') v r m cs path n st h =
      outcome-then (f p cs) (pairs_with f cs r') (λ q. walk_with g w m q r')
      (called p v.0 (r' ⨾ r) m cs (put path 0 m) (suc (length path) + s p) (enter_call st) (omega (arith, length-put path 0 m))) (omega arith)
      (λ q at le. walk r' v.1 r m cs q n at (omega arith))
  walk (hold l b r') v r m cs path n st h =
      ⊎_elim
      (λ (t : Here m cs l).
      let place : Finds ps x w path =
      record { claim = l; inside = b; following = r' ⨾ r; count = cs; mask = m; stands = st; small = v.0; free = t.1; pair = t.2 } in
      let member : Memᴰ w (pair_at cs l) = rw (T_true (fresh cs l) t.1) (mathlib.Core.List.Memᴰ.head t.2) in
      rw t.0 (finds place (mathlib.Core.List.Memᴰ.append_left (pairs_with f (up l cs) b ++ pairs_with f cs r') member) (omega arith)))
      (λ (t : Elsewhere m cs l).
      let inner : Outcome ps x w (pairs_with f (up l cs) b) (holding m l) (up l cs) (end l (r' ⨾ r)) (suc (length path) + size_with s b)
      (walk_with g w (holding m l) (put path 0 (holding m l)) b) =
      walk b v.1 (end l (r' ⨾ r)) (holding m l) (up l cs) (put path 0 (holding m l)) (suc (length path) + size_with s b)
      (begin_hold v.0 st) (omega (arith, length-put path 0 (holding m l))) in
      rw t.0
      (outcome-after (pair_at cs l) t.1 (outcome-then (pairs_with f (up l cs) b) (pairs_with f cs r') (λ q. walk_with g w m (put q 0 m) r') inner (omega arith)
      (λ q at le. walk r' v.2 r m cs (put q 0 m) n (end-hold st at) (omega (arith, length-put q 0 m))))))
      (at-hold m cs l st.mask)
  walk (loop b r') v r m cs path n st h =
      outcome-then (pairs_with f cs b) (pairs_with f cs r') (λ q. walk_with g w m (put path 2 m) r')
      (walk b v.0 (loop b (r' ⨾ r)) m cs (put path 1 m) (suc (length path) + size_with s b) (enter_loop st) (omega (arith, length-put path 1 m))) (omega arith)
      (λ q at le. walk r' v.1 r m cs (put path 2 m) n (leave_loop st) (omega (arith, length-put path 2 m)))
  walk (either a b r') v r m cs path n st h =
      outcome-then (pairs_with f cs a) (pairs_with f cs b ++ pairs_with f cs r') (λ q. and_then (walk_with g w m (put path 2 m) b) (λ q'. walk_with g w m q' r'))
      (walk a v.0 (r' ⨾ r) m cs (put path 1 m) (suc (length path) + size_with s a) (take-one st) (omega (arith, length-put path 1 m))) (omega arith)
      (λ q at le. outcome-then (pairs_with f cs b) (pairs_with f cs r') (λ q'. walk_with g w m q' r')
      (walk b v.1 (r' ⨾ r) m cs (put path 2 m) (suc (length path) + size_with s b) (take-two st) (omega (arith, length-put path 2 m))) (omega arith)
      (λ q' at' le'. walk r' v.2 r m cs q' n at' (omega arith)))
  walk (end l r') v r m cs path n st h = absurd v

-- what an answer says
module _ {ps : List Block} {x : ThreadState} {w : ℕ} {ws : List ℕ} {m : ℕ} {cs : List ℕ} {r : Block} {n : ℕ} where
  pub outcome-passed : {path : List ℕ} → Outcome ps x w ws m cs r n (passed path) → Stands ps x path m cs r × (Memᴰ w ws → ⊥) × (length path ≤ n)
  outcome-passed (passes a i h) = (a, i, h)

  -- how the walk ends, by whether w is a pair
  outcome-member : {o : Walked} → Outcome ps x w ws m cs r n o → Memᴰ w ws
      → (path : List ℕ) × (o ≡ found path) × Finds ps x w path × (length path ≤ n)
  outcome-member (finds {path} a i h) j = (path, refl, a, h)
  outcome-member (passes a i h) j = absurd (i j)

  outcome-none : {o : Walked} → Outcome ps x w ws m cs r n o → (Memᴰ w ws → ⊥)
      → (path : List ℕ) × (o ≡ passed path) × Stands ps x path m cs r × (length path ≤ n)
  outcome-none (finds a i h) f = absurd (f i)
  outcome-none (passes {path} a i h) f = (path, refl, a, h)

-- the walk for w passed all of procedure p
pub record PathPassed (d : ℕ) (ps : List Block) (p w : ℕ) : Type 0 where
  pub path : List ℕ
  pub walked : path_to d ps p w ≡ passed path
  pub place : Stands ps (initial ps p) path 0 unlocked done
  pub short : length path ≤ size_at d ps p

-- at a depth above the rank
module _ (ps : List Block) (rank : ℕ → ℕ) (s : Sound ps rank) where
  pub walk_at_lem : (x : ThreadState) (w d p : ℕ) → rank p < d → (r : Block) (m : ℕ) (cs path : List ℕ) (n : ℕ) → Stands ps x path m cs (body_in ps p ⨾ r)
      → length path + size_at d ps p ≤ n → Outcome ps x w (pairs_at d ps p cs) m cs r n (walk_at d ps w p m path)
  unfolding size_at pairs_at walk_at
  walk_at_lem x w zero p k r m cs path n st h = absurd (omega arith)
  walk_at_lem x w (suc d) p k r m cs path n st h =
      walk ps x w (λ q. rank q < d) (size_at d ps) (pairs_at d ps) (walk_at d ps w) (walk_at_lem x w d) (body_in ps p)
      (body_below ps rank s d p (omega arith)) r m cs path n st h

  pub path-outcome : (d p w : ℕ) → rank p < d → Outcome ps (initial ps p) w (pairs d ps p) 0 unlocked done (size_at d ps p) (path_to d ps p w)
  path-outcome d p w k = walk_at_lem (initial ps p) w d p k done 0 unlocked [] (size_at d ps p) (stands-first ps p) (omega arith)

  -- a pair's path is found, and no other
  pub path-found : (d p w : ℕ) → rank p < d → Memᴰ w (pairs d ps p) → PathFound d ps p w
  path-found d p w k i = let o = outcome-member (path-outcome d p w k) i in record { path = o.0; walked = o.1; place = o.2; short = o.3 }

  pub path-passed : (d p w : ℕ) → rank p < d → (Memᴰ w (pairs d ps p) → ⊥) → PathPassed d ps p w
  path-passed d p w k f = let o = outcome-none (path-outcome d p w k) f in record { path = o.0; walked = o.1; place = o.2; short = o.3 }

-- ---- every moment of a walk

-- The walk of block b, with calls less than d deep, the claims of m had and the path so far, comes at some moment to stand before block b', with calls less
-- than d' deep, mask m' and path': into a block (in-) or past it (past-), where the walk of it passed.
pub data Visits (ps : List Block) (w d' m' : ℕ) (path' : List ℕ) (b' : Block) : ℕ → ℕ → List ℕ → Block → Type 0 where
  here : Visits ps w d' m' path' b' d' m' path' b'
  past_skip : {d m : ℕ} {path : List ℕ} {r : Block} → Visits ps w d' m' path' b' d m (put path 0 m) r → Visits ps w d' m' path' b' d m path (skip r)
  in_call : {d m p : ℕ} {path : List ℕ} {r : Block} → Visits ps w d' m' path' b' d m (put path 0 m) (body_in ps p)
      → Visits ps w d' m' path' b' (suc d) m path (call p r)
  past-call : {d m p : ℕ} {path q : List ℕ} {r : Block} → walk_at d ps w p m (put path 0 m) ≡ passed q → Visits ps w d' m' path' b' d m q r
      → Visits ps w d' m' path' b' d m path (call p r)
  in_hold : {d m l : ℕ} {path : List ℕ} {b r : Block} → Visits ps w d' m' path' b' d (holding m l) (put path 0 (holding m l)) b
      → Visits ps w d' m' path' b' d m path (hold l b r)
  past-hold : {d m l : ℕ} {path q : List ℕ} {b r : Block} → walk_with (walk_at d ps w) w (holding m l) (put path 0 (holding m l)) b ≡ passed q
      → Visits ps w d' m' path' b' d m (put q 0 m) r → Visits ps w d' m' path' b' d m path (hold l b r)
  in_loop : {d m : ℕ} {path : List ℕ} {b r : Block} → Visits ps w d' m' path' b' d m (put path 1 m) b → Visits ps w d' m' path' b' d m path (loop b r)
  past-loop : {d m : ℕ} {path : List ℕ} {b r : Block} → Visits ps w d' m' path' b' d m (put path 2 m) r → Visits ps w d' m' path' b' d m path (loop b r)
  in_one : {d m : ℕ} {path : List ℕ} {a b r : Block} → Visits ps w d' m' path' b' d m (put path 1 m) a → Visits ps w d' m' path' b' d m path (either a b r)
  in_two : {d m : ℕ} {path : List ℕ} {a b r : Block} → Visits ps w d' m' path' b' d m (put path 2 m) b → Visits ps w d' m' path' b' d m path (either a b r)
  past-either : {d m : ℕ} {path q : List ℕ} {a b r : Block} → walk_with (walk_at d ps w) w m (put path 2 m) b ≡ passed q
      → Visits ps w d' m' path' b' d m q r → Visits ps w d' m' path' b' d m path (either a b r)

-- A moment of the walk that began with thread x: the path is an execution to this place, and with the size of the block to be walked it is at most n long.
pub record Visited (ps : List Block) (rank : ℕ → ℕ) (x : ThreadState) (d m : ℕ) (path : List ℕ) (b : Block) (n : ℕ) : Type 0 where
  pub following : Block
  pub count : List ℕ
  pub stands : Stands ps x path m count (b ⨾ following)
  pub written : Written (λ q. rank q < d) b
  pub room : length path + size_with (size_at d ps) b ≤ n

module _ (ps : List Block) (rank : ℕ → ℕ) (s : Sound ps rank) (x : ThreadState) (w : ℕ) where
  -- where a walk passed
  passed-block : (d : ℕ) (b : Block) → Written (λ q. rank q < d) b → (r : Block) (m : ℕ) (cs path q : List ℕ) → Stands ps x path m cs (b ⨾ r)
      → walk_with (walk_at d ps w) w m path b ≡ passed q → Stands ps x q m cs r × (length q ≤ length path + size_with (size_at d ps) b)
  passed-block d b v r m cs path q st e =
      let o : Outcome ps x w (pairs_with (pairs_at d ps) cs b) m cs r (length path + size_with (size_at d ps) b) (passed q) =
      rw e at (walk ps x w (λ q. rank q < d) (size_at d ps) (pairs_at d ps) (walk_at d ps w) (walk_at_lem ps rank s x w d) b v r m cs path
      (length path + size_with (size_at d ps) b) st (omega arith)) in
      let p = outcome-passed o in (p.0, p.2)

  passed-call : (d p : ℕ) → rank p < d → (r : Block) (m : ℕ) (cs path q : List ℕ) → Stands ps x path m cs (body_in ps p ⨾ r)
      → walk_at d ps w p m path ≡ passed q → Stands ps x q m cs r × (length q ≤ length path + size_at d ps p)
  passed-call d p k r m cs path q st e =
      let o : Outcome ps x w (pairs_at d ps p cs) m cs r (length path + size_at d ps p) (passed q) =
      rw e at (walk_at_lem ps rank s x w d p k r m cs path (length path + size_at d ps p) st (omega arith)) in
      let u = outcome-passed o in (u.0, u.2)

  pub visited : {d' m' : ℕ} {path' : List ℕ} {b' : Block} {d m : ℕ} {path : List ℕ} {b : Block} → Visits ps w d' m' path' b' d m path b → Written (λ q. rank q < d) b
      → (r : Block) (cs : List ℕ) (n : ℕ) → Stands ps x path m cs (b ⨾ r) → length path + size_with (size_at d ps) b ≤ n → Visited ps rank x d' m' path' b' n
  unfolding Written ◌⨾◌ size_with size_at
  visited here v r cs n st h = record { following = r; count = cs; stands = st; written = v; room = h }
  visited (past_skip {d} {m} {path} {r = r'} u) v r cs n st h = visited u v r cs n (pass-skip st) (omega (arith, length-put path 0 m))
  visited (in_call {d} {m} {p} {path} {r = r'} u) v r cs n st h =
      visited u (body_below ps rank s d p (omega (arith, v.0))) (r' ⨾ r) cs n (enter_call st) (omega (arith, length-put path 0 m))
  visited (past-call {d} {m} {p} {path} {q} {r = r'} e u) v r cs n st h =
      let k = passed-call d p v.0 (r' ⨾ r) m cs (put path 0 m) q (enter_call st) e in
      visited u v.1 r cs n k.0 (omega (arith, k.1, length-put path 0 m))
  visited (in_hold {d} {m} {l} {path} {b} {r = r'} u) v r cs n st h =
      visited u v.1 (end l (r' ⨾ r)) (up l cs) n (begin_hold v.0 st) (omega (arith, length-put path 0 (holding m l)))
  visited (past-hold {d} {m} {l} {path} {q} {b} {r = r'} e u) v r cs n st h =
      let k = passed-block d b v.1 (end l (r' ⨾ r)) (holding m l) (up l cs) (put path 0 (holding m l)) q (begin_hold v.0 st) e in
      visited u v.2 r cs n (end-hold st k.0) (omega (arith, k.1, length-put path 0 (holding m l), length-put q 0 m))
  visited (in_loop {d} {m} {path} {b} {r = r'} u) v r cs n st h = visited u v.0 (loop b (r' ⨾ r)) cs n (enter_loop st) (omega (arith, length-put path 1 m))
  visited (past-loop {d} {m} {path} {b} {r = r'} u) v r cs n st h = visited u v.1 r cs n (leave_loop st) (omega (arith, length-put path 2 m))
  visited (in_one {d} {m} {path} {a} {b} {r = r'} u) v r cs n st h = visited u v.0 (r' ⨾ r) cs n (take-one st) (omega (arith, length-put path 1 m))
  visited (in_two {d} {m} {path} {a} {b} {r = r'} u) v r cs n st h = visited u v.1 (r' ⨾ r) cs n (take-two st) (omega (arith, length-put path 2 m))
  visited (past-either {d} {m} {path} {q} {a} {b} {r = r'} e u) v r cs n st h =
      let k = passed-block d b v.1 (r' ⨾ r) m cs (put path 2 m) q (take-two st) e in
      visited u v.2 r cs n k.0 (omega (arith, k.1, length-put path 2 m))

-- every moment of the walk for w through procedure p
pub path-moment : (ps : List Block) (rank : ℕ → ℕ) → Sound ps rank → (d p w : ℕ) → rank p ≤ d → {d' m' : ℕ} {path' : List ℕ} {b' : Block}
    → Visits ps w d' m' path' b' d 0 [] (body_in ps p) → Visited ps rank (initial ps p) d' m' path' b' (size_at (suc d) ps p)
unfolding size_at
path-moment ps rank s d p w k u =
    visited ps rank s (initial ps p) w u (body_below ps rank s d p k) done unlocked (size_at (suc d) ps p) (stands-first ps p) (omega arith)

-- so what is written fits into a buffer as long as the largest size
pub path-fits : (ps : List Block) (rank : ℕ → ℕ) → Sound ps rank → (d p w n : ℕ) → rank p ≤ d → size_at (suc d) ps p ≤ n
    → {d' m' : ℕ} {path' : List ℕ} {b' : Block} → Visits ps w d' m' path' b' d 0 [] (body_in ps p) → length path' ≤ n
path-fits ps rank s d p w n k h u = let v = path-moment ps rank s d p w k u in omega arith
