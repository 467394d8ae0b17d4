-- The way back over lists and masks, a law for each move. A step back leaves the target, so what is wanted there stays. A jump makes the present places the target, each thread
-- that has stepped moved before the hold of the claim that its last step gave up: it wants that claim, and has what it had. With no step left the entries are a run.
use Prim.Native.Nat.{ℕ, zero, suc, ◌+◌, ◌-◌, ◌*◌, ◌^◌, ◌≤◌, ◌<◌}
use mathlib.Core.Bool.{Bool}
use mathlib.Core.List.{List, [], ◌∷◌}
use mathlib.Core.Logic.{⊎_elim, ◌≢◌}
use mathlib.Core.Option.{some}
use mathlib.Core.Path.{◌≡◌, refl, sym, ap, ◌∙◌, subst}
use native.Mathlib.Nat.{eq-zero-or-pos, eq-or-lt_of_le}
use native.Mathlib.Omega.{arith}
use lib.Bits.{bit_and, and_comm}
use lib.ListN.{length, get_or, set, length-set}
use lib.Seq.{get_or-set_same}
use lib.Dec.{T, eqb, eqb→eq, T_not}
use Rattle.limits.specs.Limits.{claim_count}
use Rattle.laws.specs.Mask.{bit, in_mask}
use Rattle.laws.proofs.Tests.{T-dec, T_true, T_false, eq_or_ne, lt_or_le, eq→eqb}
use Rattle.laws.proofs.Bits.{bit-and, bit-none, bit_lt, of_disjoint, apart_in}
use Rattle.laws.specs.Sums.{total}
use Rattle.laws.proofs.Places.{zeros_at}
use Rattle.laws.proofs.Sums.{total-le}
use Rattle.semantics.specs.Plan.{Block, hold, body_in, LockPlan, Sound, Plain}
use Rattle.semantics.specs.Sizes.{thread_size, thread_sizes}
use Rattle.semantics.specs.Run.{ThreadState, initial, unlocked, apart, everyone, run, start, nth, counts}
use Rattle.semantics.specs.Stuck.{Stuck, Schedule}
use Rattle.semantics.specs.Pairs.{had_from, had, had_of, wanted_of}
use Rattle.semantics.specs.Execution.{exec, state_after}
use Rattle.semantics.specs.Conflict.{bars, CompatibleIn, ExcludesIn, PairConflict}
use Rattle.semantics.specs.Cycle.{Cycle}
use Rattle.semantics.specs.Joins.{other_than}
use Rattle.semantics.specs.StuckRounds.{first_wanted, WantedAt, stuck_rounds}
use Rattle.semantics.specs.Retreat.{joint, Retreat, had_mask, position_of, Paths, GoingBack, others_at, scan_back, JumpTo}
use Rattle.semantics.proofs.Ground.LockSets.{free-digit, digit-free, digit-positive}
use Rattle.semantics.proofs.Ground.Tables.{is-table}
use Rattle.semantics.proofs.Thread.Transitions.{move_transition}
use Rattle.semantics.proofs.Thread.Balance.{zero_by_end}
use Rattle.semantics.proofs.Thread.Execution.{execution}
use Rattle.semantics.proofs.Gateway.Compatible.{excludes_held, apart-sym, apart_by, by_apart}
use Rattle.semantics.proofs.Gateway.Blocked.{Blocked, blocked-stuck}
use Rattle.semantics.proofs.Gateway.Invariant.{start-length, start-at}
use Rattle.semantics.proofs.Retreat.JointStates.{Executions, joint-at, in_joint, of_joint, joint-absent, state-balanced, joint-balanced, last_step}
use Rattle.semantics.proofs.Retreat.RetreatStep.{retreat-step}
use Rattle.semantics.proofs.Retreat.RetreatRefused.{StepBackRefused, retreat-refused}
use Rattle.semantics.proofs.Retreat.RetreatJump.{MatchingBegin, retreat_jump, jump_total}
use Rattle.semantics.proofs.Retreat.RetreatByMasks.{apart_of_masks, masks_of-apart, lowered_set, step_back-permitted, step_back-refused, matching_begin_scan}
use Rattle.semantics.proofs.Analysis.Joins.{other_than_lem, in_join, join_in}
use Rattle.semantics.proofs.Analysis.Cycle.{CycleChoice, cycle-choice}
use Rattle.semantics.proofs.Stuck.Closing.{wanted-hold, AllWait, ContainsAll, closing-masks, closing-contains}

-- choices that each thread's procedure offers make paths
pub paths_of : (ps : List Block) (ns : List ℕ) (P : ℕ → List ℕ) (M : ℕ → List ℕ) (begin : List ℕ) → ((q : ℕ) → Plain (body_in ps q)) → length ns ≤ 8
    → ((i : ℕ) → i < length ns → (y : ThreadState) × (exec ps (initial ps (get_or ns i 0)) (P i) ≡ some y))
    → ((i a : ℕ) → i < length ns → a ≤ length (P i) → get_or (M i) a 0 ≡ had_mask (state_after ps (initial ps (get_or ns i 0)) (P i) a))
    → ((i : ℕ) → i < length ns → get_or begin i 0 ≡ first_wanted (body_in ps (get_or ns i 0))) → Paths ps ns P
    (λ i. state_after ps (initial ps (get_or ns i 0)) (P i)) M begin
paths_of ps ns P M begin bodies few leads masks begins = record {
  bodies = bodies;
  few = few;
  runs = λ i b. let q = leads i b in execution ps (initial ps (get_or ns i 0)) q.0 (P i) q.1;
  masks = masks;
  begins = begins;
}

-- ---- the scan for the place before a hold

-- what the scan finds
pub record Scanned (row : List ℕ) (l a h : ℕ) : Type 0 where
  pub back : h ≤ a
  pub without : bit (get_or row h 0) l ≡ 0
  pub between : (i : ℕ) → h < i → i ≤ a → bit (get_or row i 0) l ≡ 1

pub scanned : (row : List ℕ) (l a : ℕ) → bit (get_or row 0 0) l ≡ 0 → Scanned row l a (scan_back row l a)
unfolding scan_back
scanned row l zero z = record { back = omega arith; without = z; between = λ i b c. absurd (omega arith) }
scanned row l (suc a) z =
    ⊎_elim
    (λ (t : T (in_mask (get_or row (suc a) 0) l)).
    let r = scanned row l a z in
    let e = eqb→eq (bit (get_or row (suc a) 0) l) 1 t in
    rw (T_true (in_mask (get_or row (suc a) 0) l) t) (record {
      back = omega (arith, r.back);
      without = r.without;
      between = λ i b c. ⊎_elim (λ (q : i ≡ suc a). ap (λ j. bit (get_or row j 0) l) q ∙ e) (λ (q : i < suc a). r.between i b (omega arith))
          (eq-or-lt_of_le c);
    }))
    (λ (f : T (in_mask (get_or row (suc a) 0) l) → ⊥).
    rw (T_false (in_mask (get_or row (suc a) 0) l) f) (record {
      back = omega arith;
      without = not-one (bit (get_or row (suc a) 0) l) (bit_lt (get_or row (suc a) 0) l) f;
      between = λ i b c. absurd (omega arith);
    }))
    (T-dec (in_mask (get_or row (suc a) 0) l))
  where
    not-one : (b : ℕ) → b < 2 → (T (eqb b 1) → ⊥) → b ≡ 0
    not-one b c f = ⊎_elim (λ (e : b ≡ 1). absurd (f (rw e tt))) (λ (d : b ≢ 1). omega arith) (eq_or_ne b 1)

-- one turn of the scan, and its end
pub scan-again : (row : List ℕ) (l a : ℕ) → bit (get_or row 0 0) l ≡ 0 → bit (get_or row a 0) l ≡ 1
    → (0 < a) × (scan_back row l a ≡ scan_back row l (a - 1))
unfolding scan_back
scan-again row l zero z e = absurd (omega arith)
scan-again row l (suc a) z e = let f : a ≡ suc a - 1 = omega arith in (omega arith, rw e (ap (scan_back row l) f))

-- positions at which each thread of S stands before the hold of its pair, the others at their start; what they want and hold there
pub record AtPairs (n : ℕ) (s : ℕ → ℕ → ThreadState) (M : ℕ → List ℕ) (begin : List ℕ) (S : ℕ → Bool) (pair : ℕ → ℕ)
    (positions wanted masks : List ℕ) : Type 0 where
  pub size : length positions ≡ n
  pub present : (t : ℕ) → T (S t) → t < n
  pub stands : (t : ℕ) → T (S t) → (b : Block) × (r : Block) × ((s t (position_of positions t)).rest ≡ hold (wanted_of (pair t)) b r)
  pub holds : (t : ℕ) → T (S t) → get_or (M t) (position_of positions t) 0 ≡ had_of (pair t)
  pub wants : (t : ℕ) → T (S t) → get_or wanted t 0 ≡ 2 ^ wanted_of (pair t)
  pub others : (t : ℕ) → t < n → (T (S t) → ⊥) → (position_of positions t ≡ 0) × (get_or wanted t 0 ≡ get_or begin t 0)
  pub mask : (t : ℕ) → t < n → get_or masks t 0 ≡ get_or (M t) (position_of positions t) 0

-- the same for a cycle of k threads: member i stands before the hold of its pair
pub record AtCycle (n : ℕ) (s : ℕ → ℕ → ThreadState) (M : ℕ → List ℕ) (begin : List ℕ) (k : ℕ) (thread : ℕ → ℕ) (pair : ℕ → ℕ)
    (positions wanted masks : List ℕ) : Type 0 where
  pub size : length positions ≡ n
  pub present : (i : ℕ) → i < k → thread i < n
  pub stands : (i : ℕ) → i < k → (b : Block) × (r : Block) × ((s (thread i) (position_of positions (thread i))).rest ≡ hold (wanted_of (pair i)) b r)
  pub holds : (i : ℕ) → i < k → get_or (M (thread i)) (position_of positions (thread i)) 0 ≡ had_of (pair i)
  pub wants : (i : ℕ) → i < k → get_or wanted (thread i) 0 ≡ 2 ^ wanted_of (pair i)
  pub others : (t : ℕ) → t < n → ((i : ℕ) → i < k → thread i ≢ t) → (position_of positions t ≡ 0) × (get_or wanted t 0 ≡ get_or begin t 0)
  pub mask : (t : ℕ) → t < n → get_or masks t 0 ≡ get_or (M t) (position_of positions t) 0

at-pairs : {n : ℕ} {s : ℕ → ℕ → ThreadState} {M : ℕ → List ℕ} {begin : List ℕ} {vss : List (List ℕ)} {k : ℕ} {thread pair : ℕ → ℕ} {positions wanted masks : List ℕ}
    → (q : CycleChoice vss k thread pair) → AtCycle n s M begin k thread pair positions wanted masks
    → AtPairs n s M begin q.members q.choice positions wanted masks
at-pairs {n} {s} {M} {begin} {thread = thread} {pair} {positions} {wanted} q a = record {
  size = a.size;
  present = λ t m. let (i, b, e, f) = q.is_member t m in subst (λ u. u < n) e (a.present i b);
  stands = λ t m. let (i, b, e, f) = q.is_member t m in stands t i (q.choice t) e f (a.stands i b);
  holds = λ t m. let (i, b, e, f) = q.is_member t m in subst (λ u. get_or (M u) (position_of positions u) 0 ≡ had_of (q.choice t)) e
      (a.holds i b ∙ ap (λ w. had_of w) (sym f));
  wants = λ t m. let (i, b, e, f) = q.is_member t m in subst (λ u. get_or wanted u 0 ≡ 2 ^ wanted_of (q.choice t)) e
      (a.wants i b ∙ ap (λ w. 2 ^ wanted_of w) (sym f));
  others = λ t b f. a.others t b (λ i c e. f (subst (λ u. T (q.members u)) e (q.has-member i c)));
  mask = a.mask;
}
  where
    stands : (t i w : ℕ) → thread i ≡ t → w ≡ pair i
        → (b : Block) × (r : Block) × ((s (thread i) (position_of positions (thread i))).rest ≡ hold (wanted_of (pair i)) b r)
        → (b : Block) × (r : Block) × ((s t (position_of positions t)).rest ≡ hold (wanted_of w) b r)
    stands t i w e f (b, r, g) = (b, r, ap (λ u. (s u (position_of positions u)).rest) (sym e) ∙ g ∙ ap (λ x. hold (wanted_of x) b r) (sym f))

-- a run from the start to a moment with a stuck set, and what each thread wants and holds there
pub record Finished (ps : List Block) (ns : List ℕ) (bound : ℕ) (es wanted masks : List ℕ) : Type 0 where
  pub there : List ThreadState
  pub members : ℕ → Bool
  pub reached : run ps (start ps ns) es ≡ some there
  pub stuck : Stuck ps there members
  pub wants : WantedAt there wanted masks
  pub short : length es ≤ bound

both : (a b l : ℕ) → bit (bit_and a b) l ≡ 1 → (bit a l ≡ 1) × (bit b l ≡ 1)
both a b l e = (omega (arith, bit-and a b l, bit_lt a l, bit_lt b l), omega (arith, bit-and a b l, bit_lt a l, bit_lt b l))

module _ {ps : List Block} {ns : List ℕ} {P : ℕ → List ℕ} {s : ℕ → ℕ → ThreadState} {M : ℕ → List ℕ} {begin : List ℕ}
    (x : Paths ps ns P s M begin) where
  abbrev n : ℕ
  n = length ns

  pub executions : Executions ps n P s
  executions = record { bodies = x.bodies; few = x.few; proc = λ i. get_or ns i 0; runs = x.runs }

  abbrev Within : (ℕ → ℕ) → Type 0
  Within j = (i : ℕ) → i < n → j i ≤ length (P i)

  -- at its start a thread holds nothing, and wants what its block begins with
  pub begin_mask : (i l : ℕ) → i < n → bit (get_or (M i) 0 0) l ≡ 0
  begin_mask i l b =
      ap (λ m. bit m l) (x.masks i 0 b (omega arith) ∙ ap had_mask (x.runs i b).first) ∙ free-digit unlocked l (zeros_at claim_count l)

  pub begin_wanted : (i : ℕ) → i < n → get_or begin i 0 ≡ first_wanted (s i 0).rest
  begin_wanted i b = x.begins i b ∙ ap (λ y. first_wanted y.rest) (sym (x.runs i b).first)

  -- what the others bar meets a set just if what one of them bars does
  apart-others : (positions : List ℕ) (k m : ℕ) → bit_and m (others_at n M positions k) ≡ 0 → (i : ℕ) → i < n → i ≢ k → CompatibleIn m (get_or (M i) (position_of positions i) 0)
  unfolding others_at
  apart-others positions k m e i b d =
      apart-sym (get_or (M i) (position_of positions i) 0) m (apart_in (bars (get_or (M i) (position_of positions i) 0)) (others_at n M positions k) m
      (λ l h. in_join (other_than k) (λ i. bars (get_or (M i) (position_of positions i) 0)) l n i b (other_than_lem k i d) h)
      (and_comm (others_at n M positions k) m ∙ e))

  in_others : (positions : List ℕ) (k l : ℕ) → bit (others_at n M positions k) l ≡ 1 → (i : ℕ) × (i < n) × (i ≢ k) × ExcludesIn (get_or (M i) (position_of positions i) 0) l
  unfolding others_at
  in_others positions k l e =
      let (i, b, d, h) = join_in (other_than k) (λ i. bars (get_or (M i) (position_of positions i) 0)) l n e in
      (i, b, (λ z. T_not (eqb i k) d (eq→eqb i k z)), h)

  -- ---- one step back

  pub step_back : {bound : ℕ} {positions es wanted masks : List ℕ} → GoingBack ps n P s bound positions es wanted masks → (k : ℕ) → k < n → 0 < position_of positions k
      → bit_and (get_or (M k) (position_of positions k - 1) 0) (others_at n M positions k) ≡ 0
      → GoingBack ps n P s bound (set positions k (position_of positions k - 1)) ((k + 8 * get_or (P k) (position_of positions k - 1) 0) ∷ es) wanted masks
  step_back {bound} {positions} {es} {wanted} {masks} g k b o e =
      let r = g.retreat in
      let c : k < length positions = subst (λ m. k < m) (sym g.size) b in
      let free = step_back-permitted executions (position_of positions) r.within r.all_apart k b o
      (λ i d f. rw (← x.masks k (position_of positions k - 1) b (omega (arith, r.within k b)), ← x.masks i (position_of positions i) d (r.within i d))
      (apart-others positions k (get_or (M k) (position_of positions k - 1) 0) e i d f)) in
      let q = retreat-step executions k (position_of (set positions k (position_of positions k - 1))) b (lowered_set positions k c o) free r in
      record {
        size = length-set positions k (position_of positions k - 1) ∙ g.size;
        target = g.target;
        retreat = subst (λ a. Retreat ps n P s bound (position_of (set positions k (position_of positions k - 1))) ((k + 8 * get_or (P k) a 0) ∷ es) (joint n s g.target))
            (get_or-set_same positions k (position_of positions k - 1) 0 c) q;
        there = g.there;
      }

  -- ---- the jump

  module _ {bound : ℕ} {positions es wanted masks : List ℕ} (g : GoingBack ps n P s bound positions es wanted masks) (hs ws ms : List ℕ) (long : length hs ≡ n)
      (to : (k : ℕ) → k < n → JumpTo (M k) (others_at n M positions k) (get_or begin k 0) (position_of positions k) (position_of hs k) (get_or ws k 0))
      (held-there : (k : ℕ) → k < n → get_or ms k 0 ≡ get_or (M k) (position_of positions k) 0) where
    within : Within (position_of positions)
    within = g.retreat.within

    free : T (apart everyone (joint n s (position_of positions)))
    free = g.retreat.all_apart

    mask_at : (k a : ℕ) → k < n → a ≤ position_of positions k → get_or (M k) a 0 ≡ had_mask (s k a)
    mask_at k a b c = x.masks k a b (omega (arith, within k b))

    module _ (k : ℕ) (b : k < n) (o : 0 < position_of positions k) where
      abbrev l : ℕ
      l = (to k b).claim

      abbrev h : ℕ
      h = scan_back (M k) l (position_of positions k - 1)

      -- the last step gave up l
      had-before : bit (had_mask (s k (position_of positions k - 1))) l ≡ 1
      had-before = ap (λ m. bit m l) (sym (mask_at k (position_of positions k - 1) b (omega arith))) ∙ (both (get_or (M k) (position_of positions k - 1) 0) (others_at n M positions k) l
          ((to k b).given-up o)).0

      other : (i : ℕ) × (i < n) × (i ≢ k) × ExcludesIn (get_or (M i) (position_of positions i) 0) l
      other = in_others positions k l (both (get_or (M k) (position_of positions k - 1) 0) (others_at n M positions k) l ((to k b).given-up o)).1

      theirs : ExcludesIn (had_mask (s other.0 (position_of positions other.0))) l
      theirs = ap (λ m. bit (bars m) l) (sym (x.masks other.0 (position_of positions other.0) other.1 (within other.0 other.1))) ∙ other.3

      gone : bit (had_mask (s k (position_of positions k))) l ≡ 0
      gone =
          let c : CompatibleIn (had_mask (s other.0 (position_of positions other.0))) (had_mask (s k (position_of positions k))) =
          subst (λ y. CompatibleIn (had_mask (s other.0 (position_of positions other.0))) (had_mask y)) (joint-at executions (position_of positions) k b)
          (subst (λ y. CompatibleIn (had_mask y) (had_mask (nth (joint n s (position_of positions)) k))) (joint-at executions (position_of positions) other.0 other.1)
          (masks_of-apart (joint n s (position_of positions)) free other.0 k other.2)) in
          of_disjoint (bars (had_mask (s other.0 (position_of positions other.0)))) (had_mask (s k (position_of positions k))) c l theirs

      scan : Scanned (M k) l (position_of positions k - 1) h
      scan = scanned (M k) l (position_of positions k - 1) (begin_mask k l b)

      -- so the place before that hold is where the scan ends
      before : h < position_of positions k - 1
      before =
          ⊎_elim
          (λ (e : h ≡ position_of positions k - 1).
          let z : bit (get_or (M k) (position_of positions k - 1) 0) l ≡ 0 = subst (λ a. bit (get_or (M k) a 0) l ≡ 0) e scan.without in
          absurd (omega (arith, had-before, ap (λ m. bit m l) (mask_at k (position_of positions k - 1) b (omega arith)))))
          (λ (c : h < position_of positions k - 1). c)
          (eq-or-lt_of_le scan.back)

      back-scan : MatchingBegin (s k) (position_of positions k) h
      back-scan =
          matching_begin_scan executions (position_of positions) within free k b o l h (digit-positive (s k (position_of positions k - 1)).count l had-before)
          (digit-free (s k (position_of positions k)).count l gone) before
          (digit-free (s k h).count l (ap (λ m. bit m l) (sym (mask_at k h b (omega (arith, before)))) ∙ scan.without))
          (λ i u v. digit-positive (s k i).count l (ap (λ m. bit m l) (sym (mask_at k i b (omega arith))) ∙ scan.between i u (omega arith)))

      back : MatchingBegin (s k) (position_of positions k) (position_of hs k)
      back = subst (MatchingBegin (s k) (position_of positions k)) (sym ((to k b).place o)) back-scan

      refused : StepBackRefused n s (position_of positions) k
      refused = retreat-refused executions (position_of positions) k within free b o
          (step_back-refused executions (position_of positions) within free k b o other.0 other.1 other.2
          (λ e. by_apart (had_mask (s other.0 (position_of positions other.0))) (had_mask (s k (position_of positions k - 1)))
          (apart-sym (had_mask (s k (position_of positions k - 1))) (had_mask (s other.0 (position_of positions other.0))) e) l theirs had-before))

      -- it wants l there
      wants : get_or ws k 0 ≡ first_wanted (s k (position_of hs k)).rest
      wants =
          let f = zero_by_end ps x.bodies (move_transition ps (get_or (P k) (position_of positions k - 1) 0)
          (s k (position_of positions k - 1)).rest (s k (position_of positions k - 1)).count (s k (position_of positions k))
          (last_step executions (position_of positions) k b o (within k b)))
          (state-balanced executions k (position_of positions k - 1) b (omega (arith, within k b))) l (digit-positive (s k (position_of positions k - 1)).count l had-before)
          (digit-free (s k (position_of positions k)).count l gone) in
          let q = back in
          let one-lock : l ≡ q.claim = cc (f.1, q.ended) in
          (to k b).wanted o ∙ ap (λ m. 2 ^ m) one-lock ∙ sym (wanted-hold (s k (position_of hs k)).rest q.claim q.inside q.following q.stands)

    still-at : (k : ℕ) → k < n → position_of positions k ≡ 0 → position_of hs k ≡ 0
    still-at k b e = ((to k b).still e).0

    wanted-there : (k : ℕ) → k < n → get_or ws k 0 ≡ first_wanted (s k (position_of hs k)).rest
    wanted-there k b =
        ⊎_elim (λ (e : position_of positions k ≡ 0). ((to k b).still e).1 ∙ begin_wanted k b ∙ ap (λ a. first_wanted (s k a).rest) (sym (still-at k b e)))
        (λ (o : 0 < position_of positions k). wants k b o) (eq-zero-or-pos (position_of positions k))

    mask-there : (k : ℕ) → k < n → get_or ms k 0 ≡ had_mask (s k (position_of hs k))
    mask-there k b =
        ⊎_elim (λ (e : position_of positions k ≡ 0). held-there k b ∙ mask_at k (position_of positions k) b (omega arith) ∙ ap (λ a. had_mask (s k a)) (e ∙ sym (still-at k b e)))
        (λ (o : 0 < position_of positions k). held-there k b ∙ mask_at k (position_of positions k) b (omega arith) ∙ sym (ap had (back k b o).same))
        (eq-zero-or-pos (position_of positions k))

    pub jump_back : (k : ℕ) → k < n → 0 < position_of positions k → GoingBack ps n P s bound hs [] ws ms × (total n (position_of hs) < total n (position_of positions))
    jump_back k b o = (
      record {
        size = long;
        target = position_of hs;
        retreat = retreat_jump executions (position_of positions) (position_of hs) within free refused back still-at bound k b o (omega (arith, g.retreat.short));
        there = record {
          wants = λ t c. let d = of_joint executions (position_of hs) t c in wanted-there t d ∙ ap (λ y. first_wanted y.rest)
              (sym (joint-at executions (position_of hs) t d));
          mask = λ t c. let d = of_joint executions (position_of hs) t c in mask-there t d ∙ ap had_mask (sym (joint-at executions (position_of hs) t d));
        };
      },
      jump_total executions (position_of positions) (position_of hs) within free refused back still-at k b o,
    )

  -- ---- the first target

  module _ {vss : List (List ℕ)} {S : ℕ → Bool} {pair : ℕ → ℕ} {positions wanted masks : List ℕ} (c : PairConflict vss S pair)
      (a : AtPairs n s M begin S pair positions wanted masks)
      (inside : Within (position_of positions)) where
    abbrev first-there : List ThreadState
    first-there = joint n s (position_of positions)

    -- a thread of S holds what its pair says, and another holds nothing
    holds_at : (t : ℕ) → T (S t) → had_mask (nth first-there t) ≡ had_of (pair t)
    holds_at t m =
        let b = a.present t m in
        ap had_mask (joint-at executions (position_of positions) t b) ∙ sym (x.masks t (position_of positions t) b (inside t b)) ∙ a.holds t m

    nothing-at : (t : ℕ) → (T (S t) → ⊥) → (l : ℕ) → bit (had_mask (nth first-there t)) l ≡ 0
    unfolding had_from
    nothing-at t f l =
        ⊎_elim
        (λ (b : t < n).
        ap (λ y. bit (had_mask y) l) (joint-at executions (position_of positions) t b) ∙ ap (λ m. bit m l) (sym (x.masks t (position_of positions t) b (inside t b)))
        ∙ ap (λ j. bit (get_or (M t) j 0) l) (a.others t b f).0 ∙ begin_mask t l b)
        (λ (b : n ≤ t). ap (λ y. bit (had_mask y) l) (joint-absent executions (position_of positions) t b) ∙ bit-none l)
        (lt_or_le t n)

    first-apart : T (apart everyone first-there)
    first-apart = apart_of_masks first-there (λ i k d.
        ⊎_elim
        (λ (m : T (S i)).
        ⊎_elim (λ (r : T (S k)). rw (holds_at i m, holds_at k r) (c.disjoint i k m r d))
        (λ (f : T (S k) → ⊥). apart_by (had_mask (nth first-there i)) (had_mask (nth first-there k)) (λ l e h. omega (arith, nothing-at k f l)))
        (T-dec (S k)))
        (λ (f : T (S i) → ⊥). apart-sym (had_mask (nth first-there k)) (had_mask (nth first-there i))
        (apart_by (had_mask (nth first-there k)) (had_mask (nth first-there i)) (λ l e h. omega (arith, nothing-at i f l))))
        (T-dec (S i)))

    first_waits : (t : ℕ) → T (S t) → Blocked S first-there t
    first_waits t m =
        let w = c.wanted t m in
        let q = a.stands t m in
        record {
          claim = wanted_of (pair t);
          inside = q.0;
          following = q.1;
          stands = ap (λ y. y.rest) (joint-at executions (position_of positions) t (a.present t m)) ∙ q.2;
          other = w.0;
          differs = w.1;
          member = w.2;
          theirs = (excludes_held (counts first-there w.0) (wanted_of (pair t))).1 (ap (λ y. bit (bars y) (wanted_of (pair t))) (holds_at w.0 w.2) ∙ w.3);
        }

    first-stuck : Stuck ps first-there S
    first-stuck =
        blocked-stuck ps x.bodies S first-there (joint-balanced executions (position_of positions) inside)
        (λ t m. in_joint executions (position_of positions) t (a.present t m)) first_waits
        c.member.0 c.member.1

    first-wanted : (t : ℕ) → t < n → get_or wanted t 0 ≡ first_wanted (s t (position_of positions t)).rest
    first-wanted t b =
        ⊎_elim (λ (m : T (S t)). let q = a.stands t m in a.wants t m ∙ sym
        (wanted-hold (s t (position_of positions t)).rest (wanted_of (pair t)) q.0 q.1 q.2))
        (λ (f : T (S t) → ⊥). let q = a.others t b f in q.1 ∙ begin_wanted t b ∙ ap (λ j. first_wanted (s t j).rest) (sym q.0)) (T-dec (S t))

    pub first-target : (bound : ℕ) → total n (position_of positions) ≤ bound → GoingBack ps n P s bound positions [] wanted masks
    unfolding run
    first-target bound le = record {
      size = a.size;
      target = position_of positions;
      retreat = record { within = inside; all_apart = first-apart; leads = refl; stuck = (S, first-stuck); short = omega arith };
      there = record {
        wants = λ t b. let d = of_joint executions (position_of positions) t b in first-wanted t d ∙ ap (λ y. first_wanted y.rest) (sym (joint-at executions (position_of positions) t d));
        mask = λ t b. let d = of_joint executions (position_of positions) t b in a.mask t d ∙ x.masks t (position_of positions t) d (inside t d) ∙ ap had_mask
            (sym (joint-at executions (position_of positions) t d));
      };
    }

  pub cycle-target : {vss : List (List ℕ)} {k : ℕ} {thread pair : ℕ → ℕ} {positions wanted masks : List ℕ} → Cycle vss k thread pair
      → AtCycle n s M begin k thread pair positions wanted masks → Within (position_of positions) → (bound : ℕ) → total n (position_of positions) ≤ bound
      → GoingBack ps n P s bound positions [] wanted masks
  cycle-target c a inside bound le = let q = cycle-choice c in first-target q.conflict (at-pairs q a) inside bound le

  -- ---- the end

  pub finished : {bound : ℕ} {positions es wanted masks : List ℕ} → GoingBack ps n P s bound positions es wanted masks → ((k : ℕ) → k < n → position_of positions k ≡ 0)
      → Finished ps ns bound es wanted masks
  finished {bound} {positions} {es} g z =
      let e : start ps ns ≡ joint n s (position_of positions) = is-table n (λ i. s i (position_of positions i)) (start ps ns) (start-length ps ns)
      (λ i b. start-at ps ns i b ∙ sym (x.runs i b).first ∙ ap (s i) (sym (z i b))) in
      record {
        there = joint n s g.target;
        members = g.retreat.stuck.0;
        reached = ap (λ us. run ps us es) e ∙ g.retreat.leads;
        stuck = g.retreat.stuck.1;
        wants = g.there;
        short = omega (arith, g.retreat.short);
      }

-- positions that are no higher than the threads' sizes are together no more than the plan asks of a schedule
pub paths-short : (plan : LockPlan) (positions : List ℕ) → ((t : ℕ) → t < length plan.threads → position_of positions t ≤ thread_size plan t)
    → total (length plan.threads) (position_of positions) ≤ thread_sizes plan
unfolding thread_sizes
paths-short plan positions h = total-le (length plan.threads) (position_of positions) (thread_size plan) h

-- what the way back ends with is a schedule, its set computed by masks
pub finished-schedule : (plan : LockPlan) (rank : ℕ → ℕ) → Sound plan.procs rank → {es wanted masks : List ℕ}
    → Finished plan.procs plan.threads (thread_sizes plan) es wanted masks
    → Schedule plan es (in_mask (stuck_rounds (length plan.threads) (length plan.threads) wanted masks))
finished-schedule plan rank sound {es} {wanted} {masks} f =
    closing-masks plan rank sound es f.there f.members f.reached f.stuck f.short wanted masks f.wants

-- or any set that contains all those in which each waits, and is one
pub finished-contains : (plan : LockPlan) (rank : ℕ → ℕ) → Sound plan.procs rank → {es wanted masks : List ℕ}
    → Finished plan.procs plan.threads (thread_sizes plan) es wanted masks → (m : ℕ)
    → AllWait (length plan.threads) wanted masks m → ContainsAll (length plan.threads) wanted masks m → Schedule plan es (in_mask m)
finished-contains plan rank sound {es} {wanted} {masks} f m =
    closing-contains plan rank sound es f.there f.members f.reached f.stuck f.short wanted masks f.wants m
