-- The largest stuck set by masks: each round drops just the threads that a round of `rounds` drops. So entries that are a run to a moment with a stuck set, no longer than the
-- threads' sizes, are a schedule with the set that is computed from what each thread wants and holds there.
use Prim.Native.Nat.{ℕ, zero, suc, ◌^◌, ◌≤◌, ◌<◌}
use mathlib.Core.Bool.{Bool, not, ◌&&◌}
use mathlib.Core.List.{List}
use mathlib.Core.Logic.{◌⊎◌, inl, inr, ⊎_elim, ◌≢◌}
use mathlib.Core.Option.{some}
use mathlib.Core.Path.{◌≡◌, refl, sym, ap, ◌∙◌, subst, fun_ext}
use native.Mathlib.Nat.{eq-zero-or-pos}
use native.Mathlib.Omega.{arith}
use lib.Bits.{bit_and, and_zero_l}
use lib.ListN.{length, get_or}
use lib.Dec.{T, eqb, ltb, eqb→eq, ltb→lt, lt→ltb, T_not, not_T}
use Rattle.laws.specs.Mask.{bit, in_mask, mask_of}
use Rattle.laws.proofs.Tests.{T_and, and_T, same_test, eq_or_ne, eq→eqb}
use Rattle.laws.proofs.Masks.{in_mask_of, mask_of_in}
use Rattle.laws.proofs.Bits.{bit_pow, bit_pow_other, bit_lt, some-bit, disjoint, of_disjoint}
use Rattle.semantics.specs.Plan.{Block, done, skip, call, hold, loop, either, end, body_in, LockPlan, Sound, Plain}
use Rattle.semantics.specs.Sizes.{thread_sizes}
use Rattle.semantics.specs.Run.{ThreadState, everyone, run, start, nth, counts}
use Rattle.semantics.specs.Stuck.{Stuck, Largest, Schedule}
use Rattle.semantics.specs.StuckRounds.{first_wanted, WantedAt, barred_by_members, waits_in, wanting, stuck_round, stuck_rounds}
use Rattle.semantics.specs.Conflict.{bars, ExcludesIn}
use Rattle.semantics.proofs.Thread.Remainders.{plain_body}
use Rattle.semantics.proofs.Gateway.Compatible.{excludes_held}
use Rattle.semantics.proofs.Gateway.Apart.{excludes_present, apart→}
use Rattle.semantics.proofs.Gateway.Blocked.{Blocked, stuck-blocked, stuck-present}
use Rattle.semantics.proofs.Gateway.Invariant.{Invariant, run_invariant, run_length, start-length, start_invariant}
use Rattle.semantics.proofs.Stuck.LargestStuck.{at_hold, begins_hold, round, rounds, Covers, blocked-more, blocked-round, round-blocked, round_in, rounds_in}
use Rattle.semantics.proofs.Stuck.LargestStuck.{rounds_cover, fixed_largest, rounds-largest}
use Rattle.semantics.proofs.Analysis.Joins.{other_than_lem, in_join, join_in}

-- ---- wanted claims

wanted-cases : (b : Block) → (first_wanted b ≡ 0) ⊎ ((l : ℕ) × (x : Block) × (r : Block) × (b ≡ hold l x r))
unfolding first_wanted
wanted-cases done = inl refl
wanted-cases (skip r) = inl refl
wanted-cases (call p r) = inl refl
wanted-cases (hold l b r) = inr (l, b, r, refl)
wanted-cases (loop b r) = inl refl
wanted-cases (either a b r) = inl refl
wanted-cases (end l r) = inl refl

pub wanted-hold : (b : Block) (l : ℕ) (x r : Block) → b ≡ hold l x r → first_wanted b ≡ 2 ^ l
unfolding first_wanted
wanted-hold b l x r e = ap first_wanted e

-- the mask of one claim meets a set just if the claim is in it
meets : (l m : ℕ) → (bit_and (2 ^ l) m ≢ 0) → bit m l ≡ 1
meets l m n =
    ⊎_elim
    (λ (z : bit m l ≡ 0). absurd (n (disjoint (2 ^ l) m (λ k. ⊎_elim (λ (e : k ≡ l). inr (ap (bit m) e ∙ z)) (λ d. inl (bit_pow_other l k d))
    (eq_or_ne k l)))))
    (λ (h : 0 < bit m l). omega (arith, bit_lt m l))
    (eq-zero-or-pos (bit m l))

meet : (l m : ℕ) → bit m l ≡ 1 → bit_and (2 ^ l) m ≢ 0
meet l m e z = omega (arith, of_disjoint (2 ^ l) m z l (bit_pow l))

hold-positive : (b : Block) → T (at_hold b) → 0 < first_wanted b
unfolding at_hold first_wanted
hold-positive (hold l x r) h = some-bit (2 ^ l) l (bit_pow l)
hold-positive done h = elim h [ ]
hold-positive (skip _) h = elim h [ ]
hold-positive (call _ _) h = elim h [ ]
hold-positive (loop _ _) h = elim h [ ]
hold-positive (either _ _ _) h = elim h [ ]
hold-positive (end _ _) h = elim h [ ]

positive-hold : (b : Block) → 0 < first_wanted b → T (at_hold b)
unfolding at_hold first_wanted
positive-hold b h =
    ⊎_elim (λ (z : first_wanted b ≡ 0). absurd (omega arith)) (λ (q : (l : ℕ) × (x : Block) × (r : Block) × (b ≡ hold l x r)). rw q.3 tt) (wanted-cases b)

-- ---- sets in which each member waits

-- each member of m wants a claim from which another member excludes it
abbrev pub AllWait : ℕ → List ℕ → List ℕ → ℕ → Type 0
AllWait n wanted masks m = (t : ℕ) → T (in_mask m t) → (t < n) × T (waits_in n wanted masks m t)

-- m contains every such set
abbrev pub ContainsAll : ℕ → List ℕ → List ℕ → ℕ → Type 0
ContainsAll n wanted masks m = (m' : ℕ) → AllWait n wanted masks m' → (t : ℕ) → T (in_mask m' t) → T (in_mask m t)

-- the members of m other than t
abbrev member : ℕ → ℕ → ℕ → Bool
member m t u = in_mask m u && not (eqb u t)

-- ---- the rounds by masks

module _ (ps : List Block) (bodies : (p : ℕ) → Plain (body_in ps p)) (ts : List ThreadState) (moment : Invariant ts) (wanted masks : List ℕ)
    (a : WantedAt ts wanted masks) where
  abbrev n : ℕ
  n = length ts

  pub waits_in_lem : (m t : ℕ) → t < n → Blocked (in_mask m) ts t → T (waits_in n wanted masks m t)
  unfolding barred_by_members
  waits_in_lem m t b w =
      let u = w.other in
      let c : u < n = excludes_present ts u w.claim w.theirs in
      let e : get_or wanted t 0 ≡ 2 ^ w.claim = a.wants t b ∙ wanted-hold (nth ts t).rest w.claim w.inside w.following w.stands in
      let h : ExcludesIn (get_or masks u 0) w.claim = ap (λ x. bit (bars x) w.claim) (a.mask u c) ∙ (excludes_held (counts ts u) w.claim).0 w.theirs in
      let s : T (member m t u) = and_T (in_mask m u) (not (eqb u t)) w.member (other_than_lem t u w.differs) in
      let g : bit (barred_by_members n masks m t) w.claim ≡ 1 = in_join (member m t) (λ u. bars (get_or masks u 0)) w.claim n u c s h in
      not_T (eqb (bit_and (get_or wanted t 0) (barred_by_members n masks m t)) 0)
      (λ z. meet w.claim (barred_by_members n masks m t) g (sym (ap (λ x. bit_and x (barred_by_members n masks m t)) e) ∙ eqb→eq
      (bit_and (get_or wanted t 0) (barred_by_members n masks m t)) 0 z))

  pub in_waits : (m t : ℕ) → t < n → T (waits_in n wanted masks m t) → Blocked (in_mask m) ts t
  unfolding barred_by_members
  in_waits m t b h =
      ⊎_elim
      (λ (z : first_wanted (nth ts t).rest ≡ 0).
      absurd (T_not (eqb (bit_and (get_or wanted t 0) (barred_by_members n masks m t)) 0) h
      (eq→eqb (bit_and (get_or wanted t 0) (barred_by_members n masks m t)) 0
      (ap (λ x. bit_and x (barred_by_members n masks m t)) (a.wants t b ∙ z) ∙ and_zero_l (barred_by_members n masks m t)))))
      (λ (q : (l : ℕ) × (x : Block) × (r : Block) × ((nth ts t).rest ≡ hold l x r)).
      let e : get_or wanted t 0 ≡ 2 ^ q.0 = a.wants t b ∙ wanted-hold (nth ts t).rest q.0 q.1 q.2 q.3 in
      let g : bit (barred_by_members n masks m t) q.0 ≡ 1 =
      meets q.0 (barred_by_members n masks m t) (λ z. T_not (eqb (bit_and (get_or wanted t 0) (barred_by_members n masks m t)) 0) h (rw (e, z) tt)) in
      let (u, c, s, f) = join_in (member m t) (λ u. bars (get_or masks u 0)) q.0 n g in
      let (i, d) = T_and (in_mask m u) (not (eqb u t)) s in
      record {
        claim = q.0;
        inside = q.1;
        following = q.2;
        stands = q.3;
        other = u;
        differs = λ z. T_not (eqb u t) d (eq→eqb u t z);
        member = i;
        theirs = (excludes_held (counts ts u) q.0).1 (subst (λ x. ExcludesIn x q.0) (a.mask u c) f);
      })
      (wanted-cases (nth ts t).rest)

  pub round-mask : (m : ℕ) → round ps ts (in_mask m) ≡ in_mask (stuck_round n wanted masks m)
  unfolding stuck_round
  round-mask m = fun_ext (λ t. same_test (round ps ts (in_mask m) t) (in_mask (stuck_round n wanted masks m) t)
      (λ h. let (b, w) = round-blocked ps bodies ts moment (in_mask m) t h in
      in_mask_of n (λ t. in_mask m t && waits_in n wanted masks m t) t b
      (and_T (in_mask m t) (waits_in n wanted masks m t) (round_in ps bodies ts moment (in_mask m) t h) (waits_in_lem m t b w)))
      (λ h. let (b, q) = mask_of_in n (λ t. in_mask m t && waits_in n wanted masks m t) t h in
      let (i, w) = T_and (in_mask m t) (waits_in n wanted masks m t) q in
      blocked-round ps bodies ts moment (in_mask m) t i (in_waits m t b w)))

  pub first-mask : begins_hold ts ≡ in_mask (wanting n wanted)
  unfolding wanting rounds
  first-mask = fun_ext (λ t. same_test (begins_hold ts t) (in_mask (wanting n wanted) t)
      (λ h. let b = rounds_in ps bodies ts moment 0 t h in
      in_mask_of n (λ t. ltb 0 (get_or wanted t 0)) t b (lt→ltb 0 (get_or wanted t 0) (rw (a.wants t b) (hold-positive (nth ts t).rest h))))
      (λ h. let (b, q) = mask_of_in n (λ t. ltb 0 (get_or wanted t 0)) t h in
      positive-hold (nth ts t).rest (subst (λ x. 0 < x) (a.wants t b) (ltb→lt 0 (get_or wanted t 0) q))))

  -- the set by masks is the one that the rounds give
  pub rounds-mask : (k : ℕ) → rounds k ps ts ≡ in_mask (stuck_rounds k n wanted masks)
  unfolding rounds stuck_rounds
  rounds-mask zero = first-mask
  rounds-mask (suc k) = ap (round ps ts) (rounds-mask k) ∙ round-mask (stuck_rounds k n wanted masks)

  -- a set that contains all those in which each waits contains every stuck set
  contains_covers : (m : ℕ) → ContainsAll n wanted masks m → Covers ps ts (in_mask m)
  contains_covers m c S st t s =
      let w = stuck-blocked ps bodies S ts moment.balanced (λ i j d _ _. apart→ everyone ts moment.all_apart i j d tt tt) st in
      let in-S : (u : ℕ) → T (S u) → T (in_mask (mask_of n S) u) = λ u r. in_mask_of n S u (stuck-present st u r) r in
      c (mask_of n S)
      (λ u r. let (b, q) = mask_of_in n S u r in (b, waits_in_lem (mask_of n S) u b (blocked-more S (in_mask (mask_of n S)) ts u in-S (w u q)))) t
      (in-S t s)

  pub all_wait_largest : (m t : ℕ) → AllWait n wanted masks m → ContainsAll n wanted masks m → T (in_mask m t) → Largest ps ts (in_mask m)
  all_wait_largest m t f c s =
      fixed_largest ps bodies ts moment (in_mask m) (contains_covers m c)
      (λ u r. let (b, w) = f u r in blocked-round ps bodies ts moment (in_mask m) u r (in_waits m u b w)) t s

-- ---- schedules

module _ (plan : LockPlan) (rank : ℕ → ℕ) (sound : Sound plan.procs rank) (es : List ℕ) (there : List ThreadState) (S : ℕ → Bool)
    (reached : run plan.procs (start plan.procs plan.threads) es ≡ some there) (stuck : Stuck plan.procs there S)
    (short : length es ≤ thread_sizes plan) where
  abbrev threads : ℕ
  threads = length plan.threads

  there-moment : Invariant there
  there-moment = run_invariant plan.procs (plain_body sound) (start plan.procs plan.threads) there es reached
      (start_invariant plan.procs (plain_body sound) plan.threads)

  there-length : length there ≡ threads
  there-length = run_length plan.procs (start plan.procs plan.threads) there es reached ∙ start-length plan.procs plan.threads

  there-largest : Largest plan.procs there (rounds threads plan.procs there)
  there-largest =
      let p = stuck.two in
      rounds-largest plan.procs (plain_body sound) there there-moment threads (omega (arith, there-length)) p.0
      (rounds_cover plan.procs (plain_body sound) there there-moment threads S stuck p.0 p.3)

  -- a run to a moment with a stuck set is a schedule with the set that the rounds give
  pub closing : Schedule plan es (rounds threads plan.procs there)
  closing = record { there = there; reached = reached; largest = there-largest; short = short }

  module _ (wanted masks : List ℕ) (a : WantedAt there wanted masks) where
    -- and with the set that is computed by masks
    pub closing-masks : Schedule plan es (in_mask (stuck_rounds threads threads wanted masks))
    closing-masks =
        subst (Schedule plan es)
        (rounds-mask plan.procs (plain_body sound) there there-moment wanted masks a threads ∙ ap
        (λ n. in_mask (stuck_rounds threads n wanted masks)) there-length) closing

    -- and with any set that contains all those in which each waits, and is one
    pub closing-contains : (m : ℕ) → AllWait threads wanted masks m → ContainsAll threads wanted masks m → Schedule plan es (in_mask m)
    closing-contains m f c =
        let f' : AllWait (length there) wanted masks m = subst (λ n. AllWait n wanted masks m) (sym there-length) f in
        let c' : ContainsAll (length there) wanted masks m = subst (λ n. ContainsAll n wanted masks m) (sym there-length) c in
        record {
          there = there;
          reached = reached;
          largest = all_wait_largest plan.procs (plain_body sound) there there-moment wanted masks a m stuck.two.0 f' c'
              (contains_covers plan.procs (plain_body sound) there there-moment wanted masks a m c' S stuck stuck.two.0 stuck.two.3);
          short = short;
        }
