-- One move over the lent tables is a move of the theory (`step_back`, `jump_back`), so the way back goes on leading to the target; and the sum of the
-- positions falls. The theory's positions are the first n of the table.
use Prim.Native.Nat.{ℕ, suc, ◌+◌, ◌-◌, ◌<◌, ◌≤◌}
use native.Mathlib.Nat.{eq-zero-or-pos}
use native.Mathlib.Omega.{arith}
use mathlib.Core.Path.{◌≡◌, sym, ap, ◌∙◌, subst}
use mathlib.Core.Logic.{◌⊎◌, ⊎_elim, ◌≢◌}
use mathlib.Core.List.{List}
use lib.Bits.{bit_and}
use lib.ListN.{length, get_or, set, take, drop, length-drop}
use lib.Seq.{drop-length, length-take-le, get_or-take, get_or-set_same, get_or-set_other, take-set-lt}
use Rattle.limits.specs.Limits.{max_threads, max_size, max_entries}
use Rattle.laws.proofs.Tests.{eq_or_ne}
use Rattle.laws.proofs.Bits.{bit-none}
use Rattle.laws.proofs.Sums.{total_lt, total-most, total-at}
use Rattle.semantics.specs.Plan.{Block}
use Rattle.semantics.specs.Run.{ThreadState}
use Rattle.semantics.specs.Conflict.{bars}
use Rattle.semantics.specs.Joins.{other_than}
use Rattle.semantics.specs.Retreat.{Paths, GoingBack, others_at, scan_back, JumpTo}
use Rattle.semantics.proofs.Retreat.RetreatMoves.{scanned, step_back, jump_back}
use Rattle.retreat.specs.Paths.{masks_of, choice_at, InRows, Holding, meeting}
use Rattle.retreat.specs.declared.State.{State}
use Rattle.retreat.specs.Moves.{SomeStepped, AtStart, steps_left, entry_of, Landed, SteppedBack, Jumped, Turned, Retreats, WentBack}
use Rattle.retreat.proofs.HeldLocks.{join-same}
use Rattle.retreat.proofs.StepBack.{back-stepped}

-- ---- a move of the theory

others-first : (M : ℕ → List ℕ) (positions : List ℕ) (n k : ℕ) → others_at n M (take n positions) k ≡ others_at n M positions k
unfolding others_at
others-first M positions n k =
    join-same (other_than k) (λ i. bars (get_or (M i) (get_or (take n positions) i 0) 0)) (λ i. bars (get_or (M i) (get_or positions i 0) 0)) n
    (λ i b. ap (λ j. bars (get_or (M i) j 0)) (get_or-take n positions i 0 b))

-- the paths of the table of rows, and the way back so far
module _ (choices rows : List ℕ) (s s' : State) (es es' : List ℕ) {begins : List ℕ} {ps : List Block} {ns : List ℕ} {P : ℕ → List ℕ} {x : ℕ → ℕ → ThreadState}
    (chosen : (t j : ℕ) → t < length ns → j < length (P t) → get_or (P t) j 0 ≡ choice_at choices t j) (paths : Paths ps ns P x (masks_of rows) begins)
    {bound : ℕ} (g : GoingBack ps (length ns) P x bound (take (length ns) s.positions) es s.wanted s.masks) where
  abbrev n : ℕ
  n = length ns

  abbrev at : List ℕ
  at = take n s.positions

  abbrev now : ℕ → ℕ
  now k = get_or s.positions k 0

  same : (k : ℕ) → k < n → get_or at k 0 ≡ now k
  same k b = get_or-take n s.positions k 0 b

  goes_step : SteppedBack choices rows n s s' es es' → GoingBack ps n P x bound (take n s'.positions) es' s'.wanted s'.masks
  unfolding meeting entry_of
  goes_step r =
      let k = r.thread in
      let b = r.present in
      let e = same k b in
      let (o, m) = back-stepped rows s.positions n k r.permitted in
      let le : get_or at k 0 ≤ length (P k) = g.retreat.within k b in
      let free : bit_and (get_or (masks_of rows k) (get_or at k 0 - 1) 0) (others_at n (masks_of rows) at k) ≡ 0 =
      rw (e, others-first (masks_of rows) s.positions n k) m in
      let q = step_back paths g k b (rw e o) free in
      let c : get_or (P k) (get_or at k 0 - 1) 0 ≡ choice_at choices k (now k - 1) =
      chosen k (get_or at k 0 - 1) b (rw e (omega (arith, o, le, e))) ∙ ap (λ j. choice_at choices k (j - 1)) e in
      let f : set at k (get_or at k 0 - 1) ≡ take n (set s.positions k (now k - 1)) =
      ap (λ j. set at k (j - 1)) e ∙ sym (take-set-lt n s.positions k (now k - 1) b) in
      rw (r.moved, r.entries, r.wants, r.holds, ← f, ← c) q

  goes_jump : n ≤ length s'.positions → (t : ℕ) → t < n → 0 < now t → Jumped rows begins n s s' es'
      → GoingBack ps n P x bound (take n s'.positions) es' s'.wanted s'.masks
  unfolding Landed Holding
  goes_jump long t b o r =
      rw r.entries
      (jump_back paths g (take n s'.positions) s'.wanted s'.masks (length-take-le n s'.positions long)
      (λ k c. rw (same k c, get_or-take n s'.positions k 0 c, others-first (masks_of rows) s.positions n k) (r.landed k c))
      (λ k c. rw (same k c) (r.holds k c)) t b (rw (same t b) o)).0

-- ---- positions fall

scan-le : (rows : List ℕ) (t l a : ℕ) → scan_back (masks_of rows t) l a ≤ a
unfolding masks_of
scan-le rows t l a = (scanned (masks_of rows t) l a (bit-none l)).back

jump_le : (rows : List ℕ) (t others begin j h w : ℕ) → JumpTo (masks_of rows t) others begin j h w → (h ≤ j) × (0 < j → h < j)
jump_le rows t others begin j h w to =
    ⊎_elim (λ (z : j ≡ 0). let e = (to.still z).0 in (omega arith, λ o. absurd (omega arith)))
    (λ (o : 0 < j). let e = to.place o in let k = scan-le rows t to.claim (j - 1) in (omega arith, λ _. omega arith)) (eq-zero-or-pos j)

-- each position is no higher than before, and one is lower
pub record Falls (positions positions' : List ℕ) (n : ℕ) : Type 0 where
  pub none_higher : (i : ℕ) → i < n → get_or positions' i 0 ≤ get_or positions i 0
  pub thread : ℕ
  pub present : thread < n
  pub lower : get_or positions' thread 0 < get_or positions thread 0

step_falls : {choices rows es es' : List ℕ} {s s' : State} {n : ℕ} → n ≤ length s.positions → SteppedBack choices rows n s s' es es' → Falls s.positions s'.positions n
step_falls {choices} {rows} {s = s} {s'} {n} long r =
    let k = r.thread in
    let positions = s.positions in
    let (o, m) = back-stepped rows positions n k r.permitted in
    let at : get_or s'.positions k 0 ≡ get_or positions k 0 - 1 = ap (λ l. get_or l k 0) r.moved ∙ get_or-set_same positions k (get_or positions k 0 - 1) 0 (omega (arith, r.present)) in
    record {
      none_higher = λ i c. ⊎_elim (λ (e : i ≡ k). subst (λ u. get_or s'.positions u 0 ≤ get_or positions u 0) (sym e) (omega arith))
          (λ (d : i ≢ k).
          let e : get_or s'.positions i 0 ≡ get_or positions i 0 = ap (λ l. get_or l i 0) r.moved ∙ get_or-set_other positions k i (get_or positions k 0 - 1) 0 d in
          omega arith) (eq_or_ne i k);
      thread = k;
      present = r.present;
      lower = omega arith;
    }

jump_falls : {rows begins es' : List ℕ} {s s' : State} {n : ℕ} (t : ℕ) → t < n → 0 < get_or s.positions t 0 → Jumped rows begins n s s' es'
    → Falls s.positions s'.positions n
unfolding Landed
jump_falls {rows} {begins} {s = s} {s'} {n} t b o r =
    let le : (i : ℕ) → i < n → (get_or s'.positions i 0 ≤ get_or s.positions i 0) × (0 < get_or s.positions i 0 → get_or s'.positions i 0 < get_or s.positions i 0) =
    λ i c.
    jump_le rows i (others_at n (masks_of rows) s.positions i) (get_or begins i 0) (get_or s.positions i 0) (get_or s'.positions i 0) (get_or s'.wanted i 0) (r.landed i c) in
    record { none_higher = λ i c. (le i c).0; thread = t; present = b; lower = (le t b).1 o }

falls-less : {positions positions' : List ℕ} {n : ℕ} → Falls positions positions' n → steps_left positions' n < steps_left positions n
unfolding steps_left
falls-less {positions} {positions'} {n} f = total_lt n (λ t. get_or positions' t 0) (λ t. get_or positions t 0) f.none_higher f.thread f.present f.lower

falls-within : {positions positions' : List ℕ} {n : ℕ} → Falls positions positions' n → InRows positions n → InRows positions' n
unfolding InRows
falls-within f w i b = let le = f.none_higher i b in omega (arith, w i b)

-- ---- the loop

-- what holds at every turn of the way back, with the entries es
pub record Going (choices rows begins : List ℕ) (n : ℕ) (s₀ s : State) (es : List ℕ) : Type 0 where
  pub in_rows : InRows s.positions n
  pub room : length es + steps_left s.positions n ≤ steps_left s₀.positions n
  pub few : steps_left s₀.positions n ≤ max_entries
  pub retreats : Retreats choices rows begins n s₀ s es

module _ (choices rows begins : List ℕ) (n : ℕ) (s₀ s s' : State) (es es' : List ℕ) (u : Turned choices rows begins n s s' es es')
    (g : Going choices rows begins n s₀ s es) (some : SomeStepped s.positions n) (small : n ≤ max_threads) (size : max_threads ≡ length s.positions) where
  stepped : (t : ℕ) × (t < n) × (0 < get_or s.positions t 0)
  stepped = some

  abbrev t : ℕ
  t = stepped.0

  falls : Falls s.positions s'.positions n
  unfolding Turned
  falls = ⊎_elim (λ (r : SteppedBack choices rows n s s' es es'). step_falls (omega arith) r)
      (λ (r : Jumped rows begins n s s' es'). jump_falls t stepped.1 stepped.2 r) u

  pub going_less : steps_left s'.positions n < steps_left s.positions n
  going_less = falls-less falls

  shorter : length es' + steps_left s'.positions n ≤ steps_left s₀.positions n
  unfolding Turned
  shorter =
      ⊎_elim (λ (r : SteppedBack choices rows n s s' es es'). let e : length es' ≡ suc (length es) = ap length r.entries in omega (arith, g.room, going_less))
      (λ (r : Jumped rows begins n s s' es'). let e : length es' ≡ 0 = ap length r.entries in omega (arith, g.room, going_less)) u

  retreats_on : n ≤ length s'.positions → Retreats choices rows begins n s₀ s' es'
  unfolding Turned
  retreats_on long' = record {
    leads = λ ps ns P x bound e chosen paths g₀. on ps ns P x bound n e t stepped.1 stepped.2 long' u chosen paths (g.retreats.leads ps ns P x bound e chosen paths g₀);
  }
    where
      On : (ps : List Block) (ns : List ℕ) (P : ℕ → List ℕ) (x : ℕ → ℕ → ThreadState) (bound n : ℕ) → Type 0
      On ps ns P x bound n = (t : ℕ) → t < n → 0 < get_or s.positions t 0 → n ≤ length s'.positions → SteppedBack choices rows n s s' es es' ⊎ Jumped rows begins n s s' es'
          → ((t j : ℕ) → t < n → j < length (P t) → get_or (P t) j 0 ≡ choice_at choices t j) → Paths ps ns P x (masks_of rows) begins
          → GoingBack ps (length ns) P x bound (take n s.positions) es s.wanted s.masks
          → GoingBack ps (length ns) P x bound (take n s'.positions) es' s'.wanted s'.masks

      on : (ps : List Block) (ns : List ℕ) (P : ℕ → List ℕ) (x : ℕ → ℕ → ThreadState) (bound n : ℕ) → length ns ≡ n → On ps ns P x bound n
      on ps ns P x bound n e = subst (On ps ns P x bound) e
          (λ t b o long u chosen paths g.
          ⊎_elim (λ (r : SteppedBack choices rows (length ns) s s' es es'). goes_step choices rows s s' es es' chosen paths g r)
          (λ (r : Jumped rows begins (length ns) s s' es'). goes_jump choices rows s s' es es' chosen paths g long t b o r) u)

  pub going_on : max_threads ≡ length s'.positions → Going choices rows begins n s₀ s' es'
  going_on size' = record { in_rows = falls-within falls g.in_rows; room = shorter; few = g.few; retreats = retreats_on (omega arith) }

-- there is room for one entry more in front of those from place d on
pub going_room : (choices rows begins : List ℕ) (n : ℕ) (s₀ s : State) (entries : List ℕ) (d : ℕ) → Going choices rows begins n s₀ s (drop d entries)
    → SomeStepped s.positions n → max_entries ≤ length entries → 0 < d
unfolding steps_left
going_room choices rows begins n s₀ s entries d g (t, b, o) long =
    omega (arith, g.room, g.few, length-drop d entries, total-at n (λ i. get_or s.positions i 0) t b)

-- before the first move
pub going_first : (choices rows begins : List ℕ) (n : ℕ) (s : State) (entries : List ℕ) → InRows s.positions n → n ≤ max_threads
    → Going choices rows begins n s s (drop (length entries) entries)
unfolding steps_left InRows
going_first choices rows begins n s entries w small =
    rw (drop-length entries) (record {
      in_rows = w;
      room = omega arith;
      few = omega (arith, total-most n max_size (λ t. get_or s.positions t 0) (λ t b. w t b));
      retreats = record { leads = λ ps ns P x bound e chosen paths g. g };
    })

pub going_done : (choices rows begins : List ℕ) (n : ℕ) (s₀ s : State) (es : List ℕ) → Going choices rows begins n s₀ s es → AtStart s.positions n
    → WentBack choices rows begins n s₀ s es
going_done choices rows begins n s₀ s es g h = record { short = omega (arith, g.room); ended = h; retreats = g.retreats }
