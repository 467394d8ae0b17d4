-- A step back: the machine's test is the definition's. One move is a step back of the first thread that may, with its entry in front, or a jump of all.
use Rattle.std.specs.Prelude.{Option, Some, None, MatchOption}
use Prim.Native.Nat.{ℕ, suc, ◌+◌, ◌-◌, ◌*◌, ◌%◌, ◌<◌, ◌≤◌}
use native.Mathlib.Nat.{eq-zero-or-pos}
use native.Mathlib.Omega.{arith}
use mathlib.Core.Path.{◌≡◌, ap}
use mathlib.Core.Logic.{inl, inr, ⊎_elim}
use mathlib.Core.Bool.{Bool, true, false}
use mathlib.Core.List.{List}
use borrow.Author.Tests.{eq-eqb, ne_eqb, eqb-true}
use lib.Bits.{bit_and}
use lib.Dec.{eqb}
use lib.ListN.{length, get_or, set, drop}
use lib.Seq.{lt-length-set, drop-length, drop-set-lt, drop-cons, get_or-set_same}
use Rattle.limits.specs.Limits.{max_size}
use Rattle.laws.specs.Choice.{pick}
use Rattle.retreat.specs.declared.State.{State}
use Rattle.retreat.specs.Paths.{choice_at, masks_of, Holding, barred_by_others, meeting, may_go_back, NoneMayGoBack}
use Rattle.retreat.specs.Moves.{NoneBelow, FirstBelow, entry_of, Landed, Turned}
use Rattle.retreat.proofs.HeldLocks.{others-held}

pub back_none : (rows positions : List ℕ) (n k : ℕ) → get_or positions k 0 ≤ 0 → false ≡ may_go_back rows positions n k
unfolding may_go_back pick
back_none rows positions n k h = let e : get_or positions k 0 ≡ 0 = omega arith in rw (eq-eqb (get_or positions k 0) 0 e)

pub back-test : (rows positions masks : List ℕ) (n k a b : ℕ) → 0 < get_or positions k 0 → Holding rows positions masks n
    → a ≡ get_or (masks_of rows k) (get_or positions k 0 - 1) 0 → b ≡ barred_by_others masks n k → eqb (bit_and a b) 0 ≡ may_go_back rows positions n k
unfolding may_go_back pick meeting
back-test rows positions masks n k a b o h e f = rw (ne_eqb (get_or positions k 0) 0 (λ z. omega arith), ← e, ← others-held rows positions masks n k h, ← f)

pub back-stepped : (rows positions : List ℕ) (n k : ℕ) → may_go_back rows positions n k ≡ true → (0 < get_or positions k 0) × (meeting rows positions n k ≡ 0)
unfolding may_go_back pick
back-stepped rows positions n k e =
    ⊎_elim
    (λ (z : get_or positions k 0 ≡ 0). let f : false ≡ true = rw (eq-eqb (get_or positions k 0) 0 z) at e in cc)
    (λ (o : 0 < get_or positions k 0). (o, eqb-true (meeting rows positions n k) 0 (rw (ne_eqb (get_or positions k 0) 0 (λ z. omega arith)) at e)))
    (eq-zero-or-pos (get_or positions k 0))

pub first-stepped : (rows positions : List ℕ) (n k : ℕ) → may_go_back rows positions n k ≡ true → 0 < get_or positions k 0
first-stepped rows positions n k f = (back-stepped rows positions n k f).0

-- the first thread that passes a test, as a search over all finds it
pub first-below : (test : ℕ → Bool) (n : ℕ) (r : Option ℕ)
    → MatchOption r ((k : ℕ) → 0 ≤ k → k < n → test k ≡ false) (λ i. (0 ≤ i) × (i < n) × (test i ≡ true) × ((k : ℕ) → 0 ≤ k → k < i → test k ≡ false)) → FirstBelow test n r
first-below test n None f = λ k b. f k (omega arith) b
first-below test n (Some i) f = (f.1, f.2, λ k b. f.3 k (omega arith) b)

-- the entry of a step back
pub entry_back : (choices positions : List ℕ) (k e : ℕ) → e ≡ k + 8 * (get_or choices (max_size * k + (get_or positions k 0 - 1)) 0 % 4) → e ≡ entry_of choices positions k
unfolding entry_of choice_at
entry_back choices positions k e g = g

pub none-back : (rows positions : List ℕ) (n : ℕ) → NoneBelow (may_go_back rows positions n) n → NoneMayGoBack rows positions n
unfolding NoneMayGoBack
none-back rows positions n f = f

-- ---- one move

module _ (choices rows begins : List ℕ) (n : ℕ) (s s' : State) where
  pub turned-step : (entries : List ℕ) (k d v : ℕ) → k < n → may_go_back rows s.positions n k ≡ true → 0 < d → d ≤ length entries
      → s' ≡ record s { positions = set s.positions k (get_or s.positions k 0 - 1) } → v ≡ entry_of choices s.positions k
      → Turned choices rows begins n s s' (drop d entries) (drop (d - 1) (set entries (d - 1) v))
  unfolding Turned
  turned-step entries k d v h f o le e g =
      let at : suc (d - 1) ≡ d = omega arith in
      inl (record {
        thread = k;
        present = h;
        permitted = f;
        moved = ap (λ (x : State). x.positions) e;
        entries = rw (
          drop-cons (set entries (d - 1) v) (d - 1) 0 (lt-length-set entries (d - 1) v (omega arith)),
          get_or-set_same entries (d - 1) v 0 (omega arith),
          drop-set-lt (suc (d - 1)) entries (d - 1) v (omega arith),
          at,
          g,
        );
        wants = ap (λ (x : State). x.wanted) e;
        holds = ap (λ (x : State). x.masks) e;
      })

  pub turned_jump : (es entries : List ℕ) → Landed rows begins n s.positions s'.positions s'.wanted n → Holding rows s.positions s'.masks n
      → Turned choices rows begins n s s' es (drop (length entries) entries)
  unfolding Turned
  turned_jump es entries f h = inr (record { landed = f; holds = h; entries = drop-length entries })
