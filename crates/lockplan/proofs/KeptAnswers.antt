-- The pairs of a text without share are its old ones as records (`text-answers-kept`), and their sets are of 32 locks (`pairs_small`). Two records of this kind cross just if the
-- words did (`crossing-kept`), and such a record's line is the old one: each lock that is had is had by hold, and by hold alone.
use Prim.Native.Nat.{ℕ, zero, suc, ◌+◌, ◌*◌, ◌/◌, ◌%◌, ◌^◌, ◌<◌}
use native.Mathlib.Omega.{arith}
use native.Mathlib.Nat.{add-zero}
use mathlib.Core.Bool.{Bool, true, false, cond, ◌&&◌}
use mathlib.Core.List.Memᴰ
use mathlib.Core.List.{List, [], ◌∷◌, ◌++◌, map, flat_map, map-append, append-nil, Memᴰ}
use mathlib.Core.Logic.{◌↔◌, ⊎_elim}
use mathlib.Core.Option.{none}
use mathlib.Core.Path.{◌≡◌, refl, sym, ap, ap₂, ◌∙◌}
use lib.Bits.{bit_and, or_zero_r}
use lib.Dec.{T, eqb, eqb→eq}
use lib.ListN.{length-map}
use borrow.Author.Tests.{ne_eqb}
use Rattle.std.proofs.Common.{Result, Ok, Err}
use Rattle.limits.specs.Limits.{lock_count}
use Rattle.laws.specs.Mask.{bit, in_mask}
use Rattle.laws.proofs.Bits.{bit-above, bit_below, bit-none, bit_quotient}
use Rattle.laws.proofs.Tests.{T_and, and_T, eq→eqb, same_test, only}
use Rattle.text.specs.declared.Refusal.{Refusal}
use Rattle.semantics.specs.Plan.{Block, LockPlan, thread_proc}
use Rattle.semantics.specs.Pairs.{had_of, wanted_word, pair_list}
use Rattle.semantics.specs.HoldsOnly.{pair_list01, locked_plan, as_record, Crosses01}
use Rattle.semantics.proofs.HoldsOnly.KeptPairs.{crossing-kept, pairs_small}
use Rattle.plan.specs.Rules.{plan_of, plan_refusal}
use Rattle.plan.specs.Shareless.{NoShareLine}
use Rattle.plan.proofs.WithoutShares.{accepted-without, accepted-locked, text-answers-kept}
use Rattle.answers.specs.declared.Verdict.{Verdict}
use Rattle.answers.specs.declared.Verdict.TheVariants.{Free, Deadlock}
use Rattle.couples.specs.Couples.{Couple, couple, crosses, couples_with, couples_of, couples}
use Rattle.couples.proofs.Members.{crosses-is}
use Rattle.report_lines.specs.Lines.{digits, members, lines_of, behind_blank, wanted_text, held_text, shared_text, lock_text, had_text, pair_form, pair_line, proc_lines, report_open}
use Rattle.report_text.specs.Report.{procedures, proc_parts, parts_of}
use Rattle.lockplan.specs.KeptAnswers.{crosses07, couples_with07, couples_of07, as_records, pair_line01, proc_lines01, proc_parts01, parts_of01, KeptAnswers}

-- the sets of these pairs are below 2 to the power 32
abbrev Small : List ℕ → Type 0
Small ws = (w : ℕ) → Memᴰ w ws → w / 32 < 2 ^ lock_count

-- ---- couples

-- change 7's test
crosses07-is : (v w : ℕ) → T (crosses07 v w) ↔ Crosses01 v w
unfolding crosses07
crosses07-is v w =
    let apart = eqb (bit_and (v / 32) (w / 32)) 0 in
    let first = eqb (bit (w / 32) (v % 32)) 1 in
    let second = eqb (bit (v / 32) (w % 32)) 1 in (
      λ t.
          let x = T_and apart (first && second) t in
          let y = T_and first second x.1 in
          (eqb→eq _ _ x.0, eqb→eq _ _ y.0, eqb→eq _ _ y.1),
      λ c. and_T apart (first && second) (eq→eqb _ _ c.0) (and_T first second (eq→eqb _ _ c.1) (eq→eqb _ _ c.2)),
    )

module _ (v w : ℕ) (a : v / 32 < 2 ^ lock_count) (b : w / 32 < 2 ^ lock_count) where
  test-kept : crosses (as_record v) (as_record w) ≡ crosses07 v w
  test-kept =
      let is = crosses-is (as_record v) (as_record w) in
      let kept = crossing-kept v w a b in
      same_test (crosses (as_record v) (as_record w)) (crosses07 v w)
      (λ t. let c = is.0 t in (crosses07-is v w).1 (kept.0 (c.apart, c.first-wants, c.second-wants)))
      (λ t. let c = kept.1 ((crosses07-is v w).0 t) in is.1 (record { apart = c.0; first-wants = c.1; second-wants = c.2 }))

with_kept : (v : ℕ) → v / 32 < 2 ^ lock_count → (ws : List ℕ) → Small ws → couples_with (as_record v) (map as_record ws) ≡ map as_records (couples_with07 v ws)
unfolding couples_with couples_with07
with_kept v a [] s = refl
with_kept v a (w ∷ ws) s =
    let rest = with_kept v a ws (λ x m. s x (Memᴰ.tail m)) in
    rw (test-kept v w a (s w (Memᴰ.head refl))) (go (crosses07 v w) rest)
  where
    go : (c : Bool) → couples_with (as_record v) (map as_record ws) ≡ map as_records (couples_with07 v ws)
        → cond c (couple (as_record v) (as_record w) ∷ couples_with (as_record v) (map as_record ws)) (couples_with (as_record v) (map as_record ws))
        ≡ map as_records (cond c (couple v w ∷ couples_with07 v ws) (couples_with07 v ws))
    go true e = ap (λ (l : List Couple). couple (as_record v) (as_record w) ∷ l) e
    go false e = e

couples_of-kept : (vs ws : List ℕ) → Small vs → Small ws → couples_of (map as_record vs) (map as_record ws) ≡ map as_records (couples_of07 vs ws)
unfolding flat_map
couples_of-kept [] ws s z = refl
couples_of-kept (v ∷ vs) ws s z =
    ap₂ (λ (a b : List Couple). a ++ b) (with_kept v (s v (Memᴰ.head refl)) ws z) (couples_of-kept vs ws (λ x m. s x (Memᴰ.tail m)) z)
    ∙ sym (map-append as_records (couples_with07 v ws) (couples_of07 vs ws))

-- ---- lines

members_in : (n m k : ℕ) → Memᴰ k (members n m) → (k < n) × (bit m k ≡ 1)
unfolding members
members_in zero m k h = absurd (Memᴰ.not-nil h)
members_in (suc n) m k h = ⊎_elim
    (λ x. let y = members_in n m k x in (omega (arith, y.0), y.1))
    (λ x. let y = only k n (in_mask m n) x in (omega (arith, y.1), ap (bit m) y.1 ∙ eqb→eq (bit m n) 1 y.0))
    (Memᴰ.append_cases (members n m) h)

-- where the digits from n on are none
members-high : (n d m : ℕ) → ((k : ℕ) → bit m (n + k) ≡ 0) → members (n + d) m ≡ members n m
unfolding members
members-high n zero m e = ap (λ k. members k m) (add-zero n)
members-high n (suc d) m e =
    let s : n + suc d ≡ suc (n + d) = omega arith in
    let last : members (suc (n + d)) m ≡ members (n + d) m = rw (e d) (append-nil (members (n + d) m)) in
    ap (λ k. members k m) s ∙ last ∙ members-high n d m e

lines_same : (f g : ℕ → List ℕ) (ks : List ℕ) → ((k : ℕ) → Memᴰ k ks → f k ≡ g k) → lines_of f ks ≡ lines_of g ks
unfolding lines_of
lines_same f g [] e = refl
lines_same f g (k ∷ ks) e = ap₂ (λ (a b : List ℕ). a ++ b) (e k (Memᴰ.head refl)) (lines_same f g ks (λ x m. e x (Memᴰ.tail m)))

-- a lock of a set that is held, and that shares nothing
module _ (h : ℕ) (small : h < 2 ^ lock_count) where
  lock-kept : (k : ℕ) → k < lock_count → bit h k ≡ 1 → lock_text (h * 2 ^ lock_count) k ≡ behind_blank k
  unfolding held_text shared_text
  lock-kept k b e =
      let set : h * 2 ^ lock_count + 0 ≡ h * 2 ^ lock_count = add-zero (h * 2 ^ lock_count) in
      let held : bit (h * 2 ^ lock_count) (k + lock_count) ≡ 1 =
      ap₂ bit (sym set) (omega arith) ∙ bit-above lock_count h 0 k (omega arith) ∙ e in
      let shared : bit (h * 2 ^ lock_count) k ≡ 0 = ap (λ x. bit x k) (sym set) ∙ bit_below lock_count h 0 k b ∙ bit-none k in
      rw (held, shared) (append-nil (behind_blank k ++ []) ∙ append-nil (behind_blank k))

  none-high : (k : ℕ) → bit h (lock_count + k) ≡ 0
  none-high k =
      let none : h / 2 ^ lock_count ≡ 0 = omega arith in
      sym (bit_quotient lock_count h k) ∙ ap (λ x. bit x k) none ∙ bit-none k

  had-kept : had_text (h * 2 ^ lock_count) ≡ lines_of behind_blank (members 64 h)
  unfolding had_text
  had-kept =
      let high : h * 2 ^ lock_count / 2 ^ lock_count ≡ h = omega arith in
      let low : h * 2 ^ lock_count % 2 ^ lock_count ≡ 0 = omega arith in
      rw (high, low, or_zero_r)
      (lines_same (lock_text (h * 2 ^ lock_count)) behind_blank (members lock_count h) (λ k m. let x = members_in lock_count h k m in lock-kept k x.0 x.1)
      ∙ ap (lines_of behind_blank) (sym (members-high lock_count lock_count h none-high)))

line_kept : (w : ℕ) → w / 32 < 2 ^ lock_count → pair_line (as_record w) ≡ pair_line01 w
unfolding pair_line pair_form pair_line01 wanted_text
line_kept w small =
    let third : wanted_word (as_record w) ≡ w % 32 * 2 + 1 = omega arith in
    let wish : (w % 32 * 2 + 1) / 2 ≡ w % 32 = omega arith in
    let way : eqb ((w % 32 * 2 + 1) % 2) 0 ≡ false = ne_eqb ((w % 32 * 2 + 1) % 2) 0 (λ e. omega arith) in
    let set : had_of (as_record w) ≡ w / 32 * 2 ^ lock_count = omega arith in
    rw (third, wish, way, set, had-kept (w / 32) small, append-nil (digits (w % 32)))

lines-kept : (ws : List ℕ) → Small ws → lines_of pair_line (map as_record ws) ≡ lines_of pair_line01 ws
unfolding lines_of
lines-kept [] s = refl
lines-kept (w ∷ ws) s = ap₂ (λ (a b : List ℕ). a ++ b) (line_kept w (s w (Memᴰ.head refl))) (lines-kept ws (λ x m. s x (Memᴰ.tail m)))

-- the parts of the procedures
module _ (ps qs : List Block) (same : (p : ℕ) → pair_list ps p ≡ map as_record (pair_list01 qs p)) (small : (p : ℕ) → Small (pair_list01 qs p)) where
  parts_kept : (n p : ℕ) (rest : List (List ℕ)) → proc_parts ps p n rest ≡ proc_parts01 qs p n rest
  unfolding proc_parts proc_parts01 proc_lines proc_lines01
  parts_kept zero p rest = refl
  parts_kept (suc n) p rest = ap₂ ◌∷◌ (rw (same p, lines-kept (pair_list01 qs p) (small p))) (parts_kept n (suc p) rest)

-- as many procedures are reported
procedures-kept : (v : Result Verdict Refusal) (plan : LockPlan) → procedures v plan ≡ procedures v (locked_plan plan)
unfolding procedures
procedures-kept (Ok Free) plan = sym (length-map plan.procs _)
procedures-kept (Ok (Deadlock n S)) plan = sym (length-map plan.procs _)
procedures-kept (Err x) plan = refl

pub kept-answers : (text : List ℕ) → plan_refusal text ≡ none → NoShareLine text → KeptAnswers text
unfolding couples parts_of parts_of01
kept-answers text e n =
    let plan = plan_of text in
    let kept = text-answers-kept text e n in
    let small = pairs_small plan (accepted-without text e n) in
    record {
      read = accepted-locked text e n;
      answers = kept;
      couples = λ t u. rw (kept.pairs (thread_proc plan t), kept.pairs (thread_proc plan u)) (couples_of-kept _ _ (small (thread_proc plan t)) (small (thread_proc plan u)));
      report = λ v schedule. rw (procedures-kept v plan) (ap (◌∷◌ report_open) (parts_kept plan.procs (locked_plan plan).procs kept.pairs small _ 0 _));
    }
