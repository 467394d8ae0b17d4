-- The lowest number that passes a test (`lowest`), by induction on how many are searched. So a rule of procedures refuses nothing exactly where no procedure passes its
-- test (`proc_refusal-none`, `none-proc_refusal`).
use Prim.Native.Nat.{ℕ, zero, suc, ◌+◌, ◌-◌, ◌<◌, ◌≤◌}
use mathlib.Core.Bool.{Bool, true, false, cond}
use mathlib.Core.List.{List}
use mathlib.Core.Logic.{⊎_elim}
use mathlib.Core.Option.{Option, none, some, some-ne-none}
use mathlib.Core.Path.{◌≡◌, refl, sym, ap, ◌∙◌}
use native.Mathlib.Nat.{eq-or-lt_of_le}
use native.Mathlib.Numerals.{add-one}
use native.Mathlib.Omega.{arith}
use lib.ListN.{length, get_or}
use Rattle.text.specs.declared.Form.{Form}
use Rattle.plan.specs.Grammar.{plan_in}
use Rattle.text.specs.Lines.{refusal}
use Rattle.std.specs.Prelude.{Ok, Err}
use Rattle.plan.specs.Table.{table_forms}
use Rattle.plan.specs.Settled.{table_plan}
use Rattle.plan.specs.Starts.{Starts}
use Rattle.plan.specs.Rules.{refused_at, proc_form, lowest_from, proc_refusal, reading_of}
use Rattle.plan.proofs.Kept.{no_line}

-- what a search among n numbers from p on says by its answer
abbrev pub Lowest : (ℕ → Bool) → ℕ → ℕ → Option ℕ → Type 0
Lowest test p n none = (q : ℕ) → p ≤ q → q < p + n → test q ≡ false
Lowest test p n (some q) = (p ≤ q) × (q < p + n) × (test q ≡ true) × ((m : ℕ) → p ≤ m → m < q → test m ≡ false)

pub lowest : (test : ℕ → Bool) (n p : ℕ) → Lowest test p n (lowest_from test p n)
unfolding lowest_from
lowest test zero p = λ q h k. absurd (omega arith)
lowest test (suc n) p = go (test p) refl (lowest_from test (suc p) n) (lowest test n (suc p))
  where
    go : (b : Bool) → test p ≡ b → (o : Option ℕ) → Lowest test (suc p) n o → Lowest test p (suc n) (cond b (some p) o)
    go true e o x = (omega arith, omega arith, e, λ m h k. absurd (omega arith))
    go false e none x = λ q h k. ⊎_elim (λ (i : p ≡ q). ap test (sym i) ∙ e) (λ (i : p < q). x q i (omega arith)) (eq-or-lt_of_le h)
    go false e (some r) x = (
      omega (arith, x.0),
      omega (arith, x.1),
      x.2,
      λ m h k. ⊎_elim (λ (i : p ≡ m). ap test (sym i) ∙ e) (λ (i : p < m). x.3 m i k) (eq-or-lt_of_le h),
    )

module _ (rule : ℕ) (fs : List Form) (test : ℕ → Bool) where
  abbrev n : ℕ
  n = length (plan_in fs).procs

  pub proc_refusal-none : proc_refusal rule fs test ≡ none → (p : ℕ) → p < length (plan_in fs).procs → test p ≡ false
  unfolding proc_refusal
  proc_refusal-none e p h = go (lowest_from test 0 n) (lowest test n 0) (no_line rule (proc_form fs (lowest_from test 0 n)) e)
    where
      go : (o : Option ℕ) → Lowest test 0 n o → proc_form fs o ≡ none → test p ≡ false
      go none x e = x p (omega arith) (omega arith)
      go (some q) x e = absurd (some-ne-none _ e)

  pub none-proc_refusal : ((p : ℕ) → p < length (plan_in fs).procs → test p ≡ false) → proc_refusal rule fs test ≡ none
  unfolding proc_refusal
  none-proc_refusal h = go (lowest_from test 0 n) (lowest test n 0)
    where
      go : (o : Option ℕ) → Lowest test 0 n o → refused_at rule (proc_form fs o) ≡ none
      go none x = refl
      go (some q) x = cc (x.2, h q (omega (arith, x.1)))

-- ---- as a pass: none before p passes the test, so that the lowest of those from p on is the lowest of all n

module _ (test : ℕ → Bool) (n : ℕ) where
  pub lowest-first : lowest_from test 0 (n - 0) ≡ lowest_from test 0 n
  lowest-first = let z : n - 0 ≡ n = omega arith in rw z

  module _ (p : ℕ) (e : lowest_from test p (n - p) ≡ lowest_from test 0 n) where
    turn : p < n → cond (test p) (some p) (lowest_from test (p + 1) (n - (p + 1))) ≡ lowest_from test 0 n
    unfolding lowest_from
    turn h = let z : n - p ≡ suc (n - (p + 1)) = omega arith in rw add-one (rw (z, add-one) at e)

    pub lowest-more : p < n → test p ≡ false → lowest_from test (p + 1) (n - (p + 1)) ≡ lowest_from test 0 n
    lowest-more h z = rw z at (turn h)

    module _ (rule : ℕ) (ws : List ℕ) (c : n ≡ length (table_plan ws).procs) (k : ℕ) where
      refused : (o : Option ℕ) → o ≡ lowest_from test 0 n → reading_of (refused_at rule (proc_form (table_forms ws) o)) k ≡ reading_of (proc_refusal rule (table_forms ws) test) k
      unfolding proc_refusal
      refused o g = ap (λ x. reading_of (refused_at rule (proc_form (table_forms ws) x)) k) (g ∙ ap (λ m. lowest_from test 0 m) c)

      -- at its place, which is also the number of its `(proc`
      pub lowest-found : (starts : List ℕ) → Starts ws starts → p < n → test p ≡ true
          → Err (refusal rule (get_or starts p 0)) ≡ reading_of (proc_refusal rule (table_forms ws) test) k
      unfolding reading_of
      lowest-found starts s h z =
          let f : some p ≡ lowest_from test 0 n = rw z at (turn h) in
          ap (λ l. Err (refusal rule l)) (s.numbers p (rw c at h)) ∙ refused (some p) f

      pub lowest-end : n ≤ p → Ok k ≡ reading_of (proc_refusal rule (table_forms ws) test) k
      unfolding reading_of lowest_from
      lowest-end h =
          let z : n - p ≡ 0 = omega arith in
          let f : none ≡ lowest_from test 0 n = rw z at e in
          refused none f
