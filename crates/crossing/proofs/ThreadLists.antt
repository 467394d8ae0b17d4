-- The pair lists of two threads, found by the rules in checking order: of a table, then of the text whose table it is.
use Prim.Native.Nat.{ℕ, ◌-◌, ◌*◌, ◌<◌}
use native.Mathlib.Omega.{arith}
use mathlib.Core.Bool.{Bool, true, false}
use mathlib.Core.List.{List}
use mathlib.Core.Option.{or_else, some, some-ne-none}
use mathlib.Core.Path.{◌≡◌, refl, sym, ◌∙◌}
use lib.ListN.{length, take, get_or}
use Rattle.laws.proofs.Wrote.{wrote-start}
use Rattle.std.proofs.Common.{Result, Ok, Err}
use Rattle.text.specs.declared.Refusal.{Refusal}
use Rattle.text.specs.Lines.{refusal}
use Rattle.plan.specs.Settled.{table_plan, RulesKept}
use Rattle.plan.specs.Rules.{plan_refusal, are_no_two, crossings_refusal}
use Rattle.checked.specs.declared.CheckedText.{CheckedText}
use Rattle.checked.specs.Checks.{AcceptedText}
use Rattle.plan.proofs.TwoThreads.{two-exactly}
use Rattle.semantics.specs.Plan.{thread_proc}
use Rattle.procs.specs.declared.Layout.{Layout}
use Rattle.procs.specs.Laid.{Laid}
use Rattle.procs.proofs.Layouts.{runs-at, runs-present}
use Rattle.pairs.specs.Words.{WordsOfPairs}
use Rattle.crossing.specs.declared.TwoLists.{TwoLists}
use Rattle.crossing.specs.Crossed.{two_lists_of, TableLists, TextLists}

-- ---- one thread

module _ (table : List ℕ) (l : Layout) (laid : Laid table l) (t : ℕ) (h : t < l.threads) (runs : List ℕ) (e : runs ≡ l.runs) where
  pub proc-there : RulesKept table → get_or runs t 0 < l.procs
  proc-there k = rw e (omega (arith, runs-present table l laid t h k.plan, laid.procs-all))

  pub pairs_of-thread : (before after : List ℕ) (r : ℕ) → WordsOfPairs table (get_or runs t 0) before r after → WordsOfPairs table (thread_proc (table_plan table) t) before r after
  pairs_of-thread before after r w = rw (e, runs-at table l laid t h) at w

-- ---- two threads

module _ (n t u : ℕ) (b : Bool) (e : b ≡ are_no_two n t u) (f : b ≡ false) where
  pub first-there : t < n
  first-there = ((two-exactly n t u).0 (sym e ∙ f)).0

  pub second-there : u < n
  second-there = ((two-exactly n t u).0 (sym e ∙ f)).1

module _ (table : List ℕ) (l : Layout) (laid : Laid table l) (t u : ℕ) (b : Bool) (e : b ≡ are_no_two l.threads t u) (one two : List ℕ) where
  same : are_no_two (length (table_plan table).threads) t u ≡ b
  same = rw (← laid.threads-all) (sym e)

  pub lists_refused : b ≡ true → TableLists table t u (Err (refusal 14 0)) one two
  unfolding two_lists_of
  lists_refused f = rw (same, f) (record {
    answer = refl;
    of_first = λ g. absurd (some-ne-none _ g);
    of_second = λ g. absurd (some-ne-none _ g);
  })

  pub lists_found : (one₀ two₀ : List ℕ) (m n : ℕ) → b ≡ false → WordsOfPairs table (thread_proc (table_plan table) t) one₀ m one
      → WordsOfPairs table (thread_proc (table_plan table) u) two₀ n two → TableLists table t u (Ok (record { first = m; second = n })) one two
  unfolding two_lists_of
  lists_found one₀ two₀ m n f v w =
      rw (same, f) (record {
        answer = rw (← v.count, ← w.count);
        of_first = λ _. rw (← v.count) (wrote-start one₀ one 0 (3 * m) _ v.list refl);
        of_second = λ _. rw (← w.count) (wrote-start two₀ two 0 (3 * n) _ w.list refl);
      })

-- ---- in a text

module _ (text : List ℕ) (t u : ℕ) (one two : List ℕ) where
  pub text-refused : (r : Result TwoLists Refusal) (x : Refusal) → r ≡ Err x → plan_refusal text ≡ some x → TextLists text t u r one two
  unfolding two_lists_of crossings_refusal or_else
  text-refused r x k e =
      rw (k, e) (record {
        answer = refl;
        of_first = λ h. absurd (some-ne-none _ h);
        of_second = λ h. absurd (some-ne-none _ h);
      })

  pub text_lists : (table : List ℕ) (plan : CheckedText) (r : Result TwoLists Refusal) → AcceptedText text plan table → TableLists (take plan.forms table) t u r one two
      → TextLists text t u r one two
  unfolding crossings_refusal or_else
  text_lists table plan r a w = rw a.kept (rw a.plan at w)
