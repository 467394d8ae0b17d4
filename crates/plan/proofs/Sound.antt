-- What rules 4 to 8 settle of a plan's tree (`forms-settled`). The counts run along with the forms: a block adds its statements and leaves the
-- other counts as they were. What calls and threads name is below the number of all procedures.
use Prim.Native.Nat.{ℕ, zero, suc, ◌+◌, ◌-◌, ◌<◌, ◌≤◌}
use mathlib.Core.Bool.{Bool, true, false}
use mathlib.Core.List.{List, [], ◌∷◌}
use mathlib.Core.Option.{none}
use mathlib.Core.Path.{◌≡◌, refl, subst}
use native.Mathlib.Omega.{arith}
use native.Mathlib.Nat.{add-zero}
use lib.ListN.{length, get_or}
use borrow.Author.Tests.{ltb-false, leb-false}
use Rattle.limits.specs.Limits.{max_procs, max_statements, max_threads, max_brackets, lock_count}
use Rattle.text.specs.declared.Form.{Form}
use Rattle.text.specs.declared.Form.TheVariants.{Close, Two}
use Rattle.semantics.specs.Plan.{Block, done, skip, call, hold, loop, either, end, LockPlan, body_in, WellFormed, Written}
use Rattle.plan.specs.Grammar.{claim_form, block_forms, proc_forms, thread_forms, forms, Grammatical, plan_in}
use Rattle.laws.specs.Choice.{pick}
use Rattle.text.specs.Forms.{number_in, kind_in, is_proc}
use Rattle.plan.specs.Limits.{as_counts, counted, tested_by, least_bad, breaks, count_if, no_counts}
use Rattle.plan.specs.Settled.{statements, all_statements, nesting, Settled}
use Rattle.plan.specs.Rules.{grammar_refusal}
use Rattle.semantics.specs.Claims.{lock_of}
use Rattle.semantics.proofs.Ground.Claims.{lt_claim}
use Rattle.plan.proofs.ClaimForms.{by_claim}
use Rattle.plan.proofs.Trees.{later-blocks}
use Rattle.plan.proofs.Denotes.{accepted_denotes}
use Rattle.plan.proofs.Counting.{count-forms}
use Rattle.plan.proofs.Kept.{Kept, kept, within-limits}

-- In the n-th of m procedures, where t threads have been read:
module _ (m n t : ℕ) where
  -- what the forms of a block b say, where s statements have been read and o brackets are open
  record KeptBlock (s o : ℕ) (b : Block) (fs : List Form) : Type 0 where
    written : Written (λ q. q < m) b
    nested : o + nesting b ≤ max_brackets
    later : Kept m (as_counts n (s + statements b) t o) fs

  pub recount : (s s' o o' : ℕ) (fs : List Form) → s ≡ s' → o ≡ o' → Kept m (as_counts n s t o) fs → Kept m (as_counts n s' t o') fs
  recount s s' o o' fs p q k = rw (← p, ← q) k

  abbrev Reads : Block → Type 0
  Reads b = (s o : ℕ) (fs : List Form) → o ≤ max_brackets → Kept m (as_counts n s t o) (block_forms b fs) → KeptBlock s o b fs

  -- behind the form of a skip or a call
  kept_simple : (r : Block) → Reads r → (s o : ℕ) (fs : List Form) → o ≤ max_brackets → Kept m (as_counts n (s + 1) t o) (block_forms r fs) → KeptBlock s o (skip r) fs
  unfolding Written statements nesting
  kept_simple r read s o fs h k =
      let x = read (s + 1) o fs h k in
      let later = recount (s + 1 + statements r) (s + (1 + statements r)) o o fs (omega arith) refl x.later in
      record { written = x.written; nested = x.nested; later = later }

  -- the form of a claim: within the limits, with a lock below 32
  abbrev Takes : ℕ → ℕ → ℕ → List Form → Type 0
  Takes s o a fs = (o + 1 ≤ max_brackets) × (lock_of a < lock_count) × Kept m (as_counts n (s + 1) t (o + 1)) fs

  kept-claim : (s o a : ℕ) (fs : List Form) → Kept m (as_counts n s t o) (claim_form a ∷ fs) → Takes s o a fs
  unfolding Kept counted breaks tested_by least_bad number_in pick kind_in
  kept-claim s o a fs =
      let deeper = within-limits (as_counts n (s + 1) t (o + 1)) in
      by_claim (λ f. Kept m (as_counts n s t o) (f ∷ fs) → Takes s o a fs) a
      (λ k. ((deeper k.0.limits).depth, omega (arith, ltb-false 31 (lock_of a) k.0.lock), k.1))
      (λ k. ((deeper k.0.limits).depth, omega (arith, ltb-false 31 (lock_of a) k.0.lock), k.1))

  -- behind the form of a loop, a hold or a share
  kept_bracket : (b r : Block) → Reads b → Reads r → (s o : ℕ) (fs : List Form) → o + 1 ≤ max_brackets
      → Kept m (as_counts n (s + 1) t (o + 1)) (block_forms b (Close ∷ block_forms r fs)) → KeptBlock s o (loop b r) fs
  unfolding Kept Written statements nesting counted kind_in
  kept_bracket b r read-b read-r s o fs h k =
      let s₁ = s + 1 + statements b in
      let x = read-b (s + 1) (o + 1) (Close ∷ block_forms r fs) h k in
      let y = read-r s₁ o fs (omega arith) (recount s₁ s₁ (o + 1 - 1) o (block_forms r fs) refl (omega arith) x.later.1) in
      record {
        written = (x.written, y.written);
        nested = omega (arith, x.nested, y.nested);
        later = recount (s₁ + statements r) (s + (1 + statements b + statements r)) o o fs (omega arith) refl y.later;
      }

  kept_either : (a b r : Block) → Reads a → Reads b → Reads r → Reads (either a b r)
  unfolding Kept block_forms Written statements nesting counted kind_in
  kept_either a b r read_a read-b read-r s o fs h k =
      let deeper = (within-limits (as_counts n (s + 1) t (o + 1 + 1)) k.1.0.limits).depth in
      let s₁ = s + 1 + statements a in
      let s₂ = s₁ + statements b in
      let gs = block_forms r fs in
      let hs = block_forms b (Close ∷ Close ∷ gs) in
      let x = read_a (s + 1) (o + 1 + 1) (Close ∷ Two ∷ hs) deeper k.1.1 in
      let in_two = recount s₁ s₁ (o + 1 + 1 - 1 + 1) (o + 1 + 1) hs refl (omega arith) x.later.1.1 in
      let y = read-b s₁ (o + 1 + 1) (Close ∷ Close ∷ gs) deeper in_two in
      let z = read-r s₂ o fs h (recount s₂ s₂ (o + 1 + 1 - 1 - 1) o gs refl (omega arith) y.later.1.1) in
      record {
        written = (x.written, y.written, z.written);
        nested = omega (arith, x.nested, y.nested, z.nested);
        later = recount (s₂ + statements r) (s + (1 + statements a + statements b + statements r)) o o fs (omega arith) refl z.later;
      }

  kept_block : (b : Block) (empty : Bool) → WellFormed empty b → Reads b
  unfolding Kept block_forms WellFormed Written statements nesting counted breaks tested_by least_bad number_in pick kind_in
  kept_block done empty w s o fs h k = record { written = tt; nested = omega arith; later = recount s (s + 0) o o fs (omega arith) refl k }
  kept_block (skip r) empty w s o fs h k = kept_simple r (kept_block r true w) s o fs h k.1
  kept_block (call p r) empty w s o fs h k =
      let x = kept_simple r (kept_block r true w) s o fs h k.1 in
      record { written = (leb-false m p k.0.callee, x.written); nested = x.nested; later = x.later }
  kept_block (hold a b r) empty w s o fs h k =
      let y = kept-claim s o a (block_forms b (Close ∷ block_forms r fs)) k in
      let x = kept_bracket b r (kept_block b false w.0) (kept_block r true w.1) s o fs y.0 y.2 in
      record { written = (lt_claim a y.1, x.written.0, x.written.1); nested = x.nested; later = x.later }
  kept_block (loop b r) empty w s o fs h k =
      let deeper = (within-limits (as_counts n (s + 1) t (o + 1)) k.0.limits).depth in
      kept_bracket b r (kept_block b false w.0) (kept_block r true w.1) s o fs deeper k.1
  kept_block (either a b r) empty w s o fs h k =
      kept_either a b r (kept_block a false w.0) (kept_block b false w.1) (kept_block r true w.2) s o fs h k
  kept_block (end l r) empty w s o fs h k = absurd w

-- what the forms of procedures say, where n of the m procedures and s statements have been read, and the counts behind them
record KeptProcs (m n s : ℕ) (bs : List Block) (fs : List Form) : Type 0 where
  written : (p : ℕ) → Written (λ q. q < m) (body_in bs p)
  nested : (p : ℕ) → nesting (body_in bs p) ≤ max_brackets
  later : Kept m (as_counts (n + length bs) (s + all_statements bs) 0 0) fs

kept-procs : (bs : List Block) → ((p : ℕ) → p < length bs → WellFormed false (body_in bs p)) → (m n s : ℕ) (fs : List Form)
    → Kept m (as_counts n s 0 0) (proc_forms bs fs) → KeptProcs m n s bs fs
unfolding Kept proc_forms body_in Written all_statements nesting counted kind_in
kept-procs [] w m n s fs k = record { written = λ p. tt; nested = λ p. omega arith; later = rw (add-zero n, add-zero s) k }
kept-procs (b ∷ bs) w m n s fs k =
    let x = kept_block m (n + 1) 0 b false (w 0 (omega arith)) s 0 (Close ∷ proc_forms bs fs) (omega arith) k.1 in
    let y = kept-procs bs (later-blocks b bs w) m (n + 1) (s + statements b) fs x.later.1 in
    let procs : n + 1 + length bs ≡ n + suc (length bs) = omega arith in
    let counted-statements : s + statements b + all_statements bs ≡ s + (statements b + all_statements bs) = omega arith in
    record {
      written = each-body x.written y.written;
      nested = each-nested x.nested y.nested;
      later = rw (procs, counted-statements) at y.later;
    }
  where
    each-body : Written (λ q. q < m) b → ((p : ℕ) → Written (λ q. q < m) (body_in bs p)) → (p : ℕ) → Written (λ q. q < m) (body_in (b ∷ bs) p)
    each-body w ws zero = w
    each-body w ws (suc p) = ws p

    each-nested : 0 + nesting b ≤ max_brackets → ((p : ℕ) → nesting (body_in bs p) ≤ max_brackets) → (p : ℕ) → nesting (body_in (b ∷ bs) p) ≤ max_brackets
    each-nested o os zero = omega arith
    each-nested o os (suc p) = os p

record KeptThreads (m n s t : ℕ) (ns : List ℕ) : Type 0 where
  present : (i : ℕ) → i < length ns → get_or ns i 0 < m
  few-procs : n ≤ max_procs
  few-statements : s ≤ max_statements
  few-threads : t + length ns ≤ max_threads

kept-threads : (ns : List ℕ) (m n s t : ℕ) → Kept m (as_counts n s t 0) (thread_forms ns (Close ∷ [])) → KeptThreads m n s t ns
unfolding Kept thread_forms counted breaks tested_by least_bad number_in pick kind_in
kept-threads [] m n s t k =
    let x = within-limits (as_counts n s t 0) k.0.limits in
    record { present = λ i h. absurd (omega arith); few-procs = x.procs; few-statements = x.statements; few-threads = omega (arith, x.threads) }
kept-threads (p ∷ ns) m n s t k =
    let x = kept-threads ns m n s (t + 1) k.1 in
    record {
      present = each (leb-false m p k.0.thread) x.present;
      few-procs = x.few-procs;
      few-statements = x.few-statements;
      few-threads = omega (arith, x.few-threads);
    }
  where
    each : p < m → ((i : ℕ) → i < length ns → get_or ns i 0 < m) → (i : ℕ) → i < length (p ∷ ns) → get_or (p ∷ ns) i 0 < m
    each b bs zero h = b
    each b bs (suc i) h = bs i (omega arith)

-- the forms of a plan that keep rules 5 to 8
kept-settled : (plan : LockPlan) → Grammatical plan → Kept (count_if is_proc (forms plan)) no_counts (forms plan) → Settled plan
unfolding Kept forms counted kind_in
kept-settled plan g k =
    let m = length plan.procs in
    let j : Kept m no_counts (forms plan) = subst (λ n. Kept n no_counts (forms plan)) (count-forms plan) k in
    let x = kept-procs plan.procs g.blocks m 0 0 (thread_forms plan.threads (Close ∷ [])) j.1 in
    let y = kept-threads plan.threads m (0 + length plan.procs) (0 + all_statements plan.procs) 0 x.later in
    record {
      callees_present = x.written;
      filled = g.blocks;
      threads-present = y.present;
      some-proc = g.some_procedure;
      some-thread = g.some-thread;
      few-procs = omega (arith, y.few-procs);
      few-statements = omega (arith, y.few-statements);
      few-threads = omega (arith, y.few-threads);
      few_open = x.nested;
    }

pub forms-settled : (fs : List Form) → grammar_refusal fs ≡ none → Settled (plan_in fs)
forms-settled fs h =
    let k = kept fs h in
    let d = accepted_denotes fs k.0 in
    kept-settled (plan_in fs) d.0 (subst (λ l. Kept (count_if is_proc l) no_counts l) d.1 k.1)
