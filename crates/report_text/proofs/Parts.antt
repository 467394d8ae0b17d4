-- What each function of the report writes is its part. The parts are a list: behind the opening as many procedures as are reported, then the verdict and the closing
-- line, so the place of a part says which of these it is.
use Prim.Native.Nat.{ℕ, zero, suc, ◌+◌, ◌-◌, ◌<◌, ◌≤◌}
use native.Mathlib.Nat.{not-suc-le-zero, le_of_suc-le-suc}
use native.Mathlib.Omega.{arith}
use mathlib.Core.Path.{◌≡◌, refl, sym, subst, ◌∙◌}
use mathlib.Core.List.{List, []}
use lib.ListN.{length, take, get_or, length-take}
use Rattle.std.proofs.Common.{Result, Ok, Err}
use Rattle.limits.specs.Limits.{max_pairs}
use Rattle.laws.specs.Bytes.{bytes}
use Rattle.text.specs.declared.Refusal.{Refusal}
use Rattle.semantics.specs.Plan.{Block, LockPlan}
use Rattle.semantics.specs.Pairs.{pair_list}
use Rattle.plan.specs.Rules.{plan_of}
use Rattle.plan.specs.Settled.{table_plan, RulesKept}
use Rattle.plan.proofs.WithinSize.{few-pairs}
use Rattle.procs.specs.declared.Layout.{Layout}
use Rattle.procs.specs.Laid.{Laid}
use Rattle.laws.specs.Wrote.{Wrote}
use Rattle.report_lines.specs.Lines.{report_open, closing, proc_lines, proc_lines_room}
use Rattle.laws.proofs.Wrote.{wrote_none, wrote-start, wrote-length}
use Rattle.columns.specs.Columns.{pair_numbers}
use Rattle.columns.proofs.Numbers.{numbers-length, numbers-take}
use Rattle.report_text.specs.declared.Findings.{Findings}
use Rattle.answers.specs.declared.Verdict.{Verdict}
use Rattle.answers.specs.declared.Verdict.TheVariants.{Free, Deadlock}
use Rattle.answers.specs.Judgement.{schedule_in}
use Rattle.report_text.specs.Report.{procedures, proc_parts, verdict_part, last_parts, parts_of, part_of}
use Rattle.report_text.specs.Tables.{part_room, verdict_in, ProcTables, Prepared}

-- ---- a procedure

module _ (ws : List ℕ) (l : Layout) (p n : ℕ) (ms ks ms' ks' : List ℕ) (w : RulesKept ws) (d : Laid ws l) (h : p < l.procs)
    (k : Wrote (pair_numbers ms ks) (pair_numbers ms' ks') 0 n (pair_list (table_plan ws).procs p)) where
  pairs : pair_numbers (take (n - 0) ms') (take (n - 0) ks') ≡ pair_list (table_plan ws).procs p
  pairs =
      let e : n - 0 ≡ n = omega arith in
      rw e (sym (numbers-take n ms' ks') ∙ wrote-start (pair_numbers ms ks) (pair_numbers ms' ks') 0 n (pair_list (table_plan ws).procs p) k refl)

  inside : n ≤ length (pair_numbers ms' ks')
  inside = omega (arith, k.fits, wrote-length (pair_numbers ms ks) (pair_numbers ms' ks') 0 n (pair_list (table_plan ws).procs p) k)

  pub within-masks : n ≤ length ms'
  within-masks = omega (arith, inside, numbers-length ms' ks')

  pub within_codes : n ≤ length ks'
  within_codes = omega (arith, inside, numbers-length ms' ks')

  pub procedure_codes : length (take (n - 0) ms') ≤ length (take (n - 0) ks')
  procedure_codes = omega (arith, within_codes, length-take (n - 0) ms', length-take (n - 0) ks')

  few : length (take (n - 0) ms') ≤ max_pairs
  few =
      let z : length (pair_numbers (take (n - 0) ms') (take (n - 0) ks')) ≤ max_pairs = rw pairs (few-pairs ws w p (omega (arith, d.procs-all))) in
      omega (arith, z, numbers-length (take (n - 0) ms') (take (n - 0) ks'), procedure_codes)

  pub procedure_room : (out : List ℕ) → part_room ≤ length out → 0 + proc_lines_room (length (take (n - 0) ms')) ≤ length out
  procedure_room out r = omega (arith, few)

  pub procedure_lines : (out out' : List ℕ) (i : ℕ) → Wrote out out' 0 i (proc_lines p (pair_numbers (take (n - 0) ms') (take (n - 0) ks')))
      → Wrote out out' 0 i (proc_lines p (pair_list (table_plan ws).procs p))
  procedure_lines out out' i v = subst (λ l. Wrote out out' 0 i (proc_lines p l)) pairs v

module _ (j : Findings) (table : List ℕ) (t : ProcTables j table) where
  pub table-rules : RulesKept (take (j.forms - 0) table)
  table-rules = let e : j.forms - 0 ≡ j.forms = omega arith in rw e t.within

  pub table-laid : Laid (take (j.forms - 0) table) j.layout
  table-laid = let e : j.forms - 0 ≡ j.forms = omega arith in rw e t.laid

  pub table-lines : (p i : ℕ) (out out' : List ℕ) → Wrote out out' 0 i (proc_lines p (pair_list (table_plan (take (j.forms - 0) table)).procs p))
      → Wrote out out' 0 i (proc_lines p (pair_list (table_plan (take j.forms table)).procs p))
  table-lines p i out out' w = let e : j.forms - 0 ≡ j.forms = omega arith in rw e at w

-- ---- the parts by their places

module _ (ps : List Block) (rest : List (List ℕ)) where
  place_procedure : (n p i : ℕ) → i < n → get_or (proc_parts ps p n rest) i [] ≡ proc_lines (p + i) (pair_list ps (p + i))
  unfolding proc_parts
  place_procedure zero p i h = absurd (not-suc-le-zero h)
  place_procedure (suc n) p zero h = let e : p + 0 ≡ p = omega arith in rw e
  place_procedure (suc n) p (suc i) h =
      let e : p + suc i ≡ suc p + i = omega arith in
      rw e (place_procedure n (suc p) i (le_of_suc-le-suc h))

  place-behind : (n p i : ℕ) → get_or (proc_parts ps p n rest) (n + i) [] ≡ get_or rest i []
  unfolding proc_parts
  place-behind zero p i = let e : 0 + i ≡ i = omega arith in rw e
  place-behind (suc n) p i = let e : suc n + i ≡ suc (n + i) = omega arith in rw e (place-behind n (suc p) i)

-- those behind the procedures
module _ (v : Result Verdict Refusal) (schedule out out' : List ℕ) (k i : ℕ) where
  pub last_verdict : k ≡ 1 → Wrote out out' 0 i (verdict_part v schedule) → Wrote out out' 0 i (get_or (last_parts v schedule) (k - 1) [])
  last_verdict e w = rw e w

  pub last_closing : k ≡ 2 → Wrote out out' 0 i (bytes ")\n") → Wrote out out' 0 i (get_or (last_parts v schedule) (k - 1) [])
  unfolding closing
  last_closing e w = rw e w

  pub last_none : 0 < k → (k ≡ 1 → ⊥) → (k ≡ 2 → ⊥) → Wrote out out 0 0 (get_or (last_parts v schedule) (k - 1) [])
  last_none h a b =
      let e : k - 1 ≡ suc (suc (k - 3)) = omega (arith, a, b) in
      rw e (wrote_none out 0 (omega arith))

pub part_open : (text schedule out out' : List ℕ) (v : Result Verdict Refusal) (k i : ℕ) → k ≡ 0 → Wrote out out' 0 i (bytes "(report\n") → Wrote out out' 0 i (part_of text v schedule k)
unfolding parts_of report_open
part_open text schedule out out' v k i e w = rw e w

module _ (text : List ℕ) (v : Result Verdict Refusal) (schedule : List ℕ) where
  at-procedure : (k : ℕ) → (k ≡ 0 → ⊥) → k ≤ procedures v (plan_of text) → part_of text v schedule k ≡ proc_lines (k - 1) (pair_list (plan_of text).procs (k - 1))
  unfolding parts_of
  at-procedure zero h b = absurd (h refl)
  at-procedure (suc m) h b =
      let c : suc m - 1 ≡ 0 + m = omega arith in
      rw c (place_procedure (plan_of text).procs (last_parts v schedule) (procedures v (plan_of text)) 0 m (omega arith))

  at-last : (k m : ℕ) → k ≡ procedures v (plan_of text) + 1 + m → part_of text v schedule k ≡ get_or (last_parts v schedule) m []
  unfolding parts_of
  at-last k m e =
      let f : k ≡ suc (procedures v (plan_of text) + m) = omega arith in
      rw f (place-behind (plan_of text).procs (last_parts v schedule) (procedures v (plan_of text)) 0 m)

-- all procedures of an accepted plan are reported
all-reported : (v : Verdict) (plan : LockPlan) → procedures (Ok v) plan ≡ length plan.procs
unfolding procedures
all-reported Free plan = refl
all-reported (Deadlock n S) plan = refl

module _ (text : List ℕ) (r : Result Findings Refusal) (table entries : List ℕ) (x : Prepared text r table entries) (out out' : List ℕ) (k i : ℕ) where
  abbrev Part : Type 0
  Part = Wrote out out' 0 i (part_of text (verdict_in r) (schedule_in (verdict_in r) entries) k)

  module _ (f : Findings) (g : r ≡ Ok f) where
    tables : ProcTables f table × (table_plan (take f.forms table) ≡ plan_of text)
    tables = rw g at x.tables

    all : procedures (Ok f.verdict) (plan_of text) ≡ f.layout.procs
    all = all-reported f.verdict (plan_of text) ∙ rw (← tables.1) (sym tables.0.laid.procs-all)

    pub part_procedure : (k ≡ 0 → ⊥) → k ≤ f.layout.procs → Wrote out out' 0 i (proc_lines (k - 1) (pair_list (table_plan (take f.forms table)).procs (k - 1))) → Part
    unfolding verdict_in
    part_procedure h b w = rw (g, at-procedure text (Ok f.verdict) (schedule_in (Ok f.verdict) entries) k h (omega (arith, all)), ← tables.1) w

    pub part_last : f.layout.procs < k → Wrote out out' 0 i (get_or (last_parts (Ok f.verdict) (schedule_in (Ok f.verdict) entries)) (k - f.layout.procs - 1) []) → Part
    unfolding verdict_in
    part_last b w = rw (g, at-last text (Ok f.verdict) (schedule_in (Ok f.verdict) entries) k (k - f.layout.procs - 1) (omega (arith, all))) w

  pub part_refused : (y : Refusal) → r ≡ Err y → (k ≡ 0 → ⊥) → Wrote out out' 0 i (get_or (last_parts (Err y) (schedule_in (Err y) entries)) (k - 1) []) → Part
  unfolding verdict_in procedures
  part_refused y g h w = rw (g, at-last text (Err y) (schedule_in (Err y) entries) k (k - 1) (omega (arith, h))) w
