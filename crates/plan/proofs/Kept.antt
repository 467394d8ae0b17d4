-- Where no rule of 5 to 8 names a form, each form keeps each of them (`kept`).
use Prim.Native.Nat.{ℕ, suc, ◌≤◌}
use mathlib.Core.Bool.{Bool, true, false, cond}
use mathlib.Core.List.{List, [], ◌∷◌}
use mathlib.Core.Option.{Option, none, some, some-ne-none, or_else}
use mathlib.Core.Path.{◌≡◌, refl}
use lib.Dec.{ltb}
use Rattle.laws.proofs.Tests.{first-none}
use borrow.Author.Tests.{ltb-false}
use Rattle.limits.specs.Limits.{max_procs, max_statements, max_threads, max_brackets}
use Rattle.laws.specs.Choice.{pick}
use Rattle.text.specs.declared.Form.{Form}
use Rattle.plan.specs.declared.Counts.{Counts}
use Rattle.text.specs.Forms.{is_proc}
use Rattle.plan.specs.Limits.{counted, over_limit, past_limit_from, past_limit_form, breaks, breaking, count_if, breaking_form, no_counts}
use Rattle.plan.specs.Structure.{misplaced_form}
use Rattle.text.specs.declared.Refusal.{Refusal}
use Rattle.text.specs.Lines.{refusal}
use Rattle.plan.specs.Rules.{refused_at, refused_if, references_refusal, grammar_refusal}

-- no rule is broken by a form, where there are m procedures and c counts what has been read, the form too
pub record Keeps (m : ℕ) (c : Counts) (f : Form) : Type 0 where
  pub limits : over_limit c ≡ false
  pub lock : breaks 6 m f ≡ false
  pub callee : breaks 7 m f ≡ false
  pub thread : breaks 8 m f ≡ false

-- the same of each form, from the counts c on
unfoldable pub Kept : ℕ → Counts → List Form → Type 0
Kept m c [] = Unit {0}
Kept m c (f ∷ fs) = Keeps m (counted c f) f × Kept m (counted c f) fs

unnamed : (b : Bool) (number : ℕ) (later : Option ℕ) → cond b (some number) later ≡ none → (b ≡ false) × (later ≡ none)
unnamed true number later h = absurd (some-ne-none number h)
unnamed false number later h = (refl, h)

kept_from : (fs : List Form) (m : ℕ) (c : Counts) (number : ℕ) → past_limit_from c number fs ≡ none → breaking 6 m number fs ≡ none → breaking 7 m number fs ≡ none
    → breaking 8 m number fs ≡ none → Kept m c fs
unfolding Kept past_limit_from breaking
kept_from [] m c number five six seven eight = tt
kept_from (f ∷ fs) m c number five six seven eight =
    let d = counted c f in
    let x = unnamed (over_limit d) number (past_limit_from d (suc number) fs) five in
    let y = unnamed (breaks 6 m f) number (breaking 6 m (suc number) fs) six in
    let z = unnamed (breaks 7 m f) number (breaking 7 m (suc number) fs) seven in
    let u = unnamed (breaks 8 m f) number (breaking 8 m (suc number) fs) eight in
    (record { limits = x.0; lock = y.0; callee = z.0; thread = u.0 }, kept_from fs m d (suc number) x.1 y.1 z.1 u.1)

-- a rule that refuses nothing names nothing
pub no_line : (rule : ℕ) (o : Option ℕ) → refused_at rule o ≡ none → o ≡ none
no_line rule none h = refl
no_line rule (some number) h = absurd (some-ne-none (refusal rule number) h)

pub unflagged : (rule : ℕ) (b : Bool) → refused_if rule b ≡ none → b ≡ false
unflagged rule true h = absurd (some-ne-none (refusal rule 0) h)
unflagged rule false h = refl

-- what rules 4 to 8 say of forms that none of them refuses
pub kept : (fs : List Form) → grammar_refusal fs ≡ none → (misplaced_form fs ≡ none) × Kept (count_if is_proc fs) no_counts fs
unfolding grammar_refusal references_refusal past_limit_form breaking_form
kept fs h =
    let m = count_if is_proc fs in
    let r : ℕ → Option Refusal = λ rule. refused_at rule (breaking rule m 1 fs) in
    let over = refused_at 5 (past_limit_from no_counts 1 fs) in
    let a = first-none (refused_at 4 (misplaced_form fs)) (or_else over (or_else (r 6) (or_else (r 7) (r 8)))) h in
    let b = first-none over (or_else (r 6) (or_else (r 7) (r 8))) a.1 in
    let c = first-none (r 6) (or_else (r 7) (r 8)) b.1 in
    let d = first-none (r 7) (r 8) c.1 in (
      no_line 4 (misplaced_form fs) a.0,
      kept_from fs m no_counts 1
          (no_line 5 (past_limit_from no_counts 1 fs) b.0) (no_line 6 (breaking 6 m 1 fs) c.0)
          (no_line 7 (breaking 7 m 1 fs) d.0) (no_line 8 (breaking 8 m 1 fs) d.1),
    )

-- 5: "64 procedures, 1,024 statements, 6 threads, or 16 brackets"
pub record WithinLimits (c : Counts) : Type 0 where
  pub procs : c.procs ≤ max_procs
  pub statements : c.statements ≤ max_statements
  pub threads : c.threads ≤ max_threads
  pub depth : c.depth ≤ max_brackets

neither : (a b : Bool) → pick a true b ≡ false → (a ≡ false) × (b ≡ false)
unfolding pick
neither true b h = cc
neither false b h = (refl, h)

pub within-limits : (c : Counts) → over_limit c ≡ false → WithinLimits c
unfolding over_limit
within-limits c h =
    let x = neither (ltb max_procs c.procs) _ h in
    let y = neither (ltb max_statements c.statements) _ x.1 in
    let z = neither (ltb max_threads c.threads) (ltb max_brackets c.depth) y.1 in
    record { procs = ltb-false max_procs _ x.0; statements = ltb-false max_statements _ y.0; threads = ltb-false max_threads _ z.0; depth = ltb-false max_brackets _ z.1 }
