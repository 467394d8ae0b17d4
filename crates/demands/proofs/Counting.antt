-- The counts that the pass of rule 5 keeps are counts of the forms read (`counted-more`). Which forms stand behind the last `(proc` (`inside-unique`), and where a
-- procedure begins (`proc-unique`), is settled by the forms.
use Prim.Native.Nat.{ℕ, suc, ◌+◌}
use mathlib.Core.Bool.{Bool, true, false, cond}
use mathlib.Core.List.{List, [], ◌∷◌, ◌++◌, foldl, foldl-append, head-eq_of_cons-eq, tail-eq_of_cons-eq}
use mathlib.Core.Path.{◌≡◌, refl, ap}
use native.Mathlib.Omega.{arith}
use lib.ListN.{length}
use Rattle.text.specs.declared.Form.{Form}
use Rattle.text.specs.declared.Form.TheVariants.{Proc}
use Rattle.text.specs.Forms.{kind_in, is_proc, is_thread, is_statement}
use Rattle.plan.specs.declared.Counts.{Counts}
use Rattle.plan.specs.Limits.{add_if, counted, no_counts, count_if}

pub count_append : (kind : Form → Bool) (fs gs : List Form) → count_if kind (fs ++ gs) ≡ count_if kind fs + count_if kind gs
unfolding count_if
count_append kind [] gs = omega arith
count_append kind (f ∷ fs) gs = omega (arith, count_append kind fs gs)

-- one form, 1 or 0
abbrev pub one : (Form → Bool) → Form → ℕ
one kind f = cond (kind f) 1 0

pub count_snoc : (kind : Form → Bool) (fs : List Form) (f : Form) → count_if kind (fs ++ f ∷ []) ≡ count_if kind fs + one kind f
unfolding count_if
count_snoc kind fs f = omega (arith, count_append kind fs (f ∷ []))

-- the counts of the forms read
unfoldable pub counts_of : List Form → Counts
counts_of fs = foldl counted no_counts fs

pub counts_snoc : (fs : List Form) (f : Form) → counts_of (fs ++ f ∷ []) ≡ counted (counts_of fs) f
unfolding counts_of
counts_snoc fs f = foldl-append counted no_counts fs (f ∷ [])

-- the counts but that of brackets
pub record Counted (fs : List Form) (c : Counts) : Type 0 where
  pub procs : c.procs ≡ count_if is_proc fs
  pub statements : c.statements ≡ count_if is_statement fs
  pub threads : c.threads ≡ count_if is_thread fs

-- what one form adds
add_one_if : (b : Bool) (n : ℕ) → add_if b n ≡ n + cond b 1 0
add_one_if true n = refl
add_one_if false n = omega arith

pub counted-more : (fs : List Form) (f : Form) (c : Counts) → Counted fs c → Counted (fs ++ f ∷ []) (counted c f)
unfolding counted
counted-more fs f c x = record {
  procs = omega (arith, add_one_if (is_proc f) c.procs, x.procs, count_snoc is_proc fs f);
  statements = omega (arith, add_one_if (is_statement f) c.statements, x.statements, count_snoc is_statement fs f);
  threads = omega (arith, add_one_if (is_thread f) c.threads, x.threads, count_snoc is_thread fs f);
}

-- ---- the `(proc` forms

pub no_proc_in : (fs gs : List Form) → count_if is_proc (fs ++ Proc ∷ gs) ≡ 0 → ⊥
unfolding count_if kind_in
no_proc_in fs gs h = omega (arith, count_append is_proc fs (Proc ∷ gs))

-- the forms behind the last `(proc`
pub inside-unique : (xs ys vs ws : List Form) → xs ++ Proc ∷ vs ≡ ys ++ Proc ∷ ws → count_if is_proc vs ≡ 0 → count_if is_proc ws ≡ 0 → vs ≡ ws
inside-unique [] [] vs ws e h k = tail-eq_of_cons-eq e
inside-unique [] (y ∷ ys) vs ws e h k = absurd (no_proc_in ys ws (rw (tail-eq_of_cons-eq e) at h))
inside-unique (x ∷ xs) [] vs ws e h k = absurd (no_proc_in xs vs (rw (← tail-eq_of_cons-eq e) at k))
inside-unique (x ∷ xs) (y ∷ ys) vs ws e h k = inside-unique xs ys vs ws (tail-eq_of_cons-eq e) h k

-- the `(proc` with so many before it
pub proc-unique : (xs ys vs ws : List Form) → xs ++ Proc ∷ vs ≡ ys ++ Proc ∷ ws → count_if is_proc xs ≡ count_if is_proc ys → length xs ≡ length ys
unfolding count_if kind_in
proc-unique [] [] vs ws e h = refl
proc-unique [] (y ∷ ys) vs ws e h = let z : Proc ≡ y = head-eq_of_cons-eq e in absurd (omega (arith, rw (← z) at h))
proc-unique (x ∷ xs) [] vs ws e h = let z : x ≡ Proc = head-eq_of_cons-eq e in absurd (omega (arith, rw z at h))
proc-unique (x ∷ xs) (y ∷ ys) vs ws e h =
    let z : one is_proc x ≡ one is_proc y = ap (one is_proc) (head-eq_of_cons-eq e) in
    ap suc (proc-unique xs ys vs ws (tail-eq_of_cons-eq e) (omega arith))
