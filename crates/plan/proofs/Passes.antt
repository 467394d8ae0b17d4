-- The definitions of the crate in the shape of its functions' needs: a table's forms from a place on, the stack in its buffer, one rule after another.
use Prim.Native.Nat.{ℕ, zero, suc, ◌+◌, ◌-◌, ◌<◌, ◌≤◌}
use native.Mathlib.Numerals.{add-one}
use native.Mathlib.Omega.{arith}
use mathlib.Core.Path.{◌≡◌, refl, sym, ap, ◌∙◌}
use mathlib.Core.Bool.{Bool, true, false, cond}
use mathlib.Core.List.{List, [], ◌∷◌, map, tail}
use mathlib.Core.Option.{Option, none, some, or_else}
use native.Mathlib.Nat.{le_refl, add-zero, zero-add}
use denote.Enum.Bare.{sameb}
use lib.ListN.{length, take, drop, get_or, set, drop_of_length-le}
use lib.Seq.{length-take-le, drop-cons, get_or-set_same, get_or-set_other}
use Rattle.std.specs.List.{position_from, position}
use Rattle.std.proofs.lemmas.Iterator.Adapters.{position_from-zero}
use Rattle.std.proofs.lemmas.List.{get_or-take}
use Rattle.std.proofs.lemmas.Option.{slice_get-get_or}
use Rattle.text.specs.declared.Form.{Form}
use Rattle.text.specs.Forms.{is_proc, is_thread, is_close, is_statement, is_bracket}
use Rattle.std.specs.Prelude.{Result, Ok, Err, Some, None, slice_get}
use Rattle.std.specs.Prelude as std
use Rattle.plan.specs.declared.Mode.{Mode}
use Rattle.plan.specs.declared.Mode.TheVariants.{AtStart, Complete}
use Rattle.plan.specs.contracts.Mode.{the_type as mode}
use Rattle.plan.specs.declared.Bracket.{Bracket}
use Rattle.plan.specs.declared.Bracket.TheVariants.{OfStatement}
use Rattle.plan.specs.declared.Advance.{Advance}
use Rattle.plan.specs.declared.Counts.{Counts}
use Rattle.plan.specs.Table.{form_at, table_forms}
use Rattle.plan.specs.Structure.{innermost, stack_of, advance_of, go_on, unless_complete, misplaced, misplaced_form}
use Rattle.text.specs.declared.Refusal.{Refusal}
use Rattle.text.specs.Lines.{refusal}
use Rattle.plan.specs.Rules.{refused_at, reading_of}
use Rattle.plan.specs.Limits.{Small, as_counts, no_counts, add_if, counted, over_limit, past_limit_from, past_limit_form, breaks, breaking, count_if, breaking_form}

-- ---- the stack in its buffer

-- the innermost bracket is the last of those below the depth
pub top_last : (buffer : List Bracket) (d : ℕ) → d ≤ length buffer → slice_get (take d buffer) (length (take d buffer) - 1) ≡ innermost (stack_of buffer d)
unfolding stack_of
top_last buffer zero h = refl
top_last buffer (suc d) h =
    let e : length (take (suc d) buffer) - 1 ≡ d = omega (arith, length-take-le (suc d) buffer h) in
    rw (e, slice_get-get_or (take (suc d) buffer) d OfStatement (omega (arith, length-take-le (suc d) buffer h)), get_or-take (suc d) buffer d OfStatement (omega arith))

stack_set : (buffer : List Bracket) (d i : ℕ) (v : Bracket) → d ≤ i → stack_of (set buffer i v) d ≡ stack_of buffer d
unfolding stack_of
stack_set buffer zero i v h = refl
stack_set buffer (suc d) i v h = rw (get_or-set_other buffer i d v OfStatement (λ e. omega arith), stack_set buffer d i v (omega arith))

pub stack_push : (buffer : List Bracket) (d : ℕ) (v : Bracket) → d < length buffer → stack_of (set buffer d v) (d + 1) ≡ v ∷ stack_of buffer d
unfolding stack_of
stack_push buffer d v h = rw (add-one, get_or-set_same buffer d v OfStatement h, stack_set buffer d d v (le_refl d))

pub stack_pop : (buffer : List Bracket) (d : ℕ) → stack_of buffer (d - 1) ≡ tail (stack_of buffer d)
unfolding stack_of
stack_pop buffer zero = refl
stack_pop buffer (suc d) = let e : suc d - 1 ≡ d = omega arith in rw e

-- ---- rule 4, one form of a table on

-- a form's place is one below its number
number-next : (i : ℕ) → suc (i + 1) ≡ i + 1 + 1
number-next i = omega arith

-- the forms of a table from a place on
forms_at : (table : List ℕ) (i : ℕ) → i < length table → map form_at (drop i table) ≡ form_at (get_or table i 0) ∷ map form_at (drop (i + 1) table)
forms_at table i h = rw (drop-cons table i 0 h, add-one)

-- what the machine says of a table's forms from place i on
unfoldable pub misplaced_from : List ℕ → Mode → List Bracket → ℕ → Option ℕ
misplaced_from table mode stack i = misplaced mode stack (i + 1) (map form_at (drop i table))

pub misplaced_start : (table : List ℕ) (buffer : List Bracket) → misplaced_from table AtStart (stack_of buffer 0) 0 ≡ misplaced_form (table_forms table)
unfolding misplaced_from misplaced_form stack_of
misplaced_start table buffer = refl

misplaced_more : (table : List ℕ) (mode : Mode) (stack : List Bracket) (i : ℕ) → i < length table
    → misplaced_from table mode stack i ≡ go_on (advance_of mode (innermost stack) (form_at (get_or table i 0))) stack (i + 1) (λ m s. misplaced_from table m s (i + 1))
unfolding misplaced_from misplaced
misplaced_more table mode stack i h = rw (forms_at table i h, ← number-next i)

-- a step of the machine
pub misplaced_step : (table : List ℕ) (buffer : List Bracket) (mode : Mode) (d i : ℕ) (f : Form) (top : std.Option Bracket) (q : std.Option Advance) (r : Option ℕ)
    → misplaced_from table mode (stack_of buffer d) i ≡ r → i < length table → f ≡ form_at (get_or table i 0) → top ≡ innermost (stack_of buffer d)
    → q ≡ advance_of mode top f → go_on q (stack_of buffer d) (i + 1) (λ m s. misplaced_from table m s (i + 1)) ≡ r
misplaced_step table buffer mode d i f top q r p h e t g = rw (g, t, e, ← misplaced_more table mode (stack_of buffer d) i h) p

-- at the end, by the mode
module _ (table : List ℕ) (stack : List Bracket) (i n : ℕ) (r : Option ℕ) (h : i ≡ length table) where
  at-end : (m : Mode) → misplaced_from table m stack i ≡ r → unless_complete m (length table + 1) ≡ r
  unfolding misplaced_from misplaced
  at-end m p = let k : length table ≤ i = omega arith in rw (drop_of_length-le table k, h) at p

  pub complete_accepts : (m : Mode) → misplaced_from table m stack i ≡ r → true ≡ sameb mode m Complete → Ok n ≡ reading_of (refused_at 4 r) n
  unfolding reading_of
  complete_accepts Complete p e = rw (← at-end Complete p)
  complete_accepts _ p e = cc

  pub open_refuses : (m : Mode) → misplaced_from table m stack i ≡ r → false ≡ sameb mode m Complete → Err (refusal 4 (length table + 1)) ≡ reading_of (refused_at 4 r) n
  unfolding reading_of
  open_refuses Complete p e = cc
  open_refuses m p e = rw (← at-end m p)

-- ---- rule 5, one form of a table on

-- the counts before the first form
pub counts_none : (c : Counts) → c.procs ≡ 0 → c.statements ≡ 0 → c.threads ≡ 0 → c.depth ≡ 0 → (c ≡ no_counts) × Small c 0
counts_none c p s t d = (same c.procs c.statements c.threads c.depth p s t d, record { procs = omega arith; statements = omega arith; threads = omega arith; depth = omega arith })
  where
    same : (p s t o : ℕ) → p ≡ 0 → s ≡ 0 → t ≡ 0 → o ≡ 0 → as_counts p s t o ≡ no_counts
    same p s t o a b c d = rw (a, b, c, d)

-- a count grows by one at most
add_most : (b : Bool) (n i : ℕ) → n ≤ i → add_if b n ≤ i + 1
add_most true n i h = omega arith
add_most false n i h = omega arith

grown : (c : Counts) (i : ℕ) → Small c i → (f : Form) → Small (counted c f) (i + 1)
unfolding counted
grown c i s f = record {
  procs = add_most (is_proc f) c.procs i s.procs;
  statements = add_most (is_statement f) c.statements i s.statements;
  threads = add_most (is_thread f) c.threads i s.threads;
  depth = deeper (is_close f) (add_most (is_bracket f) c.depth i s.depth) s.depth;
}
  where
    deeper : (b : Bool) {n d : ℕ} → n ≤ i + 1 → d ≤ i → cond b (d - 1) n ≤ i + 1
    deeper true h k = omega arith
    deeper false h k = h

pub small_more : (c r : Counts) (f : Form) (i : ℕ) → r ≡ counted c f → Small c i → Small r (i + 1)
small_more c r f i e s = rw e (grown c i s f)

pub small_below : (c : Counts) (i n : ℕ) → Small c i → i < n → n < 65536 → Small c 65536
small_below c i n s h k = record { procs = omega arith; statements = omega arith; threads = omega arith; depth = omega arith }

-- rule 5's answer by the forms of a table from place i on, where c counts those before
unfoldable pub limits_from : List ℕ → Counts → ℕ → Result ℕ Refusal
limits_from table c i = reading_of (refused_at 5 (past_limit_from c (i + 1) (map form_at (drop i table)))) (c.procs + count_if is_proc (map form_at (drop i table)))

pub limits_start : (table : List ℕ)
    → limits_from table no_counts 0 ≡ reading_of (refused_at 5 (past_limit_form (table_forms table))) (count_if is_proc (table_forms table))
unfolding limits_from past_limit_form
limits_start table = ap (λ n. reading_of (refused_at 5 (past_limit_from no_counts 1 (table_forms table))) n) (zero-add (count_if is_proc (table_forms table)))

more_procs : (c : Counts) (f : Form) (fs : List Form) → c.procs + count_if is_proc (f ∷ fs) ≡ (counted c f).procs + count_if is_proc fs
unfolding counted count_if
more_procs c f fs = go (is_proc f) (count_if is_proc fs)
  where
    go : (b : Bool) (n : ℕ) → c.procs + (cond b 1 0 + n) ≡ add_if b c.procs + n
    go true n = omega arith
    go false n = omega arith

answered : (b : Bool) (k n : ℕ) (later : Option ℕ) → reading_of (refused_at 5 (cond b (some k) later)) n ≡ cond b (Err (refusal 5 k)) (reading_of (refused_at 5 later) n)
unfolding reading_of
answered true k n later = refl
answered false k n later = refl

pub limits_step : (table : List ℕ) (c : Counts) (i : ℕ) → i < length table
    → limits_from table c i ≡ cond (over_limit (counted c (form_at (get_or table i 0)))) (Err (refusal 5 (i + 1))) (limits_from table (counted c (form_at (get_or table i 0))) (i + 1))
unfolding limits_from past_limit_from
limits_step table c i h = rw (forms_at table i h, more_procs c, ← number-next i) (answered _ _ _ _)

pub limits_end : (table : List ℕ) (c : Counts) (i : ℕ) → length table ≤ i → limits_from table c i ≡ Ok c.procs
unfolding limits_from past_limit_from count_if reading_of
limits_end table c i h = rw (drop_of_length-le table h, add-zero)

pub ruleset limits_pass = (counts_none, small_below, limits_start, limits_step, limits_end)

-- ---- rules 6 to 8, one form of a table on

-- the number of a form by its place
abbrev number_of : std.Option ℕ → Option ℕ
number_of (Some i) = some (i + 1)
number_of None = none

module _ (rule m : ℕ) where
  abbrev breaking_code : ℕ → Bool
  breaking_code w = breaks rule m (form_at w)

  breaking_place : (table : List ℕ) (i : ℕ) → breaking rule m (i + 1) (map form_at table) ≡ number_of (position_from breaking_code i table)
  unfolding breaking
  breaking_place [] i = refl
  breaking_place (w ∷ ws) i = rw (number-next i, breaking_place ws (i + 1)) (go (breaking_code w) (position_from breaking_code (i + 1) ws))
    where
      go : (b : Bool) (later : std.Option ℕ) → cond b (some (i + 1)) (number_of later) ≡ number_of (cond b (Some i) later)
      go true later = refl
      go false later = refl

  module _ (table : List ℕ) (n : ℕ) (h : m ≡ count_if is_proc (table_forms table)) where
    first_breaking : breaking_form rule (table_forms table) ≡ number_of (position breaking_code table)
    unfolding breaking_form
    first_breaking = rw (← h, breaking_place table 0, ← position_from-zero breaking_code table)

    pub breaking_found : (i : ℕ) → Some i ≡ position breaking_code table → Err (refusal rule (i + 1)) ≡ reading_of (refused_at rule (breaking_form rule (table_forms table))) n
    unfolding reading_of
    breaking_found i e = rw (first_breaking, ← e)

    pub breaking_none : None ≡ position breaking_code table → Ok n ≡ reading_of (refused_at rule (breaking_form rule (table_forms table))) n
    unfolding reading_of
    breaking_none e = rw (first_breaking, ← e)

-- ---- the rules one after the other: the first that refuses gives the answer, behind a `?`

pub rule_refuses : (a b : Option Refusal) (k n : ℕ) (x : Refusal) → reading_of a n ≡ Err x → reading_of (or_else a b) k ≡ Err x
unfolding reading_of or_else
rule_refuses none b k n x e = cc
rule_refuses (some w) b k n x e = e

pub rule_passes : (a b : Option Refusal) (k n m : ℕ) → reading_of a n ≡ Ok m → reading_of (or_else a b) k ≡ reading_of b k
unfolding reading_of or_else
rule_passes none b k n m e = refl
rule_passes (some w) b k n m e = cc

pub passed_count : (a : Option Refusal) (n m : ℕ) → reading_of a n ≡ Ok m → reading_of a n ≡ Ok n
unfolding reading_of
passed_count none n m e = refl
passed_count (some w) n m e = cc

pub ruleset in_order = (rule_refuses, rule_passes, passed_count)

-- the same, of an answer in a variable
pub first-refuses : (a b : Option Refusal) (q : Result ℕ Refusal) (n : ℕ) (x : Refusal) → q ≡ reading_of a n → q ≡ Err x → q ≡ reading_of (or_else a b) n
first-refuses a b q n x e g = g ∙ sym (rule_refuses a b n n x (sym e ∙ g))

pub first_passes : (a b : Option Refusal) (q r : Result ℕ Refusal) (n m : ℕ) → q ≡ reading_of a n → q ≡ Ok m → r ≡ reading_of b n → r ≡ reading_of (or_else a b) n
first_passes a b q r n m e g h = h ∙ sym (rule_passes a b n n m (sym e ∙ g))
