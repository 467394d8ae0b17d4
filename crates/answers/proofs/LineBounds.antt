-- A refusal's numbers are small: the rule is one of 1 to 9 and 11 to 14, and the line is 0 or at most one more than the file has lines, of which there are no more than bytes.
-- Of the rules over the forms this asks nothing but their numbers: every line that `line_of` gives is such a line.
use Prim.Native.Nat.{ℕ, suc, ◌+◌, ◌^◌, ◌<◌, ◌≤◌}
use native.Mathlib.Omega.{arith}
use mathlib.Core.Bool.{Bool, true, false, cond}
use mathlib.Core.Path.{◌≡◌, refl, subst}
use mathlib.Core.List.{List, [], ◌∷◌}
use mathlib.Core.Option.{Option, none, some, none-ne-some, some-injective, or_else}
use lib.ListN.{length}
use lib.Dec.{ltb, eqb, leb}
use Rattle.std.proofs.Common as std
use Rattle.limits.specs.Limits.{max_bytes, max_pair_words}
use Rattle.laws.specs.Choice.{pick}
use Rattle.text.specs.declared.Form.{Form}
use Rattle.text.specs.declared.Refusal.{Refusal}
use Rattle.text.specs.Kinds.{kind_of}
use Rattle.text.specs.Lines.{refusal, push_byte, split, unindented, passed_over, forms_of, unknown_or, unreadable, unreadable_line, line_of}
use Rattle.text.proofs.FormLines.{line_of-most}
use Rattle.semantics.specs.Sizes.{thread_sizes}
use Rattle.plan.specs.Grammar.{plan_in}
use Rattle.plan.specs.Structure.{misplaced_form}
use Rattle.plan.specs.Limits.{past_limit_form, breaking_form}
use Rattle.plan.specs.Rules.{refused_at, refused_if, too_long, lines_refusal, references_refusal, grammar_refusal, proc_form, lowest_from, proc_refusal, recursive, idle, too_large}
use Rattle.plan.specs.Rules.{forms_refusal, in_file, plan_of, plan_refusal, too_few_entries, verdict_refusal, pairs_refusal, copy_refusal, are_no_two, crossings_refusal}
use Rattle.plan.proofs.AcceptedTable.{short-enough, lines-short}

-- ---- lines

-- a named line is at most n
abbrev AtMost : ℕ → Option ℕ → Type 0
AtMost n o = (k : ℕ) → o ≡ some k → k ≤ n

named : (n k : ℕ) → n ≤ k → AtMost k (some n)
named n k h m e = omega (arith, some-injective n m e)

unnamed : (k : ℕ) → AtMost k none
unnamed k m e = absurd (none-ne-some m e)

lines-few : (l : List ℕ) → length (split l).ended ≤ length l
unfolding split
lines-few [] = omega arith
lines-few (b ∷ bs) = go (eqb b 10) (split bs).ended (lines-few bs)
  where
    go : (t : Bool) (ls : List (List ℕ)) → length ls ≤ length bs
        → length (cond t (record { ended = [] ∷ ls; tail = (split bs).tail }) (push_byte b ls (split bs).tail)).ended ≤ suc (length bs)
    go true ls h = omega arith
    go false [] h = omega arith
    go false (l ∷ ls) h = omega arith

-- rule 3
unreadable-most : (ls : List (List ℕ)) (tail : List ℕ) (line n : ℕ) → line + length ls ≤ n → AtMost n (unreadable line ls tail)
unfolding unreadable pick
unreadable-most [] [] line n h = unnamed n
unreadable-most [] (b ∷ bs) line n h = named line n (omega arith)
unreadable-most (l ∷ ls) tail line n h = go (passed_over l) (kind_of (unindented l)) (unreadable-most ls tail (suc line) n (omega arith))
  where
    o : Option ℕ
    o = unreadable (suc line) ls tail

    go : (b : Bool) (k : std.Option Form) → AtMost n o → AtMost n (pick b o (unknown_or line k o))
    go true k later = later
    go false (std.Some f) later = later
    go false std.None later = named line n (omega arith)

-- ---- the rules together

-- the numbers of a refusal
pub record Numbers (w : Refusal) : Type 0 where
  pub rule : w.rule < 256
  pub line : w.line < 2 ^ 40

-- P, of the refusal if there is one
abbrev If : (Refusal → Type 0) → Option Refusal → Type 0
If P o = (w : Refusal) → o ≡ some w → P w

if_none : (P : Refusal → Type 0) → If P none
if_none P w e = absurd (none-ne-some w e)

if_some : (P : Refusal → Type 0) (r l : ℕ) → P (refusal r l) → If P (some (refusal r l))
if_some P r l h w e = subst P (some-injective (refusal r l) w e) h

-- b counts only where a refuses nothing
if_or : {P : Refusal → Type 0} (a b : Option Refusal) → If P a → (a ≡ none → If P b) → If P (or_else a b)
unfolding or_else
if_or none b x y = y refl
if_or (some w) b x y = x

abbrev SmallRule : Refusal → Type 0
SmallRule w = w.rule < 256

small_at : (rule : ℕ) (o : Option ℕ) → rule < 256 → If SmallRule (refused_at rule o)
small_at rule none h = if_none SmallRule
small_at rule (some n) h = if_some SmallRule rule n h

bounded_at : (rule n : ℕ) (o : Option ℕ) → rule < 256 → n < 2 ^ 40 → AtMost n o → If Numbers (refused_at rule o)
bounded_at rule n none h k m = if_none Numbers
bounded_at rule n (some l) h k m = if_some Numbers rule l (record { rule = h; line = omega (arith, m l refl) })

bounded_if : (rule : ℕ) (b : Bool) → rule < 256 → If Numbers (refused_if rule b)
bounded_if rule true h = if_some Numbers rule 0 (record { rule = h; line = omega arith })
bounded_if rule false h = if_none Numbers

module _ (fs : List Form) where
  small-proc : (rule : ℕ) (test : ℕ → Bool) → rule < 256 → If SmallRule (proc_refusal rule fs test)
  unfolding proc_refusal
  small-proc rule test h = small_at rule (proc_form fs (lowest_from test 0 (length (plan_in fs).procs))) h

  forms-small : If SmallRule (forms_refusal fs)
  unfolding forms_refusal grammar_refusal references_refusal recursive idle too_large
  forms-small =
      let by : (rule : ℕ) → rule < 256 → If SmallRule (refused_at rule (breaking_form rule fs)) = λ rule h. small_at rule (breaking_form rule fs) h in
      if_or _ _
      (if_or _ _ (small_at 4 (misplaced_form fs) (omega arith))
      (λ _. if_or _ _ (small_at 5 (past_limit_form fs) (omega arith)) (λ _. if_or _ _ (by 6 (omega arith)) (λ _. if_or _ _ (by 7 (omega arith)) (λ _. by 8 (omega arith))))))
      (λ _. if_or _ _ (if_or _ _ (small-proc 12 _ (omega arith)) (λ _. small-proc 13 _ (omega arith))) (λ _. small-proc 9 _ (omega arith)))

module _ (text : List ℕ) where
  lines_bounded : length text ≤ max_bytes → If Numbers (refused_at 3 (unreadable_line text))
  unfolding unreadable_line
  lines_bounded short = bounded_at 3 (max_bytes + 1) (unreadable 1 (split text).ended (split text).tail) (omega arith) (omega arith)
      (unreadable-most (split text).ended (split text).tail 1 (max_bytes + 1) (omega (arith, lines-few text)))

  bounded_file : length text ≤ max_bytes → (o : Option Refusal) → If SmallRule o → If Numbers (in_file text o)
  bounded_file short none s = if_none Numbers
  bounded_file short (some x) s = if_some Numbers x.rule (line_of text x.line)
      (record { rule = s x refl; line = omega (arith, line_of-most text x.line, lines-few text) })

  pub plan_bounded : (w : Refusal) → plan_refusal text ≡ some w → Numbers w
  unfolding plan_refusal lines_refusal too_long
  plan_bounded =
      if_or _ _ (if_or _ _ (bounded_if 2 (ltb max_bytes (length text)) (omega arith)) (λ e. lines_bounded (short-enough text e)))
      (λ e. bounded_file (lines-short text e) (forms_refusal (forms_of text)) (forms-small (forms_of text)))

pub pairs_bounded : (text : List ℕ) (p lent : ℕ) (w : Refusal) → pairs_refusal text p lent ≡ some w → Numbers w
unfolding pairs_refusal
pairs_bounded text p lent =
    if_or _ _ (bounded_if 1 (ltb lent max_pair_words) (omega arith))
    (λ _. if_or _ _ (plan_bounded text) (λ _. bounded_if 11 (leb (length (plan_of text).procs) p) (omega arith)))

pub verdict_bounded : (text : List ℕ) (lent : ℕ) (w : Refusal) → verdict_refusal text lent ≡ some w → Numbers w
unfolding verdict_refusal too_few_entries
verdict_bounded text lent = if_or _ _ (plan_bounded text) (λ _. bounded_if 1 (ltb lent (thread_sizes (plan_of text))) (omega arith))

pub copy_bounded : (text : List ℕ) (lent : ℕ) (w : Refusal) → copy_refusal text lent ≡ some w → Numbers w
unfolding copy_refusal
copy_bounded text lent = if_or _ _ (bounded_if 1 (ltb lent max_bytes) (omega arith)) (λ _. plan_bounded text)

pub crossings_bounded : (text : List ℕ) (t u : ℕ) (w : Refusal) → crossings_refusal text t u ≡ some w → Numbers w
unfolding crossings_refusal
crossings_bounded text t u = if_or _ _ (plan_bounded text) (λ _. bounded_if 14 (are_no_two (length (plan_of text).threads) t u) (omega arith))
