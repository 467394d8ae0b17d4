-- What it means that a text breaks a rule, and at which line: said of the text, and of the forms or the plan that its lines spell. A text keeps the rules 2 to
-- 9, 12 and 13 exactly when its plan is not refused (theorems `accepted-exactly`, `unbroken-exactly`), and (r, l) is the refusal exactly when rule r is the first one broken,
-- at line l (`refused-exactly`). Each rule is stated for texts that break none before it, as `FirstBroken` asks: the numbers of brackets count on rule 4, sizes on rules 7 and 12,
-- their sum on rule 8 too. 01, "Rules, in checking order".
use Rattle.std.specs.Prelude.{ℕ, ◌+◌, ◌<◌, ◌≤◌, List, [], ◌∷◌, ◌++◌, false, ◌⊎◌, ◌≡◌, length}
use Rattle.limits.specs.Limits.{max_bytes, max_procs, max_statements, max_threads, max_brackets, lock_count, max_size, max_pair_words}
use Rattle.text.specs.declared.Form.{Form}
use Rattle.text.specs.declared.Form.TheVariants.{Proc, Thread, Call, Hold, Share}
use Rattle.text.specs.Forms.{IsForm, is_proc, is_thread, is_statement, is_bracket, is_close}
use Rattle.text.specs.Lines.{split, ended_line, unindented, passed_over, IsText}
use Rattle.semantics.specs.Plan.{LockPlan}
use Rattle.semantics.specs.Calls.{Recursive, Reachable, Idle}
use Rattle.semantics.specs.Sizes.{size_of, thread_sizes}
use Rattle.plan.specs.Grammar.{forms, Grammatical}
use Rattle.plan.specs.Places.{NoPlace, EndsEarly}
use Rattle.plan.specs.Limits.{count_if}
use Rattle.plan.specs.Settled.{Settled}
use Rattle.demands.specs.Lines.{First, FormWhere, InFile}

-- ---- of the lent buffer and the bytes

-- 1: "The lent buffer is shorter than .. (line 0)." 02, change 9: "The pair buffer is 1,533 words"; change 1, of the tidy copy: "The output must hold 32,768 bytes,
-- otherwise rule 1 applies."; change 8: "into an output as for the tidy one"
abbrev pub TooShort : ℕ → ℕ → ℕ → Type 0
TooShort needed lent n = (lent < needed) × (n ≡ 0)

-- 2: "The text has more than 32,768 bytes (line 0)."
abbrev pub TooLong : List ℕ → ℕ → Type 0
TooLong text n = (max_bytes < length text) × (n ≡ 0)

-- ---- of the lines

-- 3: "Some line is none of the forms above". 02, change 1: "Rule 3 judges what remains of each line" that is not passed over
pub record NoForm (text : List ℕ) (n : ℕ) : Type 0 where
  pub from_one : 1 ≤ n
  pub present : n ≤ length (split text).ended
  pub judged : passed_over (ended_line text n) ≡ false
  pub unknown : (f : Form) → IsForm (unindented (ended_line text n)) f → ⊥

-- "or the last is not ended"; 02, change 1: "a last line not ended breaks it even if passed over"
pub record NotEnded (text : List ℕ) (n : ℕ) : Type 0 where
  pub last : n ≡ length (split text).ended + 1
  pub bytes : 0 < length (split text).tail

abbrev pub Unreadable : List ℕ → ℕ → Type 0
Unreadable text n = NoForm text n ⊎ NotEnded text n

-- ---- of the forms, which are named by their numbers, from 1

-- P, of the forms that the text's lines spell, and of a form's number
pub record OfForms (P : List Form → ℕ → Type 0) (text : List ℕ) (n : ℕ) : Type 0 where
  pub forms : List Form
  pub written : IsText text forms
  pub broken : P forms n

-- "first such line": the first form of which P holds. P says something of all forms, of those before it, and of itself
abbrev pub FirstForm : (List Form → List Form → Form → Type 0) → List ℕ → ℕ → Type 0
FirstForm P text n = OfForms (λ fs. First (FormWhere (P fs) fs)) text n

-- 4: "A line stands where the text's structure has no place for it (first such line), or the text ends too early (one more than the last line)."
abbrev pub Misplaced : List Form → ℕ → Type 0
Misplaced fs n = NoPlace fs n ⊎ EndsEarly fs n

-- "16 brackets of hold, loop, either, one and two open together in a procedure"; 02, change 9: a share is "one bracket in rule 5". Of those opened behind the last `(proc`, more
-- than 16 are not closed again
pub record TooDeep (fs : List Form) : Type 0 where
  pub earlier : List Form
  pub inside : List Form
  pub split : fs ≡ earlier ++ Proc ∷ inside
  pub last : count_if is_proc inside ≡ 0
  pub unclosed : count_if is_close inside + max_brackets < count_if is_bracket inside

-- 5: "There are more than 64 procedures, 1,024 statements, 6 threads, or 16 brackets .. (first line past a limit)", among the forms up to one
pub data PastLimit (fs : List Form) : Type 0 where
  procedures : max_procs < count_if is_proc fs → PastLimit fs
  statements : max_statements < count_if is_statement fs → PastLimit fs
  threads : max_threads < count_if is_thread fs → PastLimit fs
  brackets : TooDeep fs → PastLimit fs

-- 6: "A hold names a lock above 31 (first such line)." 02, change 9, of a share: "with rule 6 for its lock"
pub record HighLock (f : Form) : Type 0 where
  pub lock : ℕ
  pub takes : (f ≡ Hold lock) ⊎ (f ≡ Share lock)
  pub above : lock_count ≤ lock

-- 7, by 02, change 2: "rule 7 now means a call of a procedure that is not there"; 01: "(first such line)"
pub record AbsentCallee (fs : List Form) (f : Form) : Type 0 where
  pub callee : ℕ
  pub call : f ≡ Call callee
  pub absent : count_if is_proc fs ≤ callee

-- 8: "A thread names a procedure that is not there (first such line)."
pub record AbsentProc (fs : List Form) (f : Form) : Type 0 where
  pub proc : ℕ
  pub thread : f ≡ Thread proc
  pub absent : count_if is_proc fs ≤ proc

-- ---- of the plan

-- P, of the plan whose forms the text's lines spell, and of a form's number or of 0, no line
pub record OfPlan (P : LockPlan → ℕ → Type 0) (text : List ℕ) (n : ℕ) : Type 0 where
  pub plan : LockPlan
  pub grammatical : Grammatical plan
  pub written : IsText text (forms plan)
  pub broken : P plan n

-- the `(proc` of procedure p: "Procedures are numbered from 0 in text order"
abbrev pub BeginsProc : ℕ → List Form → Form → Type 0
BeginsProc p before f = (f ≡ Proc) × (count_if is_proc before ≡ p)

-- "`(proc` line of the lowest such", of the procedures of which P holds
pub record LowestProc (P : LockPlan → ℕ → Type 0) (plan : LockPlan) (n : ℕ) : Type 0 where
  pub proc : ℕ
  pub present : proc < length plan.procs
  pub lowest : First (P plan) proc
  pub begins : FormWhere (BeginsProc proc) (forms plan) n

-- 12, 02, change 2: "a procedure that reaches itself, .. names the `(proc` line of the lowest such": `Recursive`

-- 13, 02, change 6: "a procedure that no thread names or reaches through calls", "naming the first idle procedure's `(proc` line": `Idle`

-- 9: "Some procedure's size exceeds 1,024"
abbrev pub TooLarge : LockPlan → ℕ → Type 0
TooLarge plan p = max_size < size_of plan.procs p

-- 1, for a schedule, by 02, change 4: "fewer entries than this sum", that of the threads' sizes; 01: "(line 0)"
abbrev pub TooFewEntries : ℕ → LockPlan → ℕ → Type 0
TooFewEntries lent plan = TooShort (thread_sizes plan) lent

-- 11: "The pairs of a procedure that is not there are requested (line 0)."
abbrev pub AbsentRequest : ℕ → LockPlan → ℕ → Type 0
AbsentRequest p plan n = (length plan.procs ≤ p) × (n ≡ 0)

-- 14, 02, change 7: "a thread not there or the same one twice"; it names no line
abbrev pub NoTwoThreads : ℕ → ℕ → LockPlan → ℕ → Type 0
NoTwoThreads t u plan n = ((length plan.threads ≤ t) ⊎ (length plan.threads ≤ u) ⊎ (t ≡ u)) × (n ≡ 0)

-- ---- the rules in checking order

-- a rule: its number, and that it is broken at a line or, of the rules that name a form, at a form's number
pub record Rule : Type 1 where
  pub number : ℕ
  pub broken : ℕ → Type 0

abbrev pub rule : ℕ → (ℕ → Type 0) → Rule
rule n broken = record { number = n; broken = broken }

-- the rules that name a form by its number: 4 to 8, 12, which "follows rule 8", 13, which "stands after 12 and before 9", and 9
unfoldable pub form_rules : List ℕ → List Rule
form_rules text =
    rule 4 (OfForms Misplaced text) ∷
    rule 5 (FirstForm (λ fs before f. PastLimit (before ++ f ∷ [])) text) ∷
    rule 6 (FirstForm (λ fs before f. HighLock f) text) ∷
    rule 7 (FirstForm (λ fs before f. AbsentCallee fs f) text) ∷
    rule 8 (FirstForm (λ fs before f. AbsentProc fs f) text) ∷
    rule 12 (OfPlan (LowestProc (λ plan. Recursive plan.procs)) text) ∷
    rule 13 (OfPlan (LowestProc Idle) text) ∷
    rule 9 (OfPlan (LowestProc TooLarge) text) ∷
    []

-- rules that name a form by its number, each at the line in the file that goes with that number
unfoldable pub rules_in_file : List ℕ → List Rule → List Rule
rules_in_file text [] = []
rules_in_file text (q ∷ qs) = rule q.number (InFile text q.broken) ∷ rules_in_file text qs

-- the plan's rules. For the space that a schedule needs these are 02's, change 4: "every rule on it up to and with 9, in checking order". Of rule 10, change 5: "take it out,
-- its number unused"
unfoldable pub plan_rules : List ℕ → List Rule
plan_rules text = rule 2 (TooLong text) ∷ rule 3 (First (Unreadable text)) ∷ rules_in_file text (form_rules text)

-- the verdict's, where so many entries are lent. 02, change 5: "the schedule buffer is now tested last of the plan's rules"
unfoldable pub verdict_rules : List ℕ → ℕ → List Rule
verdict_rules text lent = plan_rules text ++ rule 1 (OfPlan (TooFewEntries lent) text) ∷ []

-- the pair list's, of procedure p, where so many words are lent: "Rule 11 is for the pair list only."
unfoldable pub pairs_rules : List ℕ → ℕ → ℕ → List Rule
pairs_rules text p lent = rule 1 (TooShort max_pair_words lent) ∷ (plan_rules text ++ rule 11 (OfPlan (AbsentRequest p) text) ∷ [])

-- those of a copy, tidy or straightened, where so many bytes are lent
unfoldable pub copy_rules : List ℕ → ℕ → List Rule
copy_rules text lent = rule 1 (TooShort max_bytes lent) ∷ plan_rules text

-- those of the crossings of the threads t and u: 14 "comes after every rule of the plan"
unfoldable pub crossings_rules : List ℕ → ℕ → ℕ → List Rule
crossings_rules text t u = plan_rules text ++ rule 14 (OfPlan (NoTwoThreads t u) text) ∷ []

-- a rule that no line breaks. One that speaks of forms or of a plan is so kept by a text whose lines spell none: an earlier rule is broken there
abbrev pub Unbroken : Rule → Type 0
Unbroken q = (n : ℕ) → q.broken n → ⊥

-- no rule of a list is broken
unfoldable pub AllUnbroken : List Rule → Type 0
AllUnbroken [] = Unit {0}
AllUnbroken (q ∷ qs) = Unbroken q × AllUnbroken qs

-- "Each rule is tested over the whole text before the next": the rule r is broken at line l, and none before it is broken
unfoldable pub FirstBroken : List Rule → ℕ → ℕ → Type 0
FirstBroken [] r l = ⊥
FirstBroken (q ∷ qs) r l = ((q.number ≡ r) × q.broken l) ⊎ (Unbroken q × FirstBroken qs r l)

-- ---- a text that keeps the rules

-- The text is short and its lines spell a plan that keeps what the rules say: `Settled` has those of 4 to 8, then 12, 13 and 9.
pub record AcceptedText (text : List ℕ) : Type 0 where
  pub short : length text ≤ max_bytes
  pub plan : LockPlan
  pub written : IsText text (forms plan)
  pub settled : Settled plan
  pub acyclic : (p : ℕ) → Recursive plan.procs p → ⊥
  pub reachable : (p : ℕ) → p < length plan.procs → Reachable plan p
  pub sizes : (p : ℕ) → p < length plan.procs → size_of plan.procs p ≤ max_size
