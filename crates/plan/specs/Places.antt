-- Rule 4 as the grammar has it: forms that are a plan's, forms with which a plan begins, the first form without a place, forms that end too early. 01, rule 4.
use Rattle.std.specs.Prelude.{ℕ, ◌+◌, ◌-◌, ◌≤◌, List, ◌++◌, ◌≡◌, length, take}
use Rattle.text.specs.declared.Form.{Form}
use Rattle.semantics.specs.Plan.{LockPlan}
use Rattle.plan.specs.Grammar.{forms, Grammatical}

-- forms that are those of a plan
pub record IsPlan (fs : List Form) : Type 0 where
  pub plan : LockPlan
  pub grammatical : Grammatical plan
  pub written : fs ≡ forms plan

-- forms with which a plan begins
abbrev pub Begins : List Form → Type 0
Begins fs = (gs : List Form) × IsPlan (fs ++ gs)

-- "A line stands where the text's structure has no place for it (first such line)": with the forms before form n a plan begins, with it none
pub record NoPlace (fs : List Form) (n : ℕ) : Type 0 where
  pub from_one : 1 ≤ n
  pub present : n ≤ length fs
  pub before : Begins (take (n - 1) fs)
  pub with_it : Begins (take n fs) → ⊥

-- "or the text ends too early (one more than the last line)": a plan begins so, and the forms are no plan yet. n is the number behind the last form's; `line_of` gives its line
pub record EndsEarly (fs : List Form) (n : ℕ) : Type 0 where
  pub number : n ≡ length fs + 1
  pub begun : Begins fs
  pub incomplete : IsPlan fs → ⊥
