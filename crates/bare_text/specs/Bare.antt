-- A plan's text in bare form. 02, change 1: "We also want a writer that gives any accepted plan in document 01's bare form".
use Rattle.std.specs.Prelude.{ℕ, List}
use Rattle.text.specs.Lines.{text_of}
use Rattle.semantics.specs.Plan.{LockPlan}
use Rattle.plan.specs.Grammar.{forms}

-- a plan "in document 01's bare form": one form a line, no blanks but those of 01, no line that is passed over
unfoldable pub bare_text : LockPlan → List ℕ
bare_text plan = text_of (forms plan)
