-- Of two threads there are as many parts as the first has pairs and two more, so the loop prints every part, and stops behind the last. Joined they are what is to be printed.
use Prim.Native.Nat.{ℕ, ◌+◌, ◌*◌, ◌/◌, ◌≤◌}
use native.Mathlib.Omega.{arith}
use mathlib.Core.List.{List, flatten}
use mathlib.Core.Path.{◌≡◌, sym, ◌∙◌}
use lib.ListN.{length, take}
use Rattle.std.proofs.Common.{Result, Ok, Err}
use Rattle.text.specs.declared.Refusal.{Refusal}
use Rattle.plan.specs.Rules.{crossings_refusal}
use Rattle.report_lines.specs.Lines.{refused_line}
use Rattle.couples.specs.Records.{pairs_from}
use Rattle.couples.proofs.Records.{from-length}
use Rattle.couple_lines.specs.CoupleLines.{couples_parts, printed_couples}
use Rattle.couple_lines.proofs.Places.{parts_count}
use Rattle.couple_lines.proofs.Parts.{printed-joined}
use Rattle.crossing.specs.Crossed.{TextLists}
use Rattle.crossing.specs.declared.TwoLists.{TwoLists}
use Rattle.crossing.proofs.ThreadCouples.{both-refused, listed, first-is, second_is}
use Rattle.streams.specs.declared.Unwritten.{Unwritten}
use Rattle.streams.specs.Printing.{AllPrinted}
use Rattle.streams.proofs.Printing.{PrintedTo, parts_printed}

pub couples-printed : (t u : ℕ) (one ws : List ℕ) (k bytes : ℕ) → PrintedTo (couples_parts t u (pairs_from one) ws) k bytes → length one / 3 + 2 ≤ k
    → bytes ≡ length (flatten (couples_parts t u (pairs_from one) ws))
couples-printed t u one ws k bytes before h =
    parts_printed (couples_parts t u (pairs_from one) ws) k bytes before (omega (arith, from-length one, parts_count t u (pairs_from one) ws))

-- what is printed of the pair lists found in a text, or of the refusal, is what is to be printed of it
module _ (text : List ℕ) (t u : ℕ) (q : Result TwoLists Refusal) (one two : List ℕ) (f : TextLists text t u q one two) (r : Result ℕ Unwritten) where
  pub lists_printed : (l : TwoLists) → q ≡ Ok l → AllPrinted r (flatten (couples_parts t u (pairs_from (take (3 * l.first) one)) (pairs_from (take (3 * l.second) two))))
      → AllPrinted r (printed_couples text t u)
  lists_printed l g p =
      rw (first-is text t u q one two f l g, second_is text t u q one two f l g, printed-joined text t u (listed text t u q one two f l g).0) at p

  pub refusal-printed : (x : Refusal) → q ≡ Err x → AllPrinted r (refused_line x.rule x.line) → AllPrinted r (printed_couples text t u)
  unfolding printed_couples
  refusal-printed x g p = rw (both-refused (crossings_refusal text t u) _ _ x (sym g ∙ f.answer)) p
