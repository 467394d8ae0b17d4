-- The lines are right as text: reports assembled from them are, byte for byte, the quoted ones. Case B's is the report that 01 prints; the others have the lines that it
-- lacks. Computed.
use Prim.Native.Nat.{ℕ, ◌+◌, ◌^◌}
use Prim.Native.String.{String}
use mathlib.Core.Bool.{Bool, true, ◌&&◌}
use mathlib.Core.List.{List, [], ◌∷◌, ◌++◌}
use lib.Dec.{T}
use Rattle.laws.specs.Bytes.{bytes, equal}
use Rattle.laws.specs.Mask.{bit}
use Rattle.semantics.specs.Pairs.{pair_of}
use Rattle.semantics.specs.HoldsOnly.{as_record}
use Rattle.report_lines.specs.Lines.{digits_in, digits, members, report_open, free_line, deadlock_open, closing}
use Rattle.report_lines.specs.Lines.{proc_open, refused_line, wanted_text, held_text, shared_text, had_text, pair_form, pair_line, stuck_line, step_line, lines_of, proc_lines, deadlock_lines}

pub record Example : Type 0 where
  pub lines : List ℕ
  pub text : String

-- B, A, "with procedure 9 .. refused 9, line 37", and numbers of several digits: all threads stuck, the locks 1, 10 and 31 held, a line's number of 5 digits; then
-- shares, a lock had both ways, a wish to hold what is shared
unfoldable pub examples : List Example
examples =
    record {
      lines = report_open ++ proc_lines 0 (as_record 2 ∷ as_record 128 ∷ as_record 161 ∷ []) ++ proc_lines 1 (as_record 2 ∷ as_record 129 ∷ as_record 192 ∷ []) ++ free_line ++ closing;
      text = "(report\n(proc 0\n(pair 2)\n(pair 0 2)\n(pair 1 0 2)\n)\n(proc 1\n(pair 2)\n(pair 1 2)\n(pair 0 1 2)\n)\n(free)\n)\n";
    }
    ∷ record {
      lines = report_open ++ proc_lines 0 (as_record 0 ∷ as_record 33 ∷ []) ++ proc_lines 1 (as_record 1 ∷ as_record 64 ∷ []) ++ deadlock_lines 3 (0 ∷ 1 ∷ []) ++ closing;
      text = "(report\n(proc 0\n(pair 0)\n(pair 1 0)\n)\n(proc 1\n(pair 1)\n(pair 0 1)\n)\n(deadlock\n(stuck 0 1)\n(step 0 0)\n(step 1 0)\n)\n)\n";
    }
    ∷ record { lines = report_open ++ refused_line 9 37 ++ closing; text = "(report\n(refused 9 37)\n)\n" }
    ∷ record {
      lines = proc_open 63 ++ pair_line (as_record 68719509582) ++ stuck_line 63 ++ step_line 21 ++ refused_line 10 30207;
      text = "(proc 63\n(pair 14 1 10 31)\n(stuck 0 1 2 3 4 5)\n(step 5 2)\n(refused 10 30207)\n";
    }
    ∷ record {
      lines = pair_line (pair_of (2 ^ 35 + 2 ^ 5 + 2 ^ 3) 7) ++ pair_line (pair_of (2 ^ 31 + 2 ^ 30) 62) ++ pair_line (pair_of 0 0);
      text = "(pair 7s 3 3s 5s)\n(pair 30 30s 31s)\n(pair 0s)\n";
    }
    ∷ []

unfoldable pub right : List Example → Bool
right [] = true
right (e ∷ es) = equal e.lines (bytes e.text) && right es

pub examples-right : T (right examples)
unfolding examples right equal bit digits_in digits members report_open free_line deadlock_open closing proc_open refused_line wanted_text held_text shared_text had_text pair_form pair_line stuck_line step_line lines_of proc_lines deadlock_lines
examples-right = tt
