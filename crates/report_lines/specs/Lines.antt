-- The lines of the report, byte for byte, and what the other programs print of a refused text. 01, "The report".
use Rattle.std.specs.Prelude.{ℕ, zero, suc, ◌+◌, ◌*◌, ◌/◌, ◌%◌, cond, List, [], ◌∷◌, ◌++◌, eqb, ltb}
use Rattle.std.proofs.Math.Option.{Option, none, some}
use Rattle.std.specs.Int.Bits.{bit_or}
use Rattle.limits.specs.Limits.{lock_count, mask_size}
use Rattle.laws.specs.Bytes.{bytes}
use Rattle.laws.specs.Mask.{in_mask}
use Rattle.semantics.specs.Pairs.{had_of, wanted_word}
use Rattle.text.specs.declared.Refusal.{Refusal}

-- "Numbers in plan texts are decimal", and so are those of the report, as case B has them: the digits of n, highest first, without a leading zero, if there are no more than k
unfoldable pub digits_in : ℕ → ℕ → List ℕ
digits_in zero n = []
digits_in (suc k) n = cond (ltb n 10) ((48 + n) ∷ []) (digits_in k (n / 10) ++ ((48 + n % 10) ∷ []))

-- right for every number, since n has fewer than n + 2 digits (theorems `digits-bytes`, `digits_value`, `digits_lead`)
unfoldable pub digits : ℕ → List ℕ
digits n = digits_in (suc n) n

-- the numbers below k that are in the mask m, ascending
unfoldable pub members : ℕ → ℕ → List ℕ
members zero m = []
members (suc k) m = members k m ++ cond (in_mask m k) (k ∷ []) []

-- the texts of the numbers of a list, in order
unfoldable pub lines_of : (ℕ → List ℕ) → List ℕ → List ℕ
lines_of line [] = []
lines_of line (x ∷ xs) = line x ++ lines_of line xs

-- a blank and the number
abbrev pub behind_blank : ℕ → List ℕ
behind_blank k = bytes " " ++ digits k

-- "The program prints `(report`"
unfoldable pub report_open : List ℕ
report_open = bytes "(report\n"

-- "`(free)`"
unfoldable pub free_line : List ℕ
free_line = bytes "(free)\n"

-- "`(deadlock`"
unfoldable pub deadlock_open : List ℕ
deadlock_open = bytes "(deadlock\n"

-- "`)`"
unfoldable pub closing : List ℕ
closing = bytes ")\n"

-- "`(proc P`"
unfoldable pub proc_open : ℕ → List ℕ
proc_open p = bytes "(proc " ++ digits p ++ bytes "\n"

-- "`(refused R L)` (rule, line)"
unfoldable pub refused_line : ℕ → ℕ → List ℕ
refused_line r l = bytes "(refused " ++ digits r ++ (bytes " " ++ digits l) ++ bytes ")\n"

-- what the programs `tidy`, `straight`, `slip` and `crossings` print of a text: what is given, and of a refused text, or of threads that rule 14 refuses, `(refused R L)` alone
abbrev pub unless_refused : Option Refusal → List ℕ → List ℕ
unless_refused none given = given
unless_refused (some x) given = refused_line x.rule x.line

-- `(pair L`, where x is the pair's third word: "with `s` after the number for each .. wanted share"
unfoldable pub wanted_text : ℕ → List ℕ
wanted_text x = bytes "(pair " ++ digits (x / 2) ++ cond (eqb (x % 2) 0) (bytes "s") []

-- a blank, the number of a lock and a mark, where a claim c is in the set m of claims
abbrev pub claimed_text : ℕ → ℕ → ℕ → List ℕ → List ℕ
claimed_text m c k mark = cond (in_mask m c) (behind_blank k ++ mark) []

-- a blank and lock k, where it is held in the set m of claims
unfoldable pub held_text : ℕ → ℕ → List ℕ
held_text m k = claimed_text m (k + lock_count) k []

-- where it is shared, "with `s` after the number"
unfoldable pub shared_text : ℕ → ℕ → List ℕ
shared_text m k = claimed_text m k k (bytes "s")

-- "a lock had both ways stands first plain, then with `s`"
abbrev pub lock_text : ℕ → ℕ → List ℕ
lock_text m k = held_text m k ++ shared_text m k

-- the locks that are had in the set m, by hold or by share
abbrev pub had_locks : ℕ → ℕ
had_locks m = bit_or (m / mask_size) (m % mask_size)

-- each of them, "lowest number first"
unfoldable pub had_text : ℕ → List ℕ
had_text m = lines_of (lock_text m) (members lock_count (had_locks m))

-- "A pair line is `(pair L` with the wanted lock. The held locks follow, lowest number first"; 02, change 9: "Pair lines print as before, with `s` after the number for each shared
-- lock or wanted share; a lock had both ways stands first plain, then with `s`."
unfoldable pub pair_form : ℕ → List ℕ
pair_form w = wanted_text (wanted_word w) ++ had_text (had_of w) ++ bytes ")"

-- with its line end
unfoldable pub pair_line : ℕ → List ℕ
pair_line w = pair_form w ++ bytes "\n"

-- "`(stuck T ..)` with thread numbers ascending", for a mask of threads
unfoldable pub stuck_line : ℕ → List ℕ
stuck_line m = bytes "(stuck" ++ lines_of behind_blank (members 64 m) ++ bytes ")\n"

-- "one `(step T C)` per entry (thread, choice)": an entry is the thread and 8 times the choice
unfoldable pub step_line : ℕ → List ℕ
step_line e = bytes "(step " ++ digits (e % 8) ++ (bytes " " ++ digits (e / 8)) ++ bytes ")\n"

-- "for each procedure `(proc P` with its pairs and `)`"
unfoldable pub proc_lines : ℕ → List ℕ → List ℕ
proc_lines p pairs = proc_open p ++ lines_of pair_line pairs ++ closing

-- "A deadlock is `(deadlock`, `(stuck T ..)` .., one `(step T C)` per entry (thread, choice), `)`."
unfoldable pub deadlock_lines : ℕ → List ℕ → List ℕ
deadlock_lines threads entries = deadlock_open ++ stuck_line threads ++ lines_of step_line entries ++ closing

-- ---- bytes that suffice for a line, whatever the numbers: a machine number has at most 20 digits, one of 8 bits 3, a member of a mask of 64 digits 2

-- for `(proc P`
abbrev pub proc_open_room : ℕ
proc_open_room = 6 + 20 + 1

-- for `(refused R L)`
abbrev pub refused_line_room : ℕ
refused_line_room = 9 + 3 + 1 + 20 + 2

-- for a lock that is had both ways, with blanks
abbrev pub lock_room : ℕ
lock_room = 3 + 4

-- for `(pair L`
abbrev pub wanted_room : ℕ
wanted_room = 6 + 2 + 1

-- for `(pair L ..)`
abbrev pub pair_form_room : ℕ
pair_form_room = wanted_room + lock_count * lock_room + 1

-- with its line end
abbrev pub pair_line_room : ℕ
pair_line_room = pair_form_room + 1

-- for `(stuck T ..)`, with a blank before each thread
abbrev pub stuck_line_room : ℕ
stuck_line_room = 6 + 64 * 3 + 2

-- for `(step T C)`: an entry of 16 bits has a thread of one digit and a choice of at most 4
abbrev pub step_line_room : ℕ
step_line_room = 6 + 1 + 1 + 4 + 2

-- for a procedure with n pairs
abbrev pub proc_lines_room : ℕ → ℕ
proc_lines_room n = proc_open_room + n * pair_line_room + 2

-- for a deadlock with n entries
abbrev pub deadlock_room : ℕ → ℕ
deadlock_room n = 10 + stuck_line_room + n * step_line_room + 2
