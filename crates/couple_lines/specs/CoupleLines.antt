-- What the program `crossings` prints of two threads of a text: `(cross T U N`, N the number of couples, a line for each couple in order, `)`; of a text that is refused, or of
-- threads that are not there or equal, `(refused R L)` alone. The words are our own: 02 has none; a pair is written as in the report, without its line end.
use Rattle.std.specs.Prelude.{ℕ, ◌+◌, ◌*◌, cond, length}
use mathlib.Core.List.{List, [], ◌∷◌, ◌++◌, map, flat_map}
use Rattle.limits.specs.Limits.{max_pairs}
use Rattle.laws.specs.Bytes.{bytes}
use Rattle.plan.specs.Rules.{plan_of, crossings_refusal}
use Rattle.report_lines.specs.Lines.{digits, closing, pair_form, pair_form_room, unless_refused}
use Rattle.couples.specs.Couples.{Couple, couple, crosses, couples_with, couples_of, couples}

-- `(cross T U N`: two threads, by their numbers, and how many couples they have
unfoldable pub cross_head : ℕ → ℕ → ℕ → List ℕ
cross_head t u n = bytes "(cross " ++ digits t ++ (bytes " " ++ digits u) ++ (bytes " " ++ digits n)

-- with its line end, where the couples follow
unfoldable pub cross_open : ℕ → ℕ → ℕ → List ℕ
cross_open t u n = cross_head t u n ++ bytes "\n"

-- and ended, where they do not
unfoldable pub cross_line : ℕ → ℕ → ℕ → List ℕ
cross_line t u n = cross_head t u n ++ closing

-- `(couple (pair L ..) (pair L ..))`: the pair of the first thread, then that of the second, each as the report has it
unfoldable pub couple_line : Couple → List ℕ
couple_line c = bytes "(couple " ++ pair_form c.first ++ (bytes " " ++ pair_form c.second) ++ bytes ")\n"

-- the lines of couples, in order
abbrev pub couple_lines : List Couple → List ℕ
couple_lines cs = flat_map couple_line cs

-- what is printed of the threads t and u
unfoldable pub printed_couples : List ℕ → ℕ → ℕ → List ℕ
printed_couples text t u =
    unless_refused (crossings_refusal text t u) (cross_open t u (length (couples (plan_of text) t u)) ++ couple_lines (couples (plan_of text) t u) ++ closing)

-- ---- part by part

-- the line of the couple of two pairs, if they cross
unfoldable pub crossing_line : ℕ → ℕ → List ℕ
crossing_line v w = cond (crosses v w) (couple_line (couple v w)) []

-- the couples of one pair with those of a list
unfoldable pub couples_part : List ℕ → ℕ → List ℕ
couples_part ws v = couple_lines (couples_with v ws)

-- the parts that are printed, in order, of the threads t and u with the pair lists vs and ws: joined they are what is printed, where nothing is refused (theorem `printed-joined`)
unfoldable pub couples_parts : ℕ → ℕ → List ℕ → List ℕ → List (List ℕ)
couples_parts t u vs ws = cross_open t u (length (couples_of vs ws)) ∷ (map (couples_part ws) vs ++ (closing ∷ []))

-- ---- bytes that suffice: a machine number has at most 20 digits

-- for `(cross T U N`
abbrev pub cross_head_room : ℕ
cross_head_room = 7 + 20 + 1 + 20 + 1 + 20

-- with what ends it
abbrev pub cross_line_room : ℕ
cross_line_room = cross_head_room + 2

-- for a couple
abbrev pub couple_line_room : ℕ
couple_line_room = 8 + pair_form_room + 1 + pair_form_room + 2

-- for a part
abbrev pub couples_part_room : ℕ
couples_part_room = max_pairs * couple_line_room
