-- The wiring table, byte for byte: the rows of a Markdown table. 02, change 3: "Field staff compare a lock's bit with the wiring sheet."
use Rattle.std.specs.Prelude.{ℕ, zero, suc, ◌+◌, ◌*◌, ◌^◌, List, [], ◌++◌}
use Rattle.io.specs.Digits.{last_digits as digits_in_base}
use Rattle.limits.specs.Limits.{lock_count}
use Rattle.laws.specs.Bytes.{bytes}
use Rattle.report_lines.specs.Lines.{digits}

-- as many hexadecimal digits as a mask of 32 binary ones has
abbrev pub hex_count : ℕ
hex_count = 8

-- the last eight hexadecimal digits of a number, highest first: all of them where it is a mask of locks
unfoldable pub hex_digits : ℕ → List ℕ
hex_digits n = digits_in_base 16 hex_count n

-- a lock, its bit, "2 to the power k", and the bit in hexadecimal
unfoldable pub wiring_row : ℕ → List ℕ
wiring_row k = bytes "| " ++ digits k ++ (bytes " | " ++ digits (2 ^ k)) ++ (bytes " | 0x" ++ hex_digits (2 ^ k)) ++ bytes " |\n"

-- the rows of the locks below n, ascending
unfoldable pub wiring_rows : ℕ → List ℕ
wiring_rows zero = []
wiring_rows (suc n) = wiring_rows n ++ wiring_row n

-- the names of the columns, and the line under them
unfoldable pub wiring_head : List ℕ
wiring_head = bytes "| lock | bit | hexadecimal |\n|---|---|---|\n"

-- "for all 32"
unfoldable pub wiring_table : List ℕ
wiring_table = wiring_head ++ wiring_rows lock_count

-- ---- bytes that suffice: a machine number has at most 20 digits

-- for a row
abbrev pub row_room : ℕ
row_room = 2 + 20 + 3 + 20 + 5 + hex_count + 3

-- for all of it: the heading has 43
abbrev pub wiring_room : ℕ
wiring_room = 43 + lock_count * row_room
