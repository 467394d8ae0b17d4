-- The limits of a plan, for definitions and contracts: the one place where their values stand. src/lib.rt has the same for code, and its functions `named_limits` and
-- `derived_limits` show that each constant there is its twin. 01, "Rules, in checking order".
use Rattle.std.specs.Prelude.{ℕ, ◌+◌, ◌*◌, ◌^◌}

-- 2: "The text has more than 32,768 bytes". 02, change 1, of the tidy copy: "The output must hold 32,768 bytes, otherwise rule 1 applies."
abbrev pub max_bytes : ℕ
max_bytes = 32768

-- a form's line has two bytes at least, so no more forms fit into a text
abbrev pub max_forms : ℕ
max_forms = 16384

-- 5: "more than 64 procedures, 1,024 statements, 6 threads, or 16 brackets of hold, loop, either, one and two open together in a procedure"; 02, change 9: a share is "one
-- statement and one bracket in rule 5"
abbrev pub max_procs : ℕ
max_procs = 64

abbrev pub max_statements : ℕ
max_statements = 1024

abbrev pub max_threads : ℕ
max_threads = 6

abbrev pub max_brackets : ℕ
max_brackets = 16

-- 6: "a lock above 31"; a set of locks is a mask below 2 to the power of their number
abbrev pub lock_count : ℕ
lock_count = 32

abbrev pub mask_size : ℕ
mask_size = 2 ^ lock_count

-- 02, change 9: each lock can be shared and held, "on a second count for each lock"; a set of what is had is a mask of this many digits
abbrev pub claim_count : ℕ
claim_count = 64

-- 9: "Some procedure's size exceeds 1,024"; sizes are counted up to one more than that
abbrev pub max_size : ℕ
max_size = 1024

abbrev pub size_room : ℕ
size_room = max_size + 1

-- 02, change 5: "Raise the limit to 511 .. A hold has size 2 and needs something inside it, so a size of 1,024 has room for 511 holds at most."
-- Change 9, with shares: "the pair bound of 511 must hold for it too"
abbrev pub max_pairs : ℕ
max_pairs = 511

-- change 9: "The pair buffer is 1,533 words", three for each pair
abbrev pub max_pair_words : ℕ
max_pair_words = 3 * max_pairs

-- the pairs of all threads
abbrev pub max_listed : ℕ
max_listed = max_threads * max_pairs

-- a schedule is "never longer than the sum of its threads' sizes", which by 5 and 9 is never above 01's 6,144
abbrev pub max_entries : ℕ
max_entries = max_threads * max_size
