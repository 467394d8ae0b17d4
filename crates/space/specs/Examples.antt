-- Texts with what the program `slip` prints of them. That each row is right is the theorem `slips-right`.
use Rattle.std.specs.Prelude.{List, [], ℕ, ◌≡◌}
use Rattle.laws.specs.Bytes.{bytes}
use Rattle.space.specs.Slip.{printed_slip}

-- 01's case A: both procedures have the size 2 + 2 + 1
abbrev pub case_a : List ℕ
case_a = bytes "(plan\n(proc\n(hold 0\n(hold 1\n(skip)\n)\n)\n)\n(proc\n(hold 1\n(hold 0\n(skip)\n)\n)\n)\n(thread 0)\n(thread 1)\n)\n"

-- thread 0 runs procedure 1, of size 2 + 1, and thread 1 procedure 0, of size 1
abbrev pub threads_exchanged : List ℕ
threads_exchanged = bytes "(plan\n(proc\n(skip)\n)\n(proc\n(loop\n(skip)\n)\n)\n(thread 1)\n(thread 0)\n)\n"

-- 02, change 9: a share is "of size 2 plus its block"; thread 0 has the size 2 + 2 + 1, thread 1 2 + 1 + 1
abbrev pub sharing : List ℕ
sharing = bytes "(plan\n(proc\n(share 0\n(hold 0\n(skip)\n)\n)\n)\n(proc\n(share 0\n(skip)\n(skip)\n)\n)\n(thread 0)\n(thread 1)\n)\n"

-- the slips, and the refusal of the empty text
pub record SlipsRight : Type 0 where
  pub a : printed_slip case_a ≡ bytes "(size 0 5)\n(size 1 5)\n(sum 10)\n"
  pub threads : printed_slip threads_exchanged ≡ bytes "(size 0 3)\n(size 1 1)\n(sum 4)\n"
  pub shared : printed_slip sharing ≡ bytes "(size 0 5)\n(size 1 4)\n(sum 9)\n"
  pub empty : printed_slip [] ≡ bytes "(refused 4 1)\n"
