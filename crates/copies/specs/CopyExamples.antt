-- Texts with what the programs `tidy` and `straight` print of them. That each row is right is the theorem `copies-right`.
use Rattle.std.specs.Prelude.{true, false, List, [], ℕ, ◌≡◌}
use Rattle.laws.specs.Bytes.{bytes}
use Rattle.copies.specs.Copies.{printed_copy}

-- indented: a loop around an either around a loop around a hold, and a call
abbrev pub branched : List ℕ
branched = bytes "; b\n(plan\n (proc\n (loop\n  (either\n   (one\n   (loop\n   (hold 0\n   (skip)\n   )\n   )\n   )\n   (two\n   (call 1)\n   )\n  )\n )\n )\n (proc\n (skip)\n )\n (thread 0)\n)\n"

-- a hold around an either that ends its block, and a skip behind it
abbrev pub held : List ℕ
held = bytes "(plan\n(proc\n(hold 31\n(either\n(one\n(skip)\n)\n(two\n(hold 7\n(skip)\n)\n(skip)\n)\n)\n)\n(skip)\n)\n(thread 0)\n)\n"

-- 02, change 9: an either within a share within a share of the same lock, and a hold of it
abbrev pub sharing : List ℕ
sharing = bytes "(plan\n (proc\n  (share 31\n   (share 31\n    (either\n     (one\n      (hold 31\n       (skip)\n      )\n     )\n     (two\n      (share 0\n       (skip)\n      )\n     )\n    )\n   )\n  )\n )\n (thread 0)\n)\n"

-- the copies; a straightened copy straightened; copies of shares; a text that is refused though what straightening would leave is a plan; the empty text
pub record CopiesRight : Type 0 where
  pub straight : printed_copy true branched ≡ bytes "(plan\n(proc\n(hold 0\n(skip)\n)\n(call 1)\n)\n(proc\n(skip)\n)\n(thread 0)\n)\n"
  pub tidy : printed_copy false branched
      ≡ bytes "(plan\n(proc\n(loop\n(either\n(one\n(loop\n(hold 0\n(skip)\n)\n)\n)\n(two\n(call 1)\n)\n)\n)\n)\n(proc\n(skip)\n)\n(thread 0)\n)\n"
  pub within : printed_copy true held ≡ bytes "(plan\n(proc\n(hold 31\n(skip)\n(hold 7\n(skip)\n)\n(skip)\n)\n(skip)\n)\n(thread 0)\n)\n"
  pub again : printed_copy true (printed_copy true held) ≡ printed_copy true held
  pub shared : printed_copy true sharing ≡ bytes "(plan\n(proc\n(share 31\n(share 31\n(hold 31\n(skip)\n)\n(share 0\n(skip)\n)\n)\n)\n)\n(thread 0)\n)\n"
  pub shared-tidy : printed_copy false sharing
      ≡ bytes "(plan\n(proc\n(share 31\n(share 31\n(either\n(one\n(hold 31\n(skip)\n)\n)\n(two\n(share 0\n(skip)\n)\n)\n)\n)\n)\n)\n(thread 0)\n)\n"
  pub refused : printed_copy true (bytes "(plan\n(proc\n(loop\n)\n(skip)\n)\n(thread 0)\n)\n") ≡ bytes "(refused 4 4)\n"
  pub empty : printed_copy true [] ≡ bytes "(refused 4 1)\n"
