-- Texts with what the program `crossings` prints of them, and with the couples that fit into a buffer. That each row is right is the theorem `crossings-right`.
use Rattle.std.specs.Prelude.{List, [], ◌∷◌, ℕ, ◌≡◌}
use Rattle.laws.specs.Bytes.{bytes}
use Rattle.plan.specs.Rules.{plan_of}
use Rattle.couples.specs.Couples.{couples}
use Rattle.couples.specs.Fitting.{fitting_words, fitting_bytes}
use Rattle.couple_lines.specs.CoupleLines.{printed_couples}
use Rattle.crossings_text.specs.AllCrossings.{printed_crossings}

-- 01's case A: thread 0 holds lock 0 and wants 1, where thread 1 holds 1 and wants 0
abbrev pub case_a : List ℕ
case_a = bytes "(plan\n(proc\n(hold 0\n(hold 1\n(skip)\n)\n)\n)\n(proc\n(hold 1\n(hold 0\n(skip)\n)\n)\n)\n(thread 0)\n(thread 1)\n)\n"

-- one procedure with both orders, run by two threads
abbrev pub both_orders : List ℕ
both_orders = bytes "(plan\n(proc\n(either\n(one\n(hold 0\n(hold 1\n(skip)\n)\n)\n)\n(two\n(hold 1\n(hold 0\n(skip)\n)\n)\n)\n)\n)\n(thread 0)\n(thread 0)\n)\n"

-- threads 0 and 1 share lock 0 and then want to hold it, "and two that both try are stuck"; threads 2 and 3 read alone
abbrev pub upgraders : List ℕ
upgraders =
    bytes "(plan\n(proc\n(share 0\n(hold 0\n(skip)\n)\n)\n)\n(proc\n(share 1\n(share 0\n(skip)\n)\n)\n)\n(thread 0)\n(thread 0)\n(thread 1)\n(thread 1)\n)\n"

-- thread 0 has lock 0 both ways and wants to share lock 1, where thread 1 holds 1 and wants to share 0
abbrev pub both_ways : List ℕ
both_ways = bytes "(plan\n(proc\n(share 0\n(hold 0\n(share 1\n(skip)\n)\n)\n)\n)\n(proc\n(hold 1\n(share 0\n(skip)\n)\n)\n)\n(thread 0)\n(thread 1)\n)\n"

-- the couples of two threads, and of them turned round; rule 14 for a thread twice, and for one that is not there; the table; the refusal of the empty text; the couples, "the
-- first ones that fit whole", in a buffer of 11 words, of 5, and of 95 bytes; and with shares: two that upgrade cross, readers do not,
-- and a lock had both ways, in lines and in words
pub record CrossingsRight : Type 0 where
  pub a : printed_couples case_a 0 1 ≡ bytes "(cross 0 1 1\n(couple (pair 1 0) (pair 0 1))\n)\n"
  pub turned : printed_couples case_a 1 0 ≡ bytes "(cross 1 0 1\n(couple (pair 0 1) (pair 1 0))\n)\n"
  pub both_orders_lem : printed_couples both_orders 0 1 ≡ bytes "(cross 0 1 2\n(couple (pair 1 0) (pair 0 1))\n(couple (pair 0 1) (pair 1 0))\n)\n"
  pub same : printed_couples case_a 0 0 ≡ bytes "(refused 14 0)\n"
  pub absent : printed_couples case_a 0 2 ≡ bytes "(refused 14 0)\n"
  pub table : printed_crossings case_a ≡ bytes "(crossings\n(cross 0 1 1)\n)\n"
  pub empty : printed_crossings [] ≡ bytes "(refused 4 1)\n"
  pub words_11 : fitting_words 11 (couples (plan_of case_a) 0 1) ≡ 1 ∷ 0 ∷ 3 ∷ 2 ∷ 0 ∷ 1 ∷ []
  pub words_5 : fitting_words 5 (couples (plan_of case_a) 0 1) ≡ []
  pub bytes_95 : fitting_bytes 95 (couples (plan_of case_a) 0 1)
      ≡ 1 ∷ 0 ∷ 0 ∷ 0 ∷ 0 ∷ 0 ∷ 0 ∷ 0 ∷ 0 ∷ 0 ∷ 0 ∷ 0 ∷ 0 ∷ 0 ∷ 0 ∷ 0 ∷ 3 ∷ 0 ∷ 0 ∷ 0 ∷ 0 ∷ 0 ∷ 0 ∷ 0
      ∷ 2 ∷ 0 ∷ 0 ∷ 0 ∷ 0 ∷ 0 ∷ 0 ∷ 0 ∷ 0 ∷ 0 ∷ 0 ∷ 0 ∷ 0 ∷ 0 ∷ 0 ∷ 0 ∷ 1 ∷ 0 ∷ 0 ∷ 0 ∷ 0 ∷ 0 ∷ 0 ∷ 0 ∷ []
  pub upgrade : printed_couples upgraders 0 1 ≡ bytes "(cross 0 1 1\n(couple (pair 0 0s) (pair 0 0s))\n)\n"
  pub shares : printed_crossings upgraders ≡ bytes "(crossings\n(cross 0 1 1)\n(cross 0 2 0)\n(cross 0 3 0)\n(cross 1 2 0)\n(cross 1 3 0)\n(cross 2 3 0)\n)\n"
  pub both_ways_lem : printed_couples both_ways 0 1 ≡ bytes "(cross 0 1 1\n(couple (pair 1s 0 0s) (pair 0s 1))\n)\n"
  pub words_both : fitting_words 6 (couples (plan_of both_ways) 0 1) ≡ 1 ∷ 1 ∷ 2 ∷ 2 ∷ 0 ∷ 0 ∷ []
