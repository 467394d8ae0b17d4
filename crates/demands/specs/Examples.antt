-- The plans of 01's reference shelf as texts, each with the refusal, or with the pairs and the verdict, that it gets: the starred ones A to K (`reference`),
-- and texts at the limits of each rule, with later calls, with idle procedures, with what is passed over and with shares (`limits`). That each gives what its row says is the theorem
-- `examples-facts`, of the starred ones alone `reference-facts`. 01, "Plans on the reference shelf".
use Rattle.std.specs.Prelude.{ℕ, zero, suc, List, [], ◌∷◌, ◌++◌, map, ◌≡◌}
use Rattle.std.proofs.Math.Option.{none, some}
use Rattle.laws.specs.Bytes.{bytes}
use Rattle.semantics.specs.Pairs.{pair_from}
use Rattle.semantics.specs.HoldsOnly.{as_record}
use Rattle.semantics.specs.Cases.{Expected, free, deadlock, CaseFacts}
use Rattle.text.specs.Forms.{decimal}
use Rattle.text.specs.Lines.{refusal}
use Rattle.plan.specs.Rules.{plan_of, plan_refusal}

-- What comes of a text: a rule and a line; or the pairs of its first procedures, of as many as there are lists, and the verdict.
pub data Outcome : Type 0 where
  refused_by : ℕ → ℕ → Outcome
  accepted : List (List ℕ) → Expected → Outcome

pub record Example : Type 0 where
  pub text : List ℕ
  pub outcome : Outcome

abbrev pub example : List ℕ → Outcome → Example
example t o = record { text = t; outcome = o }

-- 01's words for pairs, written as records (02, change 9): of plans without share
abbrev records : List (List ℕ) → List (List ℕ)
records wss = map (λ ws. map as_record ws) wss

-- a text that no rule refuses, and what its row says of its plan
pub record AcceptedWith (text : List ℕ) (pairs : List (List ℕ)) (a : Expected) : Type 0 where
  pub kept : plan_refusal text ≡ none
  pub facts : CaseFacts (plan_of text) pairs a

-- what an outcome says of a text
abbrev pub Gives : List ℕ → Outcome → Type 0
Gives text (refused_by r l) = plan_refusal text ≡ some (refusal r l)
Gives text (accepted pairs a) = AcceptedWith text pairs a

-- ---- texts

-- n times the same text
unfoldable pub copies : ℕ → List ℕ → List ℕ
copies zero t = []
copies (suc n) t = t ++ copies n t

-- a procedure of one block, a plan of procedures and threads
abbrev proc : List ℕ → List ℕ
proc b = bytes "(proc\n" ++ b ++ bytes ")\n"

abbrev plan : List ℕ → List ℕ → List ℕ
plan ps ts = bytes "(plan\n" ++ ps ++ ts ++ bytes ")\n"

abbrev one_thread : List ℕ
one_thread = bytes "(thread 0)\n"

abbrev two_threads : List ℕ
two_threads = bytes "(thread 0)\n(thread 1)\n"

abbrev skip_line : List ℕ
skip_line = bytes "(skip)\n"

-- a block within n loops
unfoldable pub loops : ℕ → List ℕ
loops n = copies n (bytes "(loop\n") ++ skip_line ++ copies n (bytes ")\n")

-- n eithers, each but the first within `(one` of the one before
unfoldable pub eithers : ℕ → List ℕ
eithers zero = skip_line
eithers (suc n) = bytes "(either\n(one\n" ++ eithers n ++ bytes ")\n(two\n(skip)\n)\n)\n"

-- calls of all procedures below n
unfoldable pub calls_below : ℕ → List ℕ
calls_below zero = []
calls_below (suc n) = bytes "(call " ++ decimal n ++ bytes ")\n" ++ calls_below n

-- the procedures 1 to 8 of which each calls the one before twice
abbrev doublings : List ℕ
doublings =
    proc (bytes "(call 0)\n(call 0)\n") ++ proc (bytes "(call 1)\n(call 1)\n") ++ proc (bytes "(call 2)\n(call 2)\n") ++ proc (bytes "(call 3)\n(call 3)\n")
    ++ proc (bytes "(call 4)\n(call 4)\n") ++ proc (bytes "(call 5)\n(call 5)\n") ++ proc (bytes "(call 6)\n(call 6)\n") ++ proc (bytes "(call 7)\n(call 7)\n")

-- ---- the starred plans

-- 0[1] and 1[0]
abbrev pub case_a : Example
case_a = example (plan (proc (bytes "(hold 0\n(hold 1\n(skip)\n)\n)\n") ++ proc (bytes "(hold 1\n(hold 0\n(skip)\n)\n)\n")) two_threads)
    (accepted [] (deadlock (0 ∷ 1 ∷ []) (0 ∷ 1 ∷ [])))

-- 2[0[1]] and 2[1[0]]
abbrev pub case_b : Example
case_b = example (plan (proc (bytes "(hold 2\n(hold 0\n(hold 1\n(skip)\n)\n)\n)\n") ++ proc (bytes "(hold 2\n(hold 1\n(hold 0\n(skip)\n)\n)\n)\n")) two_threads)
    (accepted (records ((2 ∷ 128 ∷ 161 ∷ []) ∷ (2 ∷ 129 ∷ 192 ∷ []) ∷ [])) free)

-- 0[0], by two threads
abbrev pub case_c : Example
case_c = example (plan (proc (bytes "(hold 0\n(hold 0\n(skip)\n)\n)\n")) (bytes "(thread 0)\n(thread 0)\n")) (accepted (records ((0 ∷ []) ∷ [])) free)

-- 1[0], 2[1] and 0[2]
abbrev pub case_d : Example
case_d =
    example (plan (proc (bytes "(hold 1\n(hold 0\n(skip)\n)\n)\n") ++ proc (bytes "(hold 2\n(hold 1\n(skip)\n)\n)\n")
    ++ proc (bytes "(hold 0\n(hold 2\n(skip)\n)\n)\n")) (bytes "(thread 0)\n(thread 1)\n(thread 2)\n"))
    (accepted [] (deadlock (0 ∷ 1 ∷ 2 ∷ []) (0 ∷ 1 ∷ 2 ∷ [])))

-- the first two of D
abbrev pub case_e : Example
case_e = example (plan (proc (bytes "(hold 1\n(hold 0\n(skip)\n)\n)\n") ++ proc (bytes "(hold 2\n(hold 1\n(skip)\n)\n)\n")) two_threads) (accepted [] free)

-- 0[1] then 1[0], by one thread
abbrev pub case_f : Example
case_f = example (plan (proc (bytes "(hold 0\n(hold 1\n(skip)\n)\n)\n(hold 1\n(hold 0\n(skip)\n)\n)\n")) one_thread) (accepted [] free)

-- 0[1 2] and 1[0 2[0]]
abbrev pub case_g : Example
case_g =
    example (plan (proc (bytes "(hold 0\n(hold 1\n(skip)\n)\n(hold 2\n(skip)\n)\n)\n")
    ++ proc (bytes "(hold 1\n(hold 0\n(skip)\n)\n(hold 2\n(hold 0\n(skip)\n)\n)\n)\n")) two_threads)
    (accepted [] (deadlock (0 ∷ 1 ∷ []) (0 ∷ 1 ∷ [])))

-- an either of 0[1] or skip, and 1[0]
abbrev pub case_h : Example
case_h =
    example (plan (proc (bytes "(either\n(one\n(hold 0\n(hold 1\n(skip)\n)\n)\n)\n(two\n(skip)\n)\n)\n")
    ++ proc (bytes "(hold 1\n(hold 0\n(skip)\n)\n)\n")) two_threads)
    (accepted [] (deadlock (8 ∷ 0 ∷ 1 ∷ []) (0 ∷ 1 ∷ [])))

-- a loop over hold 0, by two threads
abbrev pub case_i : Example
case_i = example (plan (proc (bytes "(loop\n(hold 0\n(skip)\n)\n)\n")) (bytes "(thread 0)\n(thread 0)\n")) (accepted [] free)

-- the empty text
abbrev pub case_j : Example
case_j = example [] (refused_by 4 1)

-- a procedure without a block, and nothing more
abbrev pub case_k : Example
case_k = example (bytes "(plan\n(proc\n)\n") (refused_by 4 3)

-- ---- the rules at their limits

-- accepted, and free of deadlocks
abbrev good : List (List ℕ) → Outcome
good wss = accepted (records wss) free

-- a plan of one procedure with one thread
abbrev single : List ℕ → List ℕ
single b = plan (proc b) one_thread

-- 3: the last line is not ended; a bad line before an unended one; a number with a leading zero, of four digits, of none; a blank too many
unfoldable pub rule3 : List Example
rule3 =
    example (bytes "(plan\n(proc\n(skip)\n)\n(thread 0)\n)") (refused_by 3 6) ∷
    example (bytes "(plan\n(pro\n(proc") (refused_by 3 2) ∷
    example (single (bytes "(hold 01\n(skip)\n)\n")) (refused_by 3 3) ∷
    example (single (bytes "(hold 1000\n(skip)\n)\n")) (refused_by 3 3) ∷
    example (single (bytes "(hold \n(skip)\n)\n")) (refused_by 3 3) ∷
    example (single (bytes "(skip) \n")) (refused_by 3 3) ∷
    []

-- 4: a second `(plan`; `(two` for `(one`; an empty hold; a thread before any procedure; a line after the last; the text ends too early; a break of rule 5 on an
-- earlier line
unfoldable pub rule4 : List Example
rule4 =
    example (bytes "(plan\n(plan\n") (refused_by 4 2) ∷
    example (single (bytes "(either\n(two\n(skip)\n)\n(one\n(skip)\n)\n)\n")) (refused_by 4 4) ∷
    example (single (bytes "(hold 0\n)\n")) (refused_by 4 4) ∷
    example (bytes "(plan\n(thread 0)\n)\n") (refused_by 4 2) ∷
    example (single skip_line ++ bytes ")\n") (refused_by 4 7) ∷
    example (bytes "(plan\n(proc\n(skip)\n)\n(thread 0)\n") (refused_by 4 6) ∷
    example (single (loops 17) ++ bytes ")\n") (refused_by 4 41) ∷
    []

-- 5: 64 procedures, of which the last calls the others, and 65; 6 threads, and 7; 16 and 17 loops; 8 and 9 eithers; two limits passed
unfoldable pub rule5 : List Example
rule5 =
    example (plan (copies 63 (proc skip_line) ++ proc (calls_below 63)) (bytes "(thread 63)\n")) (good []) ∷
    example (plan (copies 64 (proc skip_line) ++ proc (calls_below 64)) (bytes "(thread 64)\n")) (refused_by 5 194) ∷
    example (plan (proc skip_line) (copies 6 one_thread)) (good []) ∷
    example (plan (proc skip_line) (copies 7 one_thread)) (refused_by 5 11) ∷
    example (single (loops 16)) (good []) ∷
    example (single (loops 17)) (refused_by 5 19) ∷
    example (single (eithers 8)) (good []) ∷
    example (single (eithers 9)) (refused_by 5 19) ∷
    example (plan (proc (loops 17)) (copies 7 one_thread)) (refused_by 5 19) ∷
    []

-- 6 to 8: lock 31, and 32; a call of the procedure behind the last, of number 999; a thread of an absent procedure; rule 6 on a later line than rule 7
unfoldable pub rule678 : List Example
rule678 =
    example (single (bytes "(hold 31\n(skip)\n)\n")) (good ((31 ∷ []) ∷ [])) ∷
    example (single (bytes "(hold 32\n(skip)\n)\n")) (refused_by 6 3) ∷
    example (single (bytes "(call 1)\n")) (refused_by 7 3) ∷
    example (plan (proc skip_line ++ proc (bytes "(skip)\n(call 999)\n")) two_threads) (refused_by 7 7) ∷
    example (plan (proc skip_line) two_threads) (refused_by 8 6) ∷
    example (single (bytes "(call 1)\n(hold 32\n(skip)\n)\n")) (refused_by 6 4) ∷
    []

-- 02, change 2. A call of a lower procedure, and of a later one, with a lock held; a procedure that calls itself; a circle of two with a procedure before it and one behind
-- it that reach it; rule 7 before 12, 8 before 12, 12 before 9
unfoldable pub later_calls : List Example
later_calls =
    example (plan (proc (bytes "(hold 1\n(skip)\n)\n") ++ proc (bytes "(hold 0\n(call 0)\n)\n")) two_threads) (good ((1 ∷ []) ∷ (0 ∷ 33 ∷ []) ∷ [])) ∷
    example (plan (proc (bytes "(hold 0\n(call 1)\n)\n") ++ proc (bytes "(hold 1\n(skip)\n)\n")) two_threads) (good ((0 ∷ 33 ∷ []) ∷ (1 ∷ []) ∷ [])) ∷
    example (single (bytes "(call 0)\n")) (refused_by 12 2) ∷
    example (plan (proc (bytes "(call 1)\n") ++ proc (bytes "(loop\n(call 2)\n)\n") ++ proc (bytes "(hold 0\n(call 1)\n)\n") ++ proc (bytes "(call 2)\n"))
    (bytes "(thread 0)\n(thread 3)\n")) (refused_by 12 5) ∷
    example (plan (proc (bytes "(call 0)\n") ++ proc (bytes "(call 2)\n")) two_threads) (refused_by 7 6) ∷
    example (plan (proc (bytes "(call 0)\n")) two_threads) (refused_by 8 6) ∷
    example (plan (proc skip_line ++ doublings ++ proc (bytes "(call 8)\n(call 8)\n") ++ proc (bytes "(call 10)\n")) (bytes "(thread 9)\n(thread 10)\n")) (refused_by 12 41) ∷
    []

-- 02, change 6. The last procedure idle, though it calls another; an idle procedure that an idle one calls; forty procedures and one thread line, which reaches the first
-- twenty; rule 8 before 13, 12 before 13, 13 before 9; a procedure that the last thread alone reaches; one thread that reaches all, through a hold, a loop and both blocks of
-- eithers
unfoldable pub idle_procs : List Example
idle_procs =
    example (plan (proc skip_line ++ proc (bytes "(call 0)\n")) one_thread) (refused_by 13 5) ∷
    example (plan (proc skip_line ++ proc skip_line ++ proc (bytes "(call 1)\n")) one_thread) (refused_by 13 5) ∷
    example (plan (copies 38 (proc skip_line) ++ proc (calls_below 20) ++ proc skip_line) (bytes "(thread 38)\n")) (refused_by 13 62) ∷
    example (plan (proc skip_line ++ proc skip_line) (bytes "(thread 0)\n(thread 2)\n")) (refused_by 8 9) ∷
    example (plan (proc skip_line ++ proc (bytes "(call 1)\n")) (bytes "(thread 1)\n")) (refused_by 12 5) ∷
    example (plan (proc skip_line ++ doublings ++ proc (bytes "(call 8)\n(call 8)\n") ++ proc skip_line) (bytes "(thread 9)\n")) (refused_by 13 41) ∷
    example (plan (proc skip_line ++ proc (bytes "(call 2)\n") ++ proc (bytes "(hold 0\n(skip)\n)\n")) two_threads) (good ([] ∷ (0 ∷ []) ∷ (0 ∷ []) ∷ [])) ∷
    example (plan (proc (bytes "(hold 0\n(call 2)\n)\n") ++ proc (bytes "(hold 1\n(skip)\n)\n") ++ proc (bytes "(loop\n(call 3)\n)\n")
    ++ proc (bytes "(either\n(one\n(call 4)\n)\n(two\n(skip)\n)\n)\n") ++ proc (bytes "(either\n(one\n(skip)\n)\n(two\n(call 1)\n)\n)\n")) one_thread)
    (good ((0 ∷ 33 ∷ []) ∷ (1 ∷ []) ∷ (1 ∷ []) ∷ (1 ∷ []) ∷ (1 ∷ []) ∷ [])) ∷
    []

-- "Procedure 0 a skip, each later one two calls of the one before", up to procedure 8 and to procedure 9
abbrev pub to8 : List ℕ
to8 = plan (proc skip_line ++ doublings) (bytes "(thread 8)\n")

abbrev pub to9 : List ℕ
to9 = plan (proc skip_line ++ doublings ++ proc (bytes "(call 8)\n(call 8)\n")) (bytes "(thread 9)\n")

-- 9: size 766, and 1,534
unfoldable pub rule9 : List Example
rule9 = example to8 (good []) ∷ example to9 (refused_by 9 37) ∷ []

-- 02, change 1. Case A indented, with remarks before, within and behind it, and with empty and all-space lines; a line end alone; remarks alone; the text ends too early
-- behind a remark; the rules 4, 6, 7, 8, 12, 13 and 9 at lines behind remarks; a tab; blanks and a remark behind a form; a remark and spaces that are not ended
unfoldable pub remarks : List Example
remarks =
    example (bytes "; the viaduct\n\n(plan\n  (proc\n    (hold 0\n      ; then 1\n      (hold 1\n        (skip)\n      )\n    )\n  )\n   \n" ++ bytes " (proc\n(hold 1\n(hold 0\n(skip)\n)\n)\n)\n"
    ++ bytes "  (thread 0)\n;(thread 0)\n  (thread 1)\n)\n ;\n\n") (accepted (records ((0 ∷ 33 ∷ []) ∷ (1 ∷ 64 ∷ []) ∷ [])) (deadlock (0 ∷ 1 ∷ []) (0 ∷ 1 ∷ []))) ∷
    example (bytes "\n") (refused_by 4 2) ∷
    example (bytes ";\n ; x\n") (refused_by 4 3) ∷
    example (bytes "(plan\n;x\n") (refused_by 4 3) ∷
    example (bytes "\n(plan\n;\n (plan\n") (refused_by 4 4) ∷
    example (bytes ";\n" ++ single (bytes "\n (hold 32\n(skip)\n)\n")) (refused_by 6 5) ∷
    example (single (bytes ";\n\n   (call 1)\n")) (refused_by 7 5) ∷
    example (plan (proc skip_line) (bytes "  ;(thread 1)\n(thread 0)\n  (thread 1)\n")) (refused_by 8 7) ∷
    example (bytes ";\n" ++ single (bytes "\n  (call 0)\n")) (refused_by 12 3) ∷
    example (bytes ";\n" ++ plan (proc skip_line ++ bytes "; idle\n\n  " ++ proc skip_line) (bytes "(thread 0)\n;(thread 1)\n")) (refused_by 13 8) ∷
    example (bytes "; to procedure 9\n" ++ to9) (refused_by 9 38) ∷
    example (9 ∷ bytes "\n") (refused_by 3 1) ∷
    example (bytes ";\n" ++ single (bytes "(skip)  \n")) (refused_by 3 4) ∷
    example (single (bytes "(skip) ; twice\n")) (refused_by 3 3) ∷
    example (single skip_line ++ bytes ";") (refused_by 3 7) ∷
    example (single skip_line ++ bytes "  ") (refused_by 3 7) ∷
    []

-- 02, change 9. A block within n shares
unfoldable pub sharings : ℕ → List ℕ
sharings n = copies n (bytes "(share 7\n") ++ skip_line ++ copies n (bytes ")\n")

-- two threads that both run the one procedure
abbrev twice : List ℕ → List ℕ
twice b = plan (proc b) (bytes "(thread 0)\n(thread 0)\n")

-- two procedures, a thread for each
abbrev two : List ℕ → List ℕ → List ℕ
two a b = plan (proc a ++ proc b) two_threads

-- each thread's first claim, then the second is refused to both
abbrev crossed : Expected
crossed = deadlock (0 ∷ 1 ∷ []) (0 ∷ 1 ∷ [])

-- Other letters, no number, numbers that are none (rule 3), an empty share (rule 4), 16 and 17 shares (rule 5), locks 31 and 32 (rule 6), a call through a share (rules 12 and 13).
-- Then readers of one lock; "A thread may hold what it shares already, and two that both try are stuck."; one that tries beside a reader; a share of what is held, which is not fresh;
-- one lock had both ways and another wanted; each wants to hold what the other shares, to share it, to share what the other holds; only one of them holds; one holds what the other
-- wants to hold, and wants to hold what that one shares; three in a cycle, one of which wants to hold what it shares; the order of the words; a lock held, shared and held again. A pair
-- is (held, shared, wanted lock times 2 plus 1 for a hold)
unfoldable pub shares : List Example
shares =
    example (single (bytes "(Share 0\n(skip)\n)\n")) (refused_by 3 3) ∷
    example (single (bytes "(share\n(skip)\n)\n")) (refused_by 3 3) ∷
    example (single (bytes "(share 01\n(skip)\n)\n")) (refused_by 3 3) ∷
    example (single (bytes "(share 1)\n(skip)\n)\n")) (refused_by 3 3) ∷
    example (single (bytes "(share 0\n)\n")) (refused_by 4 4) ∷
    example (bytes "(plan\n(share 0\n") (refused_by 4 2) ∷
    example (single (sharings 16)) (accepted ((pair_from 0 0 14 ∷ []) ∷ []) free) ∷
    example (single (sharings 17)) (refused_by 5 19) ∷
    example (single (bytes "(share 31\n(skip)\n)\n")) (accepted ((pair_from 0 0 62 ∷ []) ∷ []) free) ∷
    example (single (bytes "(hold 31\n(share 32\n(skip)\n)\n)\n")) (refused_by 6 4) ∷
    example (single (bytes "(share 999\n(hold 32\n(skip)\n)\n)\n")) (refused_by 6 3) ∷
    example (single (bytes "(share 0\n(call 0)\n)\n")) (refused_by 12 2) ∷
    example (plan (proc (bytes "(share 3\n(call 1)\n)\n") ++ proc (bytes "(hold 3\n(skip)\n)\n")) one_thread)
    (accepted ((pair_from 0 0 6 ∷ pair_from 0 8 7 ∷ []) ∷ (pair_from 0 0 7 ∷ []) ∷ []) free) ∷
    example (twice (bytes "(share 0\n(skip)\n)\n")) (accepted ((pair_from 0 0 0 ∷ []) ∷ []) free) ∷
    example (single (bytes "(share 0\n(hold 0\n(skip)\n)\n)\n")) (accepted ((pair_from 0 0 0 ∷ pair_from 0 1 1 ∷ []) ∷ []) free) ∷
    example (twice (bytes "(share 0\n(hold 0\n(skip)\n)\n)\n")) (accepted ((pair_from 0 0 0 ∷ pair_from 0 1 1 ∷ []) ∷ []) crossed) ∷
    example (two (bytes "(share 0\n(hold 0\n(skip)\n)\n)\n") (bytes "(share 0\n(skip)\n)\n"))
    (accepted ((pair_from 0 0 0 ∷ pair_from 0 1 1 ∷ []) ∷ (pair_from 0 0 0 ∷ []) ∷ []) free) ∷
    example (twice (bytes "(hold 0\n(share 0\n(skip)\n)\n)\n")) (accepted ((pair_from 0 0 1 ∷ []) ∷ []) free) ∷
    example (twice (bytes "(share 0\n(hold 0\n(hold 1\n(skip)\n)\n)\n)\n")) (accepted ((pair_from 0 0 0 ∷ pair_from 0 1 1 ∷ pair_from 1 1 3 ∷ []) ∷ []) crossed) ∷
    example (two (bytes "(share 0\n(hold 1\n(skip)\n)\n)\n") (bytes "(share 1\n(hold 0\n(skip)\n)\n)\n"))
    (accepted ((pair_from 0 0 0 ∷ pair_from 0 1 3 ∷ []) ∷ (pair_from 0 0 2 ∷ pair_from 0 2 1 ∷ []) ∷ []) crossed) ∷
    example (two (bytes "(share 0\n(share 1\n(skip)\n)\n)\n") (bytes "(share 1\n(share 0\n(skip)\n)\n)\n"))
    (accepted ((pair_from 0 0 0 ∷ pair_from 0 1 2 ∷ []) ∷ (pair_from 0 0 2 ∷ pair_from 0 2 0 ∷ []) ∷ []) free) ∷
    example (two (bytes "(hold 0\n(share 1\n(skip)\n)\n)\n") (bytes "(hold 1\n(share 0\n(skip)\n)\n)\n"))
    (accepted ((pair_from 0 0 1 ∷ pair_from 1 0 2 ∷ []) ∷ (pair_from 0 0 3 ∷ pair_from 2 0 0 ∷ []) ∷ []) crossed) ∷
    example (two (bytes "(share 0\n(hold 1\n(skip)\n)\n)\n") (bytes "(hold 1\n(share 0\n(skip)\n)\n)\n"))
    (accepted ((pair_from 0 0 0 ∷ pair_from 0 1 3 ∷ []) ∷ (pair_from 0 0 3 ∷ pair_from 2 0 0 ∷ []) ∷ []) free) ∷
    example (two (bytes "(share 0\n(hold 1\n(skip)\n)\n)\n") (bytes "(hold 1\n(hold 0\n(skip)\n)\n)\n"))
    (accepted ((pair_from 0 0 0 ∷ pair_from 0 1 3 ∷ []) ∷ (pair_from 0 0 3 ∷ pair_from 2 0 1 ∷ []) ∷ []) crossed) ∷
    example (plan
    (proc (bytes "(share 2\n(share 0\n(hold 0\n(skip)\n)\n)\n)\n") ++ proc (bytes "(share 0\n(hold 1\n(skip)\n)\n)\n") ++ proc (bytes "(hold 1\n(hold 2\n(skip)\n)\n)\n"))
    (bytes "(thread 0)\n(thread 1)\n(thread 2)\n"))
    (accepted ((pair_from 0 0 4 ∷ pair_from 0 4 0 ∷ pair_from 0 5 1 ∷ []) ∷ (pair_from 0 0 0 ∷ pair_from 0 1 3 ∷ []) ∷ (pair_from 0 0 3 ∷ pair_from 2 0 5 ∷ []) ∷ [])
    (deadlock (0 ∷ 0 ∷ 1 ∷ 2 ∷ []) (0 ∷ 1 ∷ 2 ∷ []))) ∷
    example (single (bytes "(share 31\n(skip)\n)\n(share 0\n(hold 0\n(skip)\n)\n)\n"))
    (accepted ((pair_from 0 0 0 ∷ pair_from 0 0 62 ∷ pair_from 0 1 1 ∷ []) ∷ []) free) ∷
    example (single (bytes "(hold 0\n(share 0\n(hold 0\n(skip)\n)\n)\n)\n")) (accepted ((pair_from 0 0 1 ∷ []) ∷ []) free) ∷
    []

-- "Starred ones are for point 4": the plans A to K
unfoldable pub reference : List Example
reference = case_a ∷ case_b ∷ case_c ∷ case_d ∷ case_e ∷ case_f ∷ case_g ∷ case_h ∷ case_i ∷ case_j ∷ case_k ∷ []

-- texts at the limits of each rule, with calls of later procedures, with idle procedures, with what is passed over, and with shares
unfoldable pub limits : List Example
limits = rule3 ++ (rule4 ++ (rule5 ++ (rule678 ++ (later_calls ++ (idle_procs ++ (rule9 ++ (remarks ++ shares)))))))
