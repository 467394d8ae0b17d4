-- The table of texts is right: one test over it is computed (`examples-right`), and what it implies holds of the refusals, of the critical pairs and of the runs
-- themselves (`examples-facts`; of the starred plans alone `reference-facts`).
use Prim.Native.Nat.{ℕ}
use mathlib.Core.Bool.{Bool, true, false, ◌&&◌}
use mathlib.Core.List.Memᴰ
use mathlib.Core.List.{List, [], ◌∷◌, ◌++◌, Memᴰ}
use mathlib.Core.Logic.{⊎_elim}
use mathlib.Core.Option.{Option, none, some, or_else, bind}
use mathlib.Core.Path.{◌≡◌, refl, sym, ap₂, subst}
use lib.Dec.{T, eqb, eqb→eq}
use Rattle.laws.specs.Bytes.{equal}
use Rattle.laws.specs.Ascending.{insert_once, ascending}
use Rattle.laws.specs.Choice.{pick}
use Rattle.laws.specs.Mask.{bit}
use Rattle.laws.specs.Sums.{total}
use Rattle.laws.proofs.Tests.{T_and}
use Rattle.text.specs.Forms.{decimal, number_in, kind_in}
use Rattle.text.specs.Kinds.{kind_of, keyword_kind, between_keyword, after_keyword, number_of}
use Rattle.text.specs.Lines.{split, unindented, passed_over, forms_in, forms_of, unreadable, unreadable_line, line_for, line_of}
use Rattle.semantics.specs.Claims.{by_share, by_hold, lock_of, is_hold, none_below, together, fresh_to}
use Rattle.semantics.specs.Plan.{body_in, ◌⨾◌}
use Rattle.semantics.specs.CallMasks.{call_mask, join_through, warshall_round, reach_masks, reach_mask, join_reached}
use Rattle.semantics.specs.Sizes.{size_with, size_at, size_of, thread_size, thread_sizes}
use Rattle.semantics.specs.Run.{up, down, move, compatible, with_all, apart, thread_at, step_in, step, run, start}
use Rattle.semantics.specs.Pairs.{had_from, pairs_with, pairs_at, pair_list}
use Rattle.semantics.specs.Cases.{set_of}
use Rattle.semantics.specs.Conflict.{bars, any, unmet, search_from}
use Rattle.semantics.proofs.Stuck.LargestStuck.{at_hold, round, rounds}
use Rattle.semantics.proofs.Analysis.CaseTest.{written, all_written, all, pairs_from, same_below, stuck_are, answers, passes, passes-facts}
use Rattle.plan.specs.Grammar.{in_front, behind, plan_in}
use Rattle.plan.specs.Structure.{close_block, advance_of, misplaced, misplaced_form}
use Rattle.plan.specs.Limits.{counted, over_limit, past_limit_from, past_limit_form, tested_by, least_bad, breaks, breaking, count_if, breaking_form}
use Rattle.text.specs.declared.Refusal.{Refusal}
use Rattle.text.specs.Lines.{refusal}
use Rattle.plan.specs.Rules.{too_long, lines_refusal, references_refusal, grammar_refusal, forms_refusal, plan_of, proc_form_from}
use Rattle.plan.specs.Rules.{lowest_from, proc_refusal, recursive, idle, too_large, plan_refusal}
use Rattle.demands.specs.Examples.{Outcome, refused_by, accepted, Example, Gives, copies, loops, eithers, calls_below, sharings}
use Rattle.demands.specs.Examples.{rule3, rule4, rule5, rule678, later_calls, idle_procs, rule9, remarks, shares, to8, to9, reference, limits}

-- ---- the test

abbrev refused_with : Option Refusal → ℕ → ℕ → Bool
refused_with none r l = false
refused_with (some q) r l = eqb q.rule r && eqb q.line l

abbrev not_refused : Option Refusal → Bool
not_refused none = true
not_refused (some q) = false

unfoldable comes_out : List ℕ → Outcome → Bool
comes_out text (refused_by r l) = refused_with (plan_refusal text) r l
comes_out text (accepted pairs a) = not_refused (plan_refusal text) && passes (plan_of text) pairs a

unfoldable right : List Example → Bool
right [] = true
right (e ∷ es) = comes_out e.text e.outcome && right es

examples-right : T (right (reference ++ limits))
unfolding right comes_out reference limits rule3 rule4 rule5 rule678 later_calls idle_procs rule9 remarks shares copies loops eithers calls_below sharings decimal kind_of
    keyword_kind between_keyword after_keyword number_of split unindented passed_over forms_in forms_of unreadable unreadable_line
    line_for line_of pick or_else bind equal in_front behind plan_in close_block advance_of misplaced misplaced_form counted over_limit past_limit_from past_limit_form tested_by least_bad
    number_in kind_in breaks breaking count_if breaking_form too_long lines_refusal references_refusal grammar_refusal forms_refusal plan_of proc_form_from lowest_from proc_refusal recursive
    call_mask join_through warshall_round reach_masks reach_mask idle join_reached too_large plan_refusal body_in ◌⨾◌ size_with size_at size_of thread_size thread_sizes total had_from pairs_with pairs_at pair_list up down insert_once
    ascending by_share by_hold lock_of is_hold none_below together fresh_to bars move compatible with_all apart thread_at step_in step run start bit any unmet search_from at_hold round rounds written
    all_written all pairs_from same_below set_of stuck_are answers passes
examples-right = tt

-- ---- what it implies

refused_with_lem : (o : Option Refusal) (r l : ℕ) → T (refused_with o r l) → o ≡ some (refusal r l)
refused_with_lem (some q) r l h =
    let (x, y) = T_and (eqb q.rule r) (eqb q.line l) h in
    ap₂ {C = Option Refusal} (λ a b. some (refusal a b)) (eqb→eq q.rule r x) (eqb→eq q.line l y)
refused_with_lem none r l h = elim h [ ]

not-refused : (o : Option Refusal) → T (not_refused o) → o ≡ none
not-refused none h = refl
not-refused (some _) h = elim h [ ]

comes_out_lem : (text : List ℕ) (o : Outcome) → T (comes_out text o) → Gives text o
unfolding comes_out
comes_out_lem text (refused_by r l) h = refused_with_lem (plan_refusal text) r l h
comes_out_lem text (accepted pairs a) h =
    let (x, y) = T_and (not_refused (plan_refusal text)) (passes (plan_of text) pairs a) h in
    record { kept = not-refused (plan_refusal text) x; facts = passes-facts (plan_of text) pairs a y }

all_come_out : (es : List Example) → T (right es) → (e : Example) → Memᴰ e es → Gives e.text e.outcome
unfolding right
all_come_out [] h e m = absurd (Memᴰ.not-nil m)
all_come_out (x ∷ es) h e m =
    let (a, b) = T_and (comes_out x.text x.outcome) (right es) h in
    ⊎_elim (λ (q : e ≡ x). subst (λ y. Gives y.text y.outcome) (sym q) (comes_out_lem x.text x.outcome a))
    (λ n. all_come_out es b e n) (Memᴰ.cases_cons m)

-- every row, of the starred plans and of the texts at the limits, gives what it says
pub examples-facts : (e : Example) → Memᴰ e (reference ++ limits) → Gives e.text e.outcome
examples-facts = all_come_out (reference ++ limits) examples-right

-- "The starred cases are shown from the definitions as one table with one fact about it."
pub reference-facts : (e : Example) → Memᴰ e reference → Gives e.text e.outcome
reference-facts e m = examples-facts e (Memᴰ.append_left limits m)

-- "procedure 8 has size 766", procedure 9 "size 1,534"
pub doubling_sizes : (size_of (plan_of to8).procs 8 ≡ 766) × (size_of (plan_of to9).procs 9 ≡ 1534)
unfolding kind_of keyword_kind between_keyword after_keyword number_of
    split unindented forms_in forms_of pick equal in_front behind plan_in plan_of body_in size_with size_at size_of
doubling_sizes = (refl, refl)
