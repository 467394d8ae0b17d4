-- The examples are computed.
use mathlib.Core.Option.{or_else, bind}
use mathlib.Core.Path.{refl}
use Rattle.laws.specs.Bytes.{equal}
use Rattle.laws.specs.Choice.{pick}
use Rattle.laws.specs.Mask.{bit}
use Rattle.text.specs.Forms.{number_in, kind_in, decimal, write}
use Rattle.text.specs.Kinds.{kind_of, keyword_kind, between_keyword, after_keyword, number_of}
use Rattle.text.specs.Lines.{split, unindented, passed_over, forms_in, forms_of, unreadable, unreadable_line, line_for, line_of, text_of}
use Rattle.semantics.specs.Claims.{by_share, by_hold, lock_of, is_hold}
use Rattle.semantics.specs.Plan.{body_in, ◌⨾◌}
use Rattle.semantics.specs.CallMasks.{call_mask, join_through, warshall_round, reach_masks, reach_mask, join_reached}
use Rattle.semantics.specs.Sizes.{size_with, size_at, size_of}
use Rattle.plan.specs.Grammar.{claim_form, block_forms, proc_forms, thread_forms, forms, in_front, behind, plan_in}
use Rattle.plan.specs.Structure.{close_block, advance_of, misplaced, misplaced_form}
use Rattle.plan.specs.Limits.{counted, over_limit, past_limit_from, past_limit_form, tested_by, least_bad, breaks, breaking, count_if, breaking_form}
use Rattle.plan.specs.Rules.{too_long, lines_refusal, references_refusal, grammar_refusal, forms_refusal, plan_of, proc_form_from, lowest_from, proc_refusal}
use Rattle.plan.specs.Rules.{recursive, idle, too_large, plan_refusal}
use Rattle.straightening.specs.Straight.{straight, straight_plan}
use Rattle.bare_text.specs.Bare.{bare_text}
use Rattle.report_lines.specs.Lines.{digits_in, digits, refused_line}
use Rattle.copies.specs.Copies.{tidy_of, straight_of, printed_copy}
use Rattle.copies.specs.CopyExamples.{CopiesRight}

pub copies-right : CopiesRight
unfolding printed_copy tidy_of straight_of straight_plan straight bare_text text_of write decimal forms proc_forms block_forms claim_form thread_forms ◌⨾◌ digits digits_in refused_line kind_of
    keyword_kind between_keyword after_keyword number_of split unindented passed_over
    forms_in forms_of unreadable unreadable_line line_for line_of pick or_else bind equal in_front behind plan_in close_block advance_of misplaced misplaced_form
    counted over_limit past_limit_from past_limit_form tested_by least_bad number_in kind_in breaks breaking count_if breaking_form too_long lines_refusal references_refusal
    grammar_refusal forms_refusal plan_of proc_form_from lowest_from proc_refusal recursive call_mask join_through warshall_round reach_masks reach_mask idle join_reached too_large
    by_share by_hold lock_of is_hold plan_refusal body_in size_with size_at size_of bit
copies-right = record { straight = refl; tidy = refl; within = refl; again = refl; shared = refl; shared-tidy = refl; refused = refl; empty = refl }
