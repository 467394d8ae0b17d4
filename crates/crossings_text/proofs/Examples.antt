-- The examples are computed.
use mathlib.Core.List.{flat_map}
use mathlib.Core.Option.{or_else, bind}
use mathlib.Core.Path.{refl}
use Rattle.laws.specs.Ascending.{insert_once, ascending}
use Rattle.laws.specs.Bytes.{equal}
use Rattle.laws.specs.Choice.{pick}
use Rattle.laws.specs.Mask.{bit}
use Rattle.text.specs.Forms.{number_in, kind_in}
use Rattle.text.specs.Kinds.{kind_of, keyword_kind, between_keyword, after_keyword, number_of}
use Rattle.text.specs.Lines.{split, unindented, passed_over, forms_in, forms_of, unreadable, unreadable_line, line_for, line_of}
use Rattle.semantics.specs.Claims.{by_share, by_hold, lock_of, is_hold, fresh_to}
use Rattle.semantics.specs.Plan.{body_in}
use Rattle.semantics.specs.CallMasks.{call_mask, join_through, warshall_round, reach_masks, reach_mask, join_reached}
use Rattle.semantics.specs.Sizes.{size_with, size_at, size_of}
use Rattle.semantics.specs.Run.{up}
use Rattle.semantics.specs.Pairs.{had_from, pairs_with, pairs_at, pair_list}
use Rattle.semantics.specs.Conflict.{bars}
use Rattle.plan.specs.Grammar.{in_front, behind, plan_in}
use Rattle.plan.specs.Structure.{close_block, advance_of, misplaced, misplaced_form}
use Rattle.plan.specs.Limits.{counted, over_limit, past_limit_from, past_limit_form, tested_by, least_bad, breaks, breaking, count_if, breaking_form}
use Rattle.plan.specs.Rules.{too_long, lines_refusal, references_refusal, grammar_refusal, forms_refusal, plan_of, proc_form_from, lowest_from, proc_refusal}
use Rattle.plan.specs.Rules.{recursive, idle, too_large, plan_refusal, are_no_two, crossings_refusal}
use Rattle.report_lines.specs.Lines.{digits_in, digits, members, lines_of, closing, refused_line, wanted_text, held_text, shared_text, had_text, pair_form}
use Rattle.buffers.specs.LittleEndian.{number_bytes, list_bytes}
use Rattle.couples.specs.Couples.{crosses, couples_with, couples}
use Rattle.couple_lines.specs.CoupleLines.{cross_head, cross_open, cross_line, couple_line, printed_couples}
use Rattle.crossings_text.specs.AllCrossings.{cross_entry, cross_row, cross_rows, crossings_open, cross_number, crossings_of, printed_crossings}
use Rattle.crossings_text.specs.Examples.{CrossingsRight}

pub crossings-right : CrossingsRight
unfolding printed_couples cross_head cross_open couple_line crosses couples_with couples flat_map number_bytes list_bytes cross_line cross_entry cross_row cross_rows crossings_open
    cross_number crossings_of printed_crossings are_no_two crossings_refusal digits digits_in members lines_of closing refused_line wanted_text held_text shared_text had_text pair_form by_share
    by_hold lock_of is_hold fresh_to bars had_from pairs_with pairs_at pair_list up insert_once ascending kind_of keyword_kind
    between_keyword after_keyword number_of split unindented passed_over forms_in forms_of unreadable unreadable_line line_for line_of pick or_else bind
    equal in_front behind plan_in close_block advance_of misplaced misplaced_form counted over_limit past_limit_from past_limit_form tested_by least_bad number_in kind_in
    breaks breaking count_if breaking_form too_long lines_refusal references_refusal grammar_refusal forms_refusal plan_of proc_form_from lowest_from proc_refusal recursive call_mask
    join_through warshall_round reach_masks reach_mask idle join_reached too_large plan_refusal body_in size_with size_at size_of bit
crossings-right = record {
  a = refl;
  turned = refl;
  both_orders_lem = refl;
  same = refl;
  absent = refl;
  table = refl;
  empty = refl;
  words_11 = refl;
  words_5 = refl;
  bytes_95 = refl;
  upgrade = refl;
  shares = refl;
  both_ways_lem = refl;
  words_both = refl;
}
