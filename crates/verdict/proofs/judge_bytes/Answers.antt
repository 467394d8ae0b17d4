-- The verdict over a table of entries, whose schedule is put into the buffer as bytes.
use Rattle.verdict.proofs.Judging.{schedule-within, schedule-room, verdict-small, bytes-scheduled}
use borrow.Author.Rules.{rules}
use Rattle.verdict.proofs.judge_bytes.Goals as goal

pub slice_bounds-put_entries-end : goal.slice_bounds-put_entries-end
slice_bounds-put_entries-end c = search (schedule-within, rules)

pub slice_bounds-put_entries-end-2 : goal.slice_bounds-put_entries-end-2
slice_bounds-put_entries-end-2 c = search (schedule-within, rules)

pub put_entries-requires : goal.put_entries-requires
put_entries-requires c = search (schedule-room, rules)

pub verdict_number-requires : goal.verdict_number-requires
verdict_number-requires c = search (verdict-small, rules)

pub returns : goal.returns
returns c = search (bytes-scheduled, rules)
