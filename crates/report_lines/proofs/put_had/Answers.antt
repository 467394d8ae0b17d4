-- The locks that are not left are written; each of those left is a lock.
use borrow.Author.Rules.{rules}
use Prim.Native.Nat.{suc}
use native.Mathlib.Omega.{arith}
use mathlib.Core.Path.{ap, refl}
use lib.ListN.{length}
use Rattle.report_lines.specs.Lines.{lock_text, had_text}
use Rattle.report_lines.proofs.Listings.{members-lt, listing_none, listing_room, listing_more, listing_done}
use Rattle.report_lines.proofs.WholeLines.{had-listed}
use Rattle.report_lines.proofs.put_had.Goals as goal

pub loop-k-init : goal.loop-k-init
loop-k-init c =
    let all = had-listed c.args.mask c.into_iter-k-iterator.result.0 c.ranges.mask (cc) in
    (search rules, refl, rw all (members-lt 32 _), rw all (listing_none _ _ _ _ (omega arith)))

pub put_lock-i-requires : goal.put_lock-i-requires
unfolding had_text
put_lock-i-requires c =
    let next = c.in-Some.ensures.steps in
    let first = rw next at (c.loop-k.invariant.2 0 0 (omega (arith, ap length next))) in
    (first, search (listing_room (lock_text c.args.mask), rules))

pub loop-k-preserved : goal.loop-k-preserved
loop-k-preserved c =
    let next = c.in-Some.ensures.steps in
    let others = rw next at c.loop-k.invariant.2 in
    (search rules, search rules, (λ k d h. others (suc k) d (omega arith)), search (listing_more, rules))

pub returns : goal.returns
unfolding had_text
returns c = let none = c.in-None.ensures.steps in search (listing_done, rules)
