-- A byte that ends a line and has none such before it is the first, and where all bytes were tried there is none.
use Rattle.std.proofs.Common.{◌≡◌, ◌==◌, length, arith, refl, lt-ltb, le-ltb}
use Rattle.std.proofs.lemmas.List.Sums.{position_or_len_is}
use Rattle.std.specs.List.{position_or_len}
use Rattle.text.proofs.line_end.Goals as goal

pub returns-then-byte-eq10 : goal.returns-then-byte-eq10
returns-then-byte-eq10 c =
    let s = c.args.s.now in
    let i = c.loop-i.i in
    let first : position_or_len (λ b. b == 10) s ≡ i = position_or_len_is (λ b. b == 10) s i 0 (omega arith) c.loop-i.invariant (λ _. rw c.if-byte-eq10.true refl) in
    rw (first, lt-ltb i (length s) c.loop-i-test.true) refl

pub returns : goal.returns
returns c =
    let s = c.args.s.now in
    let i = c.loop-i.i in
    let all : position_or_len (λ b. b == 10) s ≡ i = position_or_len_is (λ b. b == 10) s i 0 (omega arith) c.loop-i.invariant (λ h. absurd (omega arith)) in
    rw (all, le-ltb i (length s) (omega arith)) refl
