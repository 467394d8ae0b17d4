-- How long the texts are, whatever the numbers in them. The check finds the laws of the set `widths` by itself.
use Prim.Native.Nat.{ℕ, zero, suc, ◌+◌, ◌*◌, ◌/◌, ◌%◌, ◌^◌, ◌<◌, ◌≤◌}
use native.Mathlib.Nat.{mul-suc}
use native.Mathlib.Omega.{arith}
use mathlib.Core.Bool.{Bool, true, false, cond}
use mathlib.Core.List.{List, [], ◌∷◌, ◌++◌, append_assoc}
use mathlib.Core.Path.{◌≡◌, refl, sym}
use lib.Dec.{eqb}
use lib.ListN.{length, length-append}
use Rattle.limits.specs.Limits.{lock_count, claim_count}
use Rattle.laws.specs.Bytes.{bytes}
use Rattle.laws.specs.Mask.{in_mask}
use Rattle.report_lines.specs.Lines.{digits, members, lines_of, behind_blank, proc_open, wanted_text, claimed_text, held_text, shared_text, lock_text, had_locks, had_text, pair_form, pair_line, stuck_line, step_line}
use Rattle.report_lines.specs.Lines.{proc_open_room, wanted_room, lock_room, pair_form_room, pair_line_room, stuck_line_room, step_line_room}
use Rattle.report_lines.proofs.Digits.{digits-short, number_short, byte_short}

-- ---- numbers

pub one_digit : (n : ℕ) → n < 10 → length (digits n) ≤ 1
one_digit n h = digits-short 0 n h

pub two_digits : (n : ℕ) → n < 100 → length (digits n) ≤ 2
two_digits n h = digits-short 1 n h

pub four_digits : (n : ℕ) → n < 10000 → length (digits n) ≤ 4
four_digits n h = digits-short 3 n h

-- ---- the members of a mask, each within a room

lines_append : (f : ℕ → List ℕ) (a b : List ℕ) → lines_of f (a ++ b) ≡ lines_of f a ++ lines_of f b
unfolding lines_of
lines_append f [] b = refl
lines_append f (k ∷ a) b = rw (lines_append f a b) (sym (append_assoc (f k) (lines_of f a) (lines_of f b)))

-- each within a room
pub lines-short : (f : ℕ → List ℕ) (room n m : ℕ) → ((k : ℕ) → k < n → length (f k) ≤ room) → length (lines_of f (members n m)) ≤ room * n
unfolding members lines_of
lines-short f room zero m h = omega arith
lines-short f room (suc n) m h = rw (lines_append, length-append) (go (in_mask m n) (h n (omega arith)) (lines-short f room n m (λ k b. h k (omega arith))))
  where
    go : (b : Bool) → length (f n) ≤ room → length (lines_of f (members n m)) ≤ room * n
        → length (lines_of f (members n m)) + length (lines_of f (cond b (n ∷ []) [])) ≤ room * suc n
    go true d r = rw (length-append (f n) []) (omega (arith, mul-suc room n))
    go false d r = omega (arith, mul-suc room n)

pub members-short : (m : ℕ) → length (lines_of behind_blank (members 64 m)) ≤ 192
members-short m = lines-short behind_blank 3 64 m (λ k h. omega (arith, two_digits))

-- ---- the locks that are had

claimed-short : (m c k : ℕ) (mark : List ℕ) → k < lock_count → length (claimed_text m c k mark) ≤ 3 + length mark
claimed-short m c k mark h = go (in_mask m c)
  where
    go : (b : Bool) → length (cond b (behind_blank k ++ mark) []) ≤ 3 + length mark
    go true = omega (arith, length-append (behind_blank k) mark, two_digits)
    go false = omega arith

lock-short : (m k : ℕ) → k < lock_count → length (lock_text m k) ≤ lock_room
unfolding held_text shared_text
lock-short m k h = omega (arith, length-append (held_text m k) (shared_text m k), claimed-short m (k + 32) k [] h, claimed-short m k k (bytes "s") h)

pub had-short : (m : ℕ) → length (had_text m) ≤ lock_count * lock_room
unfolding had_text
had-short m = lines-short (lock_text m) lock_room lock_count (had_locks m) (lock-short m)

-- ---- lines

pub wanted-short : (x : ℕ) → x < claim_count → length (wanted_text x) ≤ wanted_room
unfolding wanted_text
wanted-short x h = go (eqb (x % 2) 0)
  where
    go : (b : Bool) → length (bytes "(pair " ++ digits (x / 2) ++ cond b (bytes "s") []) ≤ wanted_room
    go true = rw (length-append (bytes "(pair " ++ digits (x / 2)) (bytes "s")) (omega (arith, two_digits))
    go false = rw (length-append (bytes "(pair " ++ digits (x / 2)) []) (omega (arith, two_digits))

pub form-within : (w : ℕ) → length (pair_form w) ≤ pair_form_room
unfolding pair_form
form-within w =
    rw (length-append (wanted_text (w % 64) ++ had_text (w / 64)) (bytes ")"), length-append (wanted_text (w % 64)) (had_text (w / 64)))
    (omega (arith, wanted-short (w % 64) (omega arith), had-short (w / 64)))

pub proc-short : (p : ℕ) → p < 2 ^ 64 → length (proc_open p) ≤ proc_open_room
unfolding proc_open
proc-short p h = rw (length-append, length-append) (omega (arith, number_short p h))

pub pair-short : (w : ℕ) → length (pair_line w) ≤ pair_line_room
unfolding pair_line
pair-short w = rw length-append (omega (arith, form-within w))

pub stuck-short : (m : ℕ) → length (stuck_line m) ≤ stuck_line_room
unfolding stuck_line
stuck-short m = rw (length-append, length-append) (omega (arith, members-short m))

pub step-short : (e : ℕ) → e < 2 ^ 16 → length (step_line e) ≤ step_line_room
unfolding step_line
step-short e h =
    rw (length-append, length-append, length-append, length-append)
    (omega (arith, one_digit, four_digits))

pub ruleset widths = (one_digit, two_digits, four_digits, byte_short, number_short, members-short, had-short, wanted-short, form-within, pair-short, proc-short, stuck-short, step-short)
