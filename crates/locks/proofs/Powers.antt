-- The rule of the wiring table: where each entry passes the test, the one at place k is 2 to the power k. So a lock's bit is a mask.
use Prim.Native.Nat.{ℕ, ◌<◌, ◌^◌}
use mathlib.Core.Bool.{Bool}
use mathlib.Core.List.{List}
use mathlib.Core.Path.{◌≡◌}
use lib.Dec.{T, eqb, eqb→eq}
use lib.ListN.{length, get_or}
use lib.Pow.{pow-lt}
use Rattle.limits.specs.Limits.{lock_count, mask_size}
use Rattle.laws.proofs.Tables.{each_entry, entry_passes}

-- "entry k is 2 to the power k"
abbrev pub is_power : ℕ → ℕ → Bool
is_power k entry = eqb entry (2 ^ k)

pub power_at : (table : List ℕ) (k : ℕ) → T (each_entry is_power table) → k < length table → get_or table k 0 ≡ 2 ^ k
power_at table k t h = eqb→eq (get_or table k 0) (2 ^ k) (entry_passes is_power table 0 t k h)

pub bit-small : (l b : ℕ) → l < lock_count → b ≡ 2 ^ l → b < mask_size
bit-small l b h e = rw e (pow-lt h)
