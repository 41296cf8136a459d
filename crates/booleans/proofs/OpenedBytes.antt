-- A byte opened at once gives its bits, the highest first: one test that the checker computes over all 256 bytes, and the rule at each of them.
--   opened-bits   the eight values of a byte are its bits
--   pair-rows     the rule of the table of pairs
use Prim.Native.Nat.{ℕ, ◌+◌, ◌*◌, ◌/◌, ◌%◌, ◌<◌}
use mathlib.Core.Path.{◌≡◌, refl}
use mathlib.Core.Bool.{Bool, true, ◌&&◌}
use lib.ListN.{get_or}
use lib.Dec.{eqb}
use borrow.Author.Tests.{eqb-true}
use Rattle.format.specs.Choice.{every, same_list}
use Rattle.format.specs.Booleans.{bits_high_first}
use Rattle.format.proofs.Tests.{both_left, both_right, below, every-below}
use Rattle.format.proofs.Orders.{same_list-path}
use Rattle.booleans.specs.Pairs.{pair_rows, opened_byte}

-- the test, and that all 256 bytes pass it
right : ℕ → Bool
right b = same_list (opened_byte b) (bits_high_first 8 b)

all_right : every right (below 256) ≡ true
unfolding right opened_byte bits_high_first
all_right = refl

pub opened-bits : (b : ℕ) → b < 256 → opened_byte b ≡ bits_high_first 8 b
unfolding right
opened-bits b h = same_list-path (opened_byte b) (bits_high_first 8 b) (every-below right 256 all_right b h)

row : ℕ → Bool
row p = eqb (get_or pair_rows (p * 2) 0) (p / 2) && eqb (get_or pair_rows (p * 2 + 1) 0) (p % 2)

pub pair-rows : (p : ℕ) → p < 4 → (get_or pair_rows (p * 2) 0 ≡ p / 2) × (get_or pair_rows (p * 2 + 1) 0 ≡ p % 2)
unfolding row
pair-rows p h =
    let t = every-below row 4 refl p h in
    (eqb-true (get_or pair_rows (p * 2) 0) (p / 2) (both_left _ _ t), eqb-true (get_or pair_rows (p * 2 + 1) 0) (p % 2) (both_right (eqb (get_or pair_rows (p * 2) 0) (p / 2)) _ t))
