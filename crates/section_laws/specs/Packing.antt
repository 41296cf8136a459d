-- "Facts about packing are shown once for any bit width."
--   Packing w   of numbers of w bits side by side, the first in the lowest bits: packing and opening undo one another, and
--               neither goes past its bits
use Rattle.std.specs.Prelude.{ℕ, ◌*◌, ◌^◌, ◌<◌, ◌≡◌, List, length}
use Rattle.format.specs.Bytes.{AllBelow}
use Rattle.format.specs.Simple8b.{pack, unpack}

pub record Packing (w : ℕ) : Type 0 where
  pub unpack_pack : (xs : List ℕ) → AllBelow (2 ^ w) xs → unpack w (length xs) (pack w xs) ≡ xs
  pub pack_unpack : (k n : ℕ) → n < 2 ^ (k * w) → pack w (unpack w k n) ≡ n
  pub pack_below : (xs : List ℕ) → AllBelow (2 ^ w) xs → pack w xs < 2 ^ (length xs * w)
  pub unpack_length : (k n : ℕ) → length (unpack w k n) ≡ k
  pub unpack_below : (k n : ℕ) → AllBelow (2 ^ w) (unpack w k n)
