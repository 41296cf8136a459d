-- Rows of holes, by their bytes. Request 2: "Take a byte at a time: its eight holes opened at once, shown over all 256 bytes to be its bits,
-- highest first"; document 01: "first value in the HIGHEST bit".
--   EightHoles byte holes   the eight values of a byte
--   HoleRows                each byte, and each value of a section
use Rattle.std.specs.Prelude.{ℕ, ◌+◌, ◌-◌, ◌*◌, ◌/◌, ◌%◌, ◌^◌, ◌≤◌, ◌<◌, ◌≡◌, ◌↔◌, List, length, get_or}
use Rattle.format.specs.Choice.{Each}
use Rattle.format.specs.Varint.{varint}
use Rattle.booleans.specs.Pairs.{opened_byte}
use Rattle.acceptance.specs.Sections.{BooleansSection}

-- eight values, each 0 or 1; the first counts 128 and the last 1, and together they make up the byte
pub record EightHoles (byte : ℕ) (holes : List ℕ) : Type 0 where
  pub eight : length holes ≡ 8
  pub bit : Each (λ v. v ≤ 1) holes
  pub weights : byte
      ≡ 128 * get_or holes 0 0 + 64 * get_or holes 1 0 + 32 * get_or holes 2 0 + 16 * get_or holes 3 0
      + 8 * get_or holes 4 0 + 4 * get_or holes 5 0 + 2 * get_or holes 6 0 + get_or holes 7 0

-- Not met where a byte is opened from its low edge, nor where a single one of the 256 is opened otherwise.
pub record HoleRows : Type 0 where
  -- a byte is opened into the eight values whose weights make it up, and into no others (`booleans::open_byte` lays `opened_byte`)
  pub byte : (b : ℕ) (holes : List ℕ) → b < 256 → (opened_byte b ≡ holes) ↔ EightHoles b holes
  -- value i of a section stands in byte i / 8 of those after the first byte and the count, the first of them in its highest bit
  pub row : (bs vs : List ℕ) (i : ℕ) → BooleansSection bs vs → i < length vs
      → get_or vs i 0 ≡ get_or bs (1 + length (varint (length vs)) + i / 8) 0 / 2 ^ (7 - i % 8) % 2
