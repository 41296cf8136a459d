-- Bits as numbers.
--   AllBits   each value is 0 or 1
use Rattle.std.specs.Prelude.{List, ℕ}
use Rattle.format.specs.Bytes.{AllBelow}

-- each value is 0 or 1
abbrev pub AllBits : List ℕ → Type 0
AllBits vs = AllBelow 2 vs
