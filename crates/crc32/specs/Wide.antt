-- The register of 320 bits into which long input is folded.
--   wide, number   the register's five words as a number
use Rattle.std.specs.Prelude.{ℕ, ◌*◌, ◌^◌}
use Rattle.std.specs.Int.Bits.{bit_xor}
use Rattle.crc32.specs.declared.Words.{Words}

-- five words as a number, the low word first
unfoldable pub wide : ℕ → ℕ → ℕ → ℕ → ℕ → ℕ
wide a b c d e = bit_xor a (bit_xor b (bit_xor c (bit_xor d (e * 2 ^ 64) * 2 ^ 64) * 2 ^ 64) * 2 ^ 64)

abbrev pub number : Words → ℕ
number r = wide r.first r.second r.third r.fourth r.fifth
