-- `Table::word_on` meets its contract: a word is eight groups of four bits.
use mathlib.Core.Path.{◌≡◌}
use Prim.Native.Nat.{◌+◌, ◌*◌, ◌/◌, ◌%◌, ◌^◌}
use native.Mathlib.Nat.{add-zero, div-one}
use native.Mathlib.Omega.{arith}
use lib.Bits.{xor_zero_r}
use Rattle.format.specs.Crc32.{shift_bits}
use Rattle.crc32.proofs.Runs.{bits-zero}
use Rattle.crc32.proofs.ByGroups.{by-groups}
use Rattle.crc32.proofs.Table.word_on.Goals as goal

pub returns : goal.returns
returns c =
    let k = c.args.k in
    let x = c.args.x in
    let none : x / 16 ^ 8 ≡ 0 = omega (arith, c.ranges.x) in
    let bits : 4 * (k + 8) ≡ 4 * k + 32 = omega arith in
    cc (by-groups k 8 0 x, add-zero k, div-one x, none, bits, bits-zero (4 * k), xor_zero_r (shift_bits (4 * k + 4) (x / 0x1000_0000 % 16)))
