-- `Table::eight` meets its contract: a word is two halves, of which the low one goes 32 bits further.
use mathlib.Core.Path.{sym, ap, ap₂, ◌∙◌}
use Prim.Native.Nat.{ℕ}
use native.Mathlib.Omega.{arith}
use lib.Bits.{bit_xor, xor_lt}
use Rattle.format.specs.Crc32.{shift_bits}
use Rattle.crc32.proofs.Runs.{bits-split}
use Rattle.crc32.proofs.ByBytes.{eight}
use Rattle.crc32.proofs.Table.eight.Goals as goal

pub overflow_cast-x-2 : goal.overflow_cast-x-2
overflow_cast-x-2 c =
    record { fits = omega (arith, xor_lt 64 c.args.c c.from_le_bytes.result (omega (arith, c.ranges.c)) (omega (arith, c.from_le_bytes.type_inv))) }

pub returns : goal.returns
returns c =
    let r = c.args.c in
    ap₂ bit_xor c.word_on.ensures c.word_on-2.ensures
    ∙ sym (bits-split 32 32 (bit_xor r c.from_le_bytes.result))
    ∙ ap (λ (x : ℕ). shift_bits 64 (bit_xor r x)) c.from_le_bytes.ensures
    ∙ sym (eight r c.args.bytes.now c.fits-bytes c.told-bytes)
