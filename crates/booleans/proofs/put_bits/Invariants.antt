-- `put_bits`: the bytes that are left, laid over the memory as it stands, give what all of them give over the memory at entry.
use Rattle.std.proofs.Common.{◌≡◌, ◌+◌, length}
use Rattle.std.specs.Slice.Iter.{chunks_rest, chunks_size}
use Rattle.format.specs.Booleans.{bytes_of_bits, bitmap_size}
use Rattle.format.specs.Bytes.{splice}
use Rattle.section_laws.specs.Bits.{AllBits}
use Rattle.booleans.proofs.put_bits.Given as goal

abbrev pub invariant-loop-byte : goal.invariant-loop-byte
invariant-loop-byte l =
    let rest = chunks_rest l.byte-iterator in
    (l.place + bitmap_size (length rest) ≡ l.at + bitmap_size (length l.values))
    × AllBits rest
    × (chunks_size l.byte-iterator ≡ 8)
    × (splice l.place (bytes_of_bits (bitmap_size (length rest)) rest) l.out ≡ splice l.at (bytes_of_bits (bitmap_size (length l.values)) l.values) l.initial.out)
