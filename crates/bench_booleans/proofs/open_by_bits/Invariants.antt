-- `open_by_bits`: the bits that are left, laid over the values as they stand, give what all of them give over the values at entry.
use Rattle.std.proofs.Common.{◌≡◌, ◌-◌, length, take, drop}
use Rattle.format.specs.Bytes.{splice}
use Rattle.format.specs.Booleans.{bits_of_bytes}
use Rattle.bench_booleans.proofs.open_by_bits.Given as goal

abbrev pub invariant-loop-i : goal.invariant-loop-i
invariant-loop-i l =
    splice l.i (take (length l.initial.values - l.i) (drop l.i (bits_of_bytes l.bytes))) l.values ≡ take (length l.initial.values) (bits_of_bytes l.bytes)
