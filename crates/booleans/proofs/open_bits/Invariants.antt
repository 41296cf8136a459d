-- `open_bits`: the bits that are left, laid over the values as they stand, give what all of them give over the values at entry.
use Rattle.std.proofs.Common.{◌≡◌, ◌-◌, length, take}
use Rattle.format.specs.Booleans.{bits_high_first}
use Rattle.format.specs.Bytes.{splice}
use Rattle.booleans.proofs.open_bits.Given as goal

abbrev pub invariant-loop-i : goal.invariant-loop-i
invariant-loop-i l =
    splice l.i (take (length l.initial.values - l.i) (bits_high_first (8 - (l.i - l.at)) l.byte)) l.values
    ≡ splice l.at (take (length l.initial.values - l.at) (bits_high_first 8 l.byte)) l.initial.values
