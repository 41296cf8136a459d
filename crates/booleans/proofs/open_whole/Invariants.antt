-- `open_whole`: the bits of the bytes that are left, laid over the values as they stand, give what all of them give over the values at entry.
use Rattle.std.proofs.Common.{◌≡◌, ◌*◌, drop}
use Rattle.format.specs.Bytes.{overwrite, splice}
use Rattle.format.specs.Booleans.{bits_of_bytes}
use Rattle.booleans.proofs.open_whole.Given as goal

abbrev pub invariant-loop-i : goal.invariant-loop-i
invariant-loop-i l = splice (8 * l.i) (bits_of_bytes (drop l.i l.bytes)) l.values ≡ overwrite (bits_of_bytes l.bytes) l.initial.values
