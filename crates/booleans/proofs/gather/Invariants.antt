-- `gather`: the values passed, each in its bit, and the number of those that are left make up the byte.
use Rattle.std.proofs.Common.{◌≡◌, ◌+◌, ◌-◌, drop}
use Rattle.format.specs.Booleans.{byte_of_bits}
use Rattle.booleans.proofs.gather.Given as goal

abbrev pub invariant-loop-i : goal.invariant-loop-i
invariant-loop-i l = l.byte + byte_of_bits (8 - l.i) (drop l.i l.values) ≡ byte_of_bits 8 l.values
