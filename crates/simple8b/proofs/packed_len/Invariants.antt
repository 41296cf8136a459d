-- `simple8b::packed_len` meets its contract: the bytes counted and those of what is left are those of all.
use Rattle.std.proofs.Common.{◌≡◌, true, ◌+◌, length}
use Rattle.format.specs.Simple8b.{packed_bytes}
use Rattle.simple8b.specs.Packs.{packs}
use Rattle.simple8b.proofs.packed_len.Given as goal

abbrev pub invariant-loop-rest : goal.invariant-loop-rest
invariant-loop-rest l = (packs l.rest ≡ true) × (l.len + length (packed_bytes l.rest) ≡ length (packed_bytes l.numbers))

abbrev pub decreases-loop-rest : goal.decreases-loop-rest
decreases-loop-rest l = length l.rest
