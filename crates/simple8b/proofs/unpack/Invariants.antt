-- `simple8b::unpack` meets its contract: the numbers of the words passed stand in the cells, and what is left completes them.
use Rattle.std.proofs.Common.{◌*◌, drop}
use Rattle.simple8b.proofs.Unpacking.{Unpacking}
use Rattle.simple8b.proofs.unpack.Given as goal

abbrev pub invariant-loop-i : goal.invariant-loop-i
invariant-loop-i l = Unpacking l.words l.initial.numbers l.numbers l.count (drop (l.i * 8) l.words)
