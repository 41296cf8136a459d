-- `simple8b::pack_word` meets its contract. The loop's invariant: the bits are those of the numbers from i on.
use Rattle.simple8b.proofs.Gather.{Gather}
use Rattle.simple8b.proofs.pack_word.Given as goal

abbrev pub invariant-loop-i : goal.invariant-loop-i
invariant-loop-i l = Gather l.width l.numbers l.initial.i l.bits l.i
