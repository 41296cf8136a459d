-- `simple8b::put_packed` meets its contract: what is left, laid here, completes what is laid from the start.
use Rattle.std.proofs.Common.{length}
use Rattle.simple8b.proofs.Packing.{Laying}
use Rattle.simple8b.proofs.put_packed.Given as goal

abbrev pub invariant-loop-rest : goal.invariant-loop-rest
invariant-loop-rest l = Laying l.numbers l.initial.out l.at l.out l.place l.rest

abbrev pub decreases-loop-rest : goal.decreases-loop-rest
decreases-loop-rest l = length l.rest
