-- `simple8b::choose` meets its contract. The loop's invariant: no selector before p fits, and the numbers before i fit the width of p.
use Rattle.simple8b.proofs.Search.{Searched}
use Rattle.simple8b.proofs.choose.Given as goal

abbrev pub invariant-loop-p : goal.invariant-loop-p
invariant-loop-p l = Searched l.numbers l.p l.i
