-- `put_signed` meets its contract: the values that are left, laid from i on, make what all of them make from the start.
use Rattle.std.proofs.Common.{◌≡◌, map, drop}
use Rattle.format.specs.Bytes.{splice}
use Rattle.format.specs.Signed as Signed
use Rattle.reader.proofs.put_signed.Given as goal

abbrev pub invariant-loop-i : goal.invariant-loop-i
invariant-loop-i l = splice l.i (map Signed.signed (drop l.i l.patterns)) l.out ≡ map Signed.signed l.patterns
