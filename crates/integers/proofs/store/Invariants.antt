-- `integers::store` meets its contract: the numbers that are left, laid from here on, make what all of them make from the start.
use Rattle.std.proofs.Common.{◌≡◌, drop}
use Rattle.format.specs.Bytes.{splice}
use Rattle.format.specs.Integers.{stored_from}
use Rattle.integers.proofs.store.Given as goal

abbrev pub invariant-loop-i : goal.invariant-loop-i
invariant-loop-i l = splice l.i (stored_from l.before (drop l.i l.values)) l.stored ≡ stored_from 0 l.values
