-- `integers::add_up` meets its contract: the values that are left, laid from here on, make what all of them make from the start.
use Rattle.std.proofs.Common.{◌≡◌, drop}
use Rattle.format.specs.Bytes.{splice}
use Rattle.format.specs.Integers.{values_from}
use Rattle.integers.proofs.add_up.Given as goal

abbrev pub invariant-loop-value : goal.invariant-loop-value
invariant-loop-value l =
    splice l.value-index (values_from l.before (drop l.value-index l.values)) l.values ≡ values_from 0 l.initial.values
