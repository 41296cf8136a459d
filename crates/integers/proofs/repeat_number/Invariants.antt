-- `integers::repeat_number` meets its contract: the values that are left, laid from here on, make what all of them make from the start.
use Rattle.std.proofs.Common.{◌≡◌, ◌-◌, length}
use Rattle.format.specs.Bytes.{splice}
use Rattle.integers.proofs.Cells.{runs}
use Rattle.integers.proofs.repeat_number.Given as goal

abbrev pub invariant-loop-value : goal.invariant-loop-value
invariant-loop-value l =
    let n = length l.initial.values in
    splice l.value-index (runs l.next l.number (n - l.value-index)) l.values ≡ runs l.first l.number n
