-- `numbers::put_varint` meets its contract: what is left, laid from the next place on, makes what the whole varint makes from the start.
use Rattle.std.proofs.Common.{◌≡◌, ◌+◌, ◌^◌, ◌<◌, length}
use Rattle.format.specs.Varint.{varint}
use Rattle.format.specs.Bytes.{splice}
use Rattle.numbers.proofs.put_varint.Given as goal

abbrev pub invariant-loop-left : goal.invariant-loop-left
invariant-loop-left l =
    (l.left < 2 ^ 64)
    × (l.place + length (varint l.left) ≡ l.at + length (varint l.n))
    × (length l.out ≡ length l.initial.out)
    × (splice l.place (varint l.left) l.out ≡ splice l.at (varint l.n) l.initial.out)

abbrev pub decreases-loop-left : goal.decreases-loop-left
decreases-loop-left l = l.left
