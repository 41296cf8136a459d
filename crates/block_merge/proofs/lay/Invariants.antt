-- `lay` meets its contract: the values that are left, laid from i on, make what all of them make from the start.
use Rattle.std.proofs.Common.{◌≡◌, drop}
use Rattle.format.specs.Bytes.{splice}
use Rattle.block_merge.proofs.lay.Given as goal

abbrev pub invariant-loop-i : goal.invariant-loop-i
invariant-loop-i g l = splice l.i (drop l.i l.values) l.cells ≡ l.values
