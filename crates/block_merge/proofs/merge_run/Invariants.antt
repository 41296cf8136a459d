-- `merge_run` meets its contract: the fill and the points to come stay the same, and no side passes its end.
use Prim.Native.Nat.{◌-◌}
use Rattle.block_merge.specs.Cells.{Within, Moved}
use Rattle.block_merge.proofs.merge_run.Given as goal

abbrev pub invariant-loop-n : goal.invariant-loop-n
invariant-loop-n l =
    Moved l.older l.newer l.fn.at l.initial.fill (record { older = l.i; newer = l.j; filled = l.n }) l.fill
    × Within l.older l.i (l.stop - l.n) × Within l.newer l.j (l.stop - l.n)
