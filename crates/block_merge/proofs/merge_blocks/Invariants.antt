-- `merge_blocks` meets its contract: run after run, the fill and the points to come stay the same; where nothing was merged, nothing could be.
use Prim.Native.Nat.{◌-◌, ◌≤◌, ◌<◌}
use mathlib.Core.Path.{◌≡◌}
use mathlib.Core.Logic.{◌⊎◌}
use Rattle.format.specs.Limits.{writer_block_most}
use Rattle.block_merge.specs.Cells.{start, Moved}
use Rattle.block_merge.proofs.merge_blocks.Given as goal

abbrev pub invariant-loop-at : goal.invariant-loop-at
invariant-loop-at l =
    Moved l.older l.newer (start l.filled) l.initial.fill l.at l.fill
    × (l.at.filled ≤ writer_block_most) × ((l.filled < l.at.filled) ⊎ (l.at ≡ start l.filled))

abbrev pub decreases-loop-at : goal.decreases-loop-at
decreases-loop-at l = writer_block_most - l.at.filled
