-- `merge_points` meets its contract: the points to come and the fill come to what the key came to at first.
use lib.ListN.{length}
use Rattle.builder.specs.Steps.{closed_key}
use Rattle.point_merge.specs.Adding.{merged_points}
use Rattle.point_merge.proofs.Points.{Merging}
use Rattle.point_merge.proofs.merge_points.Given as goal

abbrev pub invariant-loop-sides : goal.invariant-loop-sides
invariant-loop-sides l = Merging l.images l.initial.sides l.initial.builder (closed_key (merged_points l.images l.initial.sides) l.initial.builder l.initial.out) l.sides l.builder l.out

abbrev pub decreases-loop-sides : goal.decreases-loop-sides
decreases-loop-sides l = length (merged_points l.images l.sides)
