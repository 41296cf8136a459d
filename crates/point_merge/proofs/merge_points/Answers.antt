-- `merge_points` meets its contract: the points to come and the fill come to what the key came to at first.
use Prim.Native.Nat.{◌+◌, ◌<◌}
use mathlib.Core.Path.{◌≡◌, sym, subst, ap₂, ◌∙◌}
use mathlib.Core.List.{List}
use native.Mathlib.Omega.{arith}
use borrow.Author.Rules.{rules}
use lib.ListN.{length}
use Rattle.format.specs.Meaning.{Point}
use Rattle.format.specs.Merge.{merge_points}
use Rattle.builder.specs.declared.Builder.{Builder}
use Rattle.builder.specs.Steps.{closed_key}
use Rattle.builder.proofs.Judges.{past-both, past_near}
use Rattle.point_merge.specs.declared.Sides.{Sides}
use Rattle.point_merge.specs.Adding.{merged_points}
use Rattle.point_merge.proofs.Points.{Merging, merging-past, merging-settled, merging-ends, past_points, grown-fits, grown-less, grown-goes-on}
use Rattle.point_merge.proofs.merge_points.Goals as goal
use Rattle.point_merge.proofs.merge_points.Goals.{After-points-newer, After-grow-grown, else-is_empty-via-then-is_empty+else-is_empty-2, else-is_empty-via-else-is_empty}

-- both sides are settled
module _ (c : After-points-newer) where
  abbrev sides : Sides
  sides = record { older = c.settle.new.self; newer = c.settle-in-loop-sides.new.self }

  settled :
      let a = c.args in
      let l = c.loop-sides in
      Merging a.images a.sides.now a.builder.now (closed_key (merged_points a.images a.sides.now) a.builder.now a.out.now) sides l.builder l.out
  settled = merging-settled c.loop-sides.invariant c.settle.ensures c.settle-in-loop-sides.ensures

-- a point is left of one of them
some : (c : After-grow-grown) → 0 < length c.points-older.result.times.now + length c.points-newer.result.times.now
some c =
    elim c.else-is_empty.branch [
      | else-is_empty-via-then-is_empty+else-is_empty-2 w ↦ (let more : length c.points-newer.result.times.now ≡ 0 → ⊥ = search rules in omega arith)
      | else-is_empty-via-else-is_empty w ↦ (let more : length c.points-older.result.times.now ≡ 0 → ⊥ = search rules in omega arith)
    ]

pub returns-then-past : goal.returns-then-past
returns-then-past c =
    let l = c.loop-sides in
    merging-past l.invariant (past-both l.builder.places.ends (sym c.past.ensures ∙ c.if-past.true))

pub returns-then-is_empty-2 : goal.returns-then-is_empty-2
returns-then-is_empty-2 c =
    let d = (goal.at.returns-then-is_empty-2 c).After-points-newer in
    let first : length c.points-older.result.times.now ≡ 0 = search rules in
    let second : length c.points-newer.result.times.now ≡ 0 = search rules in
    merging-ends (settled d) c.settle.ensures.done c.settle-in-loop-sides.ensures.done (omega (arith, first, c.points-older.ensures.count)) (omega (arith, second, c.points-newer.ensures.count))

pub extend-requires : goal.extend-requires
extend-requires c =
    let at = goal.at.extend-requires c in
    grown-fits (settled at.After-points-newer) c.settle.ensures.done c.settle-in-loop-sides.ensures.done c.points-older.ensures c.points-newer.ensures c.grow-grown.ensures (some at.After-grow-grown)

pub loop-sides-smaller : goal.loop-sides-smaller
loop-sides-smaller c =
    let at = goal.at.loop-sides-smaller c in
    let same = ap₂ (λ (ps qs : List Point). length (merge_points ps qs)) c.settle.ensures.points c.settle-in-loop-sides.ensures.points in
    omega (arith, same, grown-less (settled at.After-points-newer) c.settle.ensures.done c.settle-in-loop-sides.ensures.done c.points-older.ensures c.points-newer.ensures c.grow-grown.ensures (some at.After-grow-grown))

pub loop-sides-preserved : goal.loop-sides-preserved
loop-sides-preserved c =
    let at = goal.at.loop-sides-preserved c in
    let a = c.args in
    subst (λ (b : Builder). Merging a.images a.sides.now a.builder.now (closed_key (merged_points a.images a.sides.now) a.builder.now a.out.now) (past_points (sides at.After-points-newer) c.grow-grown.result) b c.extend.new.out) (sym c.extend.ensures.builder)
    (grown-goes-on (settled at.After-points-newer) c.settle.ensures.done c.settle-in-loop-sides.ensures.done c.points-older.ensures c.points-newer.ensures c.grow-grown.ensures (some at.After-grow-grown)
    c.extend.new.out c.extend.ensures.laid (past_near c.loop-sides.builder.places.ends (sym c.past.ensures ∙ c.if-past.false)))
