-- `merge_run` meets its contract: the fill and the points to come stay the same, and no side passes its end.
use Prim.Native.Nat.{◌<◌}
use native.Mathlib.Omega.{arith}
use lib.ListN.{length}
use Rattle.block_merge.proofs.Moves.{moved_none, moved_on, next-moved, next-most}
use Rattle.block_merge.proofs.merge_run.Goals as goal

pub loop-n-init : goal.loop-n-init
loop-n-init c =
    let (o, n, f) = c.requires in
    (moved_none _ _ _ _ (omega (arith, o)) (omega (arith, n)), omega (arith, o), omega (arith, n))

pub lay_next-next-requires : goal.lay_next-next-requires
lay_next-next-requires c =
    let (moved, o, n) = c.loop-n.invariant in
    (omega (arith, o, c.loop-n-test.true), omega (arith, n, c.loop-n-test.true), omega (arith, c.requires.2, c.loop-n-test.true))

pub loop-n-preserved : goal.loop-n-preserved
loop-n-preserved c =
    let l = c.loop-n in
    let next = c.lay_next-next.ensures in
    let (moved, o, n) = l.invariant in
    let h : l.i < length c.args.older.times.now = omega (arith, o, c.loop-n-test.true) in
    let k : l.j < length c.args.newer.times.now = omega (arith, n, c.loop-n-test.true) in (
      moved_on _ _ moved (next-moved _ _ _ _ _ _ h k next),
      omega (arith, o, c.loop-n-test.true, (next-most next).0),
      omega (arith, n, c.loop-n-test.true, (next-most next).1),
    )
