-- `integers::repeated` meets its contract: from three numbers on two follow the first.
use Rattle.std.proofs.Common.{length, drop, arith, length-drop}
use borrow.Author.Tests.{le-leb}
use Rattle.simple8b.proofs.Packing.{after-front}
use Rattle.integers.proofs.repeated.Goals as goal

pub returns-then-stored-ge-REPEATS_FROM : goal.returns-then-stored-ge-REPEATS_FROM
returns-then-stored-ge-REPEATS_FROM c =
    let s = c.args.stored.now in
    rw (le-leb 2 (length (drop 1 s)) (omega (arith, length-drop 1 s))) (rw after-front at c.all_equal.ensures)
