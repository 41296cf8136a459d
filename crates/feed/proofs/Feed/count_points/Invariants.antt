-- `Feed::count_points`: the points counted and those of the blocks to come make all of them.
use Prim.Native.Nat.{◌+◌}
use mathlib.Core.Path.{◌≡◌}
use Rattle.feed.proofs.Counts.{Counting}
use Rattle.feed.proofs.Feed.count_points.Given as goal

abbrev pub invariant-loop : goal.invariant-loop
invariant-loop l = Counting l.image l.fn.self.start l.fn.self.cursor l.cursor l.count × (l.cursor.left + l.counter ≡ l.end)
