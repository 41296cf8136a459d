-- `kinds_clash` meets its contract: what is left to ask of the kinds is what was to ask at first.
use Prim.Native.Nat.{◌+◌}
use mathlib.Core.Path.{◌≡◌}
use lib.ListN.{length}
use Rattle.format.specs.Merge.{kinds_clash}
use Rattle.merging.proofs.Sorted.{Ascending}
use Rattle.merging.proofs.Orders.{by_key}
use Rattle.feed.specs.Feeds.{series_left}
use Rattle.key_merge.specs.Turns.{Standing, meaning_of}
use Rattle.key_merge.proofs.kinds_clash.Given as goal

abbrev pub invariant-loop-turn : goal.invariant-loop-turn
invariant-loop-turn l =
    Standing l.images l.at
    × Ascending by_key (series_left l.images.older.now l.at.older) × Ascending by_key (series_left l.images.newer.now l.at.newer)
    × (kinds_clash (series_left l.images.older.now l.at.older) (series_left l.images.newer.now l.at.newer) ≡ kinds_clash (meaning_of l.images.older.now) (meaning_of l.images.newer.now))

abbrev pub decreases-loop-turn : goal.decreases-loop-turn
decreases-loop-turn l = length (series_left l.images.older.now l.at.older) + length (series_left l.images.newer.now l.at.newer)
