-- `skip_entries` meets its contract: the series after the open key stay the same.
use Prim.Native.Nat.{◌≤◌}
use mathlib.Core.Path.{◌≡◌}
use Rattle.feed.specs.Feeds.{series_left, Stands}
use Rattle.key_merge.proofs.skip_entries.Given as goal

abbrev pub invariant-loop-past : goal.invariant-loop-past
invariant-loop-past l = Stands l.image l.on × (l.on.count ≤ l.on.next) × (series_left l.image l.on ≡ series_left l.image l.initial.on)

abbrev pub decreases-loop-past : goal.decreases-loop-past
decreases-loop-past l = l.on.cursor.left
