-- The decoded block in the cells.
--   points-blocks   where none is held, the points of the key are those of its blocks
--   block-after     where none is held, the next block holds those to come
use Prim.Native.Nat.{ℕ, ◌≤◌}
use mathlib.Core.Path.{◌≡◌}
use mathlib.Core.List.{List}
use lib.IntN.{ℤ}
use Rattle.format.proofs.Cells.{cells-none}
use Rattle.feed.specs.declared.Feed.{Feed}
use Rattle.feed.specs.Feeds.{blocks_left, points_left, BlockOpened}

module _ (f : Feed) (times : List ℤ) (values : List ℕ) where
  pub points-blocks : (image : List ℕ) → f.count ≤ f.next → points_left image f times values ≡ blocks_left image f
  unfolding points_left
  points-blocks image h = rw (cells-none times values f.next f.count h)

  pub block-after : (image : List ℕ) (new_times : List ℤ) (new_values : List ℕ) (g : Feed) → f.count ≤ f.next → BlockOpened image f new_times new_values g
      → points_left image f times values ≡ points_left image g new_times new_values
  unfolding points_left
  block-after image new_times new_values g none b = rw (cells-none times values f.next f.count none) b.points
