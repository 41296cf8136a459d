-- The merged points of a key: what adding them asks, and what it answers.
--   feeds_of      where both images are read
--   side_points, merged_points   the points of the open key that are left, of one image, and of both merged
--   Settled       a side at a point of its decoded block, or at its end
--   PointsAre     the points of the decoded block that are left
--   PointsReady, AllAdded, PointsAddedAs   the points of a key are added
use Rattle.std.specs.Prelude.{ℕ, ◌-◌, ◌≤◌, ◌≡◌, List, [], length, Result, Ok, Err}
use Rattle.format.specs.Bytes.{part}
use Rattle.format.specs.Meaning.{Point}
use Rattle.format.specs.Merge.{merge_points}
use Rattle.builder.specs.declared.Builder.{Builder}
use Rattle.builder.specs.Steps.{Closed, closed_key}
use Rattle.builder.specs.Passes.{Filling, Past}
use Rattle.block_merge.specs.declared.side.Points.{Points}
use Rattle.feed.specs.Feeds.{points_left, series_left, Stands, Done}
use Rattle.key_merge.specs.declared.Feeds.{Feeds}
use Rattle.key_merge.specs.declared.Images.{Images}
use Rattle.key_merge.specs.Turns.{KeyDone}
use Rattle.point_merge.specs.declared.Side.{Side}
use Rattle.point_merge.specs.declared.Sides.{Sides}
use Rattle.point_merge.specs.declared.TooLong.{TooLong}

-- where both images are read
abbrev pub feeds_of : Sides → Feeds
feeds_of s = record { older = s.older.feed; newer = s.newer.feed }

-- the points of the open key that are left
abbrev pub side_points : (image : List ℕ) → Side → List Point
side_points image s = points_left image s.feed s.columns.times s.columns.values

-- the same of both images, merged
abbrev pub merged_points : Images → Sides → List Point
merged_points i s = merge_points (side_points i.older.now s.older) (side_points i.newer.now s.newer)

-- the side t at a point of its decoded block, or at its end, with the points that s had
pub record Settled (image : List ℕ) (s t : Side) : Type 0 where
  pub stands : Stands image t.feed
  pub series : series_left image t.feed ≡ series_left image s.feed
  pub done : t.feed.count ≤ t.feed.next → Done t.feed
  pub points : side_points image t ≡ side_points image s

-- the points of the decoded block that are left
pub record PointsAre (s : Side) (p : Points) : Type 0 where
  pub times : p.times.now ≡ part s.feed.next s.feed.count s.columns.times
  pub values : p.values.now ≡ part s.feed.next s.feed.count s.columns.values
  pub count : length p.times.now ≡ s.feed.count - s.feed.next

pub record PointsReady (i : Images) (s : Sides) (b : Builder) (out : List ℕ) : Type 0 where
  pub older-stands : Stands i.older.now s.older.feed
  pub newer-stands : Stands i.newer.now s.newer.feed
  pub filling : Filling (merged_points i s) b out

-- they were added: the key is as before, with none to come
pub record AllAdded (i : Images) (s : Sides) (b : Builder) (whole : Closed) (s' : Sides) (b' : Builder) (out : List ℕ) : Type 0 where
  pub older-done : KeyDone i.older.now s.older.feed s'.older.feed
  pub newer-done : KeyDone i.newer.now s.newer.feed s'.newer.feed
  pub mode : b'.mode ≡ b.mode
  pub kind : b'.kind ≡ b.kind
  pub filling : Filling [] b' out
  pub same : closed_key [] b' out ≡ whole

-- the same; or the key ends past every image
abbrev pub PointsAddedAs : Images → Sides → Builder → (whole : Closed) → Result (Unit {0}) TooLong → Sides → Builder → (out : List ℕ) → Type 0
PointsAddedAs i s b whole (Ok done) s' b' out = AllAdded i s b whole s' b' out
PointsAddedAs i s b whole (Err e) s' b' out = Past whole
