-- What is still to come of an accepted image, from where a feed stands: a plain reading, without tests. It is what `read_file` reads where a
-- feed stands well.
--   key_of          the open key
--   entries_left, keys_left   the entries of the open key, and the keys after it
--   blocks_left     the points of the open key that are not decoded yet
--   held           the points of the decoded block that are left
--   points_left     the points of the open key that are left
--   series_left     the series after the open key
--   open_series     the series of the open key, with its points
--   Stands         a feed stands where a walk over an accepted image stands
--   Done           the open key has no point left
--   at_cursor, past_block   a feed with no block decoded, and the feed after all points of the decoded block
--   Begun, OnKey, OnBlock   what the first feed and each step have
use Rattle.std.specs.Prelude.{ℕ, ◌≤◌, ◌<◌, ◌≡◌, List, [], ◌∷◌, ◌++◌, ℤ, Option, Some, None}
use Rattle.format.specs.declared.Entry.{Entry}
use Rattle.format.specs.declared.ImagePlace.{ImagePlace}
use Rattle.format.specs.Limits.{read_block_most}
use Rattle.format.specs.Refusals.{Outcome, ok}
pub use Rattle.format.specs.Refusals.{read_or}
use Rattle.format.specs.Meaning.{Point, Series, Meaning}
use Rattle.format.specs.Block.{cells}
use Rattle.format.specs.Index.{IndexKey}
use Rattle.format.specs.File.{index_start, check_frame, read_blocks, read_series, read_file}
use Rattle.index.specs.declared.Cursor.{Cursor}
use Rattle.index.specs.Cursors.{key_at, rest, Sound}
use Rattle.feed.specs.declared.Feed.{Feed}
use Rattle.index.specs.Frames.{index_part}

-- the open key
unfoldable pub key_of : List ℕ → Feed → List ℕ
key_of image f = key_at (index_part image f.start.0) f.cursor.key

-- what the index has left
abbrev pub index_left : List ℕ → Feed → Outcome (List Entry × List IndexKey)
index_left image f = rest (index_part image f.start.0) f.start.0 f.cursor

-- the entries of the open key whose blocks are not decoded yet
unfoldable pub entries_left : List ℕ → Feed → List Entry
entries_left image f = (read_or ([], []) (index_left image f)).0

-- the keys after the open one
unfoldable pub keys_left : List ℕ → Feed → List IndexKey
keys_left image f = (read_or ([], []) (index_left image f)).1

-- the points of the open key that are not decoded yet
unfoldable pub blocks_left : List ℕ → Feed → List Point
blocks_left image f = read_or [] (read_blocks image (entries_left image f))

-- the points of the decoded block that are left
abbrev pub held : Feed → (times : List ℤ) → (values : List ℕ) → List Point
held f times values = cells f.next f.count times values

-- the points of the open key that are left
unfoldable pub points_left : List ℕ → Feed → (times : List ℤ) → (values : List ℕ) → List Point
points_left image f times values = held f times values ++ blocks_left image f

-- the series after the open key
unfoldable pub series_left : List ℕ → Feed → Meaning
series_left image f = read_or [] (read_series image (keys_left image f))

-- the series of the open key, with its points
abbrev pub open_series : List ℕ → Feed → List Point → Series
open_series image f points = record { key = key_of image f; kind = f.cursor.kind; points = points }

-- a feed stands where a walk over an accepted image stands
pub record Stands (image : List ℕ) (f : Feed) : Type 0 where
  pub frame : check_frame image ≡ ok tt
  pub start : index_start image ≡ f.start.0
  pub sound : Sound (index_part image f.start.0) f.start.0 f.cursor
  pub index : index_left image f ≡ ok (entries_left image f, keys_left image f)
  pub blocks : read_blocks image (entries_left image f) ≡ ok (blocks_left image f)
  pub series : read_series image (keys_left image f) ≡ ok (series_left image f)
  pub next-most : f.next ≤ f.count
  pub count_most : f.count ≤ read_block_most

-- the open key has no point left
pub record Done (f : Feed) : Type 0 where
  pub held : f.count ≤ f.next
  pub left : f.cursor.left ≡ 0

-- the first feed: all of the image is to come
pub record Begun (image : List ℕ) (f : Feed) : Type 0 where
  pub stands : Stands image f
  pub done : Done f
  pub meaning : read_file image ≡ ok (series_left image f)

-- ---- the next key

-- the feed g at the next key: no block of it is decoded
pub record KeyOpened (image : List ℕ) (f g : Feed) : Type 0 where
  pub stands : Stands image g
  pub held : g.count ≤ g.next
  pub series : series_left image f ≡ open_series image g (blocks_left image g) ∷ series_left image g

abbrev pub OnKey : List ℕ → Feed → Option Feed → Type 0
OnKey image f (Some g) = KeyOpened image f g
OnKey image f None = series_left image f ≡ []

-- ---- the next block

-- the open key and the series after it stay
pub record Kept (image : List ℕ) (f g : Feed) : Type 0 where
  pub key : key_of image g ≡ key_of image f
  pub kind : g.cursor.kind ≡ f.cursor.kind
  pub series : series_left image g ≡ series_left image f

-- the feed g at the first point of the next block, which is in the cells
pub record BlockOpened (image : List ℕ) (f : Feed) (times : List ℤ) (values : List ℕ) (g : Feed) : Type 0 where
  pub stands : Stands image g
  pub kept : Kept image f g
  pub from : g.next ≡ 0
  pub some : 1 ≤ g.count
  pub further : f.cursor.at.0 < g.cursor.at.0
  pub points : blocks_left image f ≡ held g times values ++ blocks_left image g

abbrev pub OnBlock : List ℕ → Feed → (times : List ℤ) → (values : List ℕ) → Option Feed → Type 0
OnBlock image f times values (Some g) = BlockOpened image f times values g
OnBlock image f times values None = (f.cursor.left ≡ 0) × (blocks_left image f ≡ [])

-- a feed with no block decoded
abbrev pub at_cursor : ImagePlace → Cursor → Feed
at_cursor start c = record { start = start; cursor = c; next = 0; count = 0 }

-- the feed after all points of the decoded block
abbrev pub past_block : Feed → Feed
past_block f = at_cursor f.start f.cursor
