-- A pass over two accepted images: what its steps ask, and what they answer.
--   SeriesReady, open_closed, OneAdded, SeriesAddedAs   a series
--   Passing, later_closed, series_count   between two series
--   MergeReady, PassReady, all_closed, PassedAs   all series
use Rattle.std.specs.Prelude.{ℕ, ◌+◌, ◌≤◌, ◌≡◌, true, List, ◌∷◌, length, Result, Ok, Err}
use Rattle.format.specs.Limits.{image_most}
use Rattle.format.specs.Choice.{every}
use Rattle.format.specs.File.{accepted}
use Rattle.format.specs.WellFormed.{good_series}
use Rattle.builder.specs.declared.Builder.{Builder}
use Rattle.builder.specs.declared.Ends.{Ends}
use Rattle.builder.specs.declared.Mode.{Mode}
use Rattle.builder.specs.Modes.{lays, start_of}
use Rattle.builder.specs.Steps.{Closed, series_end, first_ends}
use Rattle.builder.specs.Passes.{SeriesRoom, Past}
use Rattle.feed.specs.Feeds.{series_left, Stands}
use Rattle.key_merge.specs.declared.Images.{Images}
use Rattle.key_merge.specs.declared.Turn.{Turn}
use Rattle.key_merge.specs.Turns.{merged_of, Standing, next_series, later, KeyDone}
use Rattle.point_merge.specs.declared.Sides.{Sides}
use Rattle.point_merge.specs.declared.TooLong.{TooLong}
use Rattle.point_merge.specs.Adding.{feeds_of}

-- ---- a series

pub record SeriesReady (i : Images) (t : Turn) (b : Builder) (out : List ℕ) : Type 0 where
  pub older-stands : Stands i.older.now t.feeds.older
  pub newer-stands : Stands i.newer.now t.feeds.newer
  pub older-held : t.feeds.older.count ≤ t.feeds.older.next
  pub newer-held : t.feeds.newer.count ≤ t.feeds.newer.next
  pub good : good_series (next_series i t) ≡ true
  pub block_in : b.places.ends.block.0 ≤ image_most
  pub entry_in : b.places.ends.entry.0 ≤ image_most
  pub blocks_in : b.places.blocks ≤ b.places.ends.entry.0
  pub room : lays b.mode ≡ true → SeriesRoom (start_of b.mode) (next_series i t ∷ later i t.feeds) b.places.ends out

-- what it and the series after it come to
abbrev pub open_closed : Images → Turn → Builder → (out : List ℕ) → Closed
open_closed i t b out = series_end b.mode (next_series i t ∷ later i t.feeds) b.places.ends out

pub record OneAdded (i : Images) (t : Turn) (whole : Closed) (s : Sides) (b : Builder) (out : List ℕ) : Type 0 where
  pub older-done : KeyDone i.older.now t.feeds.older s.older.feed
  pub newer-done : KeyDone i.newer.now t.feeds.newer s.newer.feed
  pub blocks_in : b.places.blocks ≤ b.places.ends.entry.0
  pub room : lays b.mode ≡ true → SeriesRoom (start_of b.mode) (later i t.feeds) b.places.ends out
  pub same : series_end b.mode (later i t.feeds) b.places.ends out ≡ whole

-- the same; or a place is past every image
abbrev pub SeriesAddedAs : Images → Turn → (whole : Closed) → Result (Unit {0}) TooLong → Sides → Builder → (out : List ℕ) → Type 0
SeriesAddedAs i t whole (Ok done) s b out = OneAdded i t whole s b out
SeriesAddedAs i t whole (Err e) s b out = Past whole

-- ---- all series

-- between two series
pub record Passing (i : Images) (s : Sides) (b : Builder) (out : List ℕ) : Type 0 where
  pub standing : Standing i (feeds_of s)
  pub good : every good_series (later i (feeds_of s)) ≡ true
  pub blocks_in : b.places.blocks ≤ b.places.ends.entry.0
  pub room : lays b.mode ≡ true → SeriesRoom (start_of b.mode) (later i (feeds_of s)) b.places.ends out

-- what the series to come come to
abbrev pub later_closed : Images → Sides → Builder → (out : List ℕ) → Closed
later_closed i s b out = series_end b.mode (later i (feeds_of s)) b.places.ends out

-- how many are to come, of both images
abbrev pub series_count : Images → Sides → ℕ
series_count i s = length (series_left i.older.now s.older.feed) + length (series_left i.newer.now s.newer.feed)

-- two accepted images whose merge has good series
pub record MergeReady (i : Images) : Type 0 where
  pub older-good : accepted i.older.now ≡ true
  pub newer-good : accepted i.newer.now ≡ true
  pub good : every good_series (merged_of i) ≡ true

pub record PassReady (i : Images) (mode : Mode) (out : List ℕ) : Type 0 where
  pub ready : MergeReady i
  pub room : lays mode ≡ true → SeriesRoom (start_of mode) (merged_of i) first_ends out

-- what all series come to
abbrev pub all_closed : Mode → Images → (out : List ℕ) → Closed
all_closed mode i out = series_end mode (merged_of i) first_ends out

-- where all of them end; or a place is past every image
abbrev pub PassedAs : (whole : Closed) → Result Ends TooLong → (out : List ℕ) → Type 0
PassedAs whole (Ok e) out = ◌≡◌ {A = Closed} (record { ends = e; bytes = out }) whole
PassedAs whole (Err e) out = Past whole
