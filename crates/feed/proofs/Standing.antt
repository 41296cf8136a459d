-- A feed by what its index and its blocks read.
--   Placed, Left, placed   where they are read, the feed stands, and that is what is left
--   refilled               the same for a feed that stands, with other points of a decoded block
--   starts                 the frame of the image of a feed that stands
use Prim.Native.Nat.{ℕ, ◌≤◌}
use mathlib.Core.Path.{◌≡◌, ap}
use mathlib.Core.List.{List, []}
use Rattle.format.specs.declared.Entry.{Entry}
use Rattle.format.specs.Limits.{read_block_most}
use Rattle.format.specs.Refusals.{Outcome, ok}
use Rattle.format.specs.Meaning.{Point, Meaning}
use Rattle.format.specs.Index.{IndexKey}
use Rattle.format.specs.File.{index_start, check_frame, read_blocks, read_series}
use Rattle.index.specs.Cursors.{Sound}
use Rattle.format.proofs.Readings.{frame-parts}
use Rattle.index.proofs.Frames.{IndexStartsAt}
use Rattle.feed.specs.declared.Feed.{Feed}
use Rattle.feed.specs.Feeds.{read_or, index_left, entries_left, keys_left, blocks_left, series_left, Stands}
use Rattle.index.specs.Frames.{index_part}

-- the entries es and the keys ks are left in the index, and the points ps and the series m in them
pub record Placed (image : List ℕ) (f : Feed) (es : List Entry) (ks : List IndexKey) (ps : List Point) (m : Meaning) : Type 0 where
  pub frame : check_frame image ≡ ok tt
  pub start : index_start image ≡ f.start.0
  pub sound : Sound (index_part image f.start.0) f.start.0 f.cursor
  pub index : index_left image f ≡ ok (es, ks)
  pub blocks : read_blocks image es ≡ ok ps
  pub series : read_series image ks ≡ ok m
  pub next-most : f.next ≤ f.count
  pub count_most : f.count ≤ read_block_most

-- the points ps and the series m are left
pub record Left (image : List ℕ) (f : Feed) (ps : List Point) (m : Meaning) : Type 0 where
  pub stands : Stands image f
  pub blocks : blocks_left image f ≡ ps
  pub series : series_left image f ≡ m

module _ (image : List ℕ) (f : Feed) (es : List Entry) (ks : List IndexKey) where
  entries-are : index_left image f ≡ ok (es, ks) → entries_left image f ≡ es
  unfolding entries_left
  entries-are e = ap (λ (r : Outcome (List Entry × List IndexKey)). (read_or ([], []) r).0) e

  keys-are : index_left image f ≡ ok (es, ks) → keys_left image f ≡ ks
  unfolding keys_left
  keys-are e = ap (λ (r : Outcome (List Entry × List IndexKey)). (read_or ([], []) r).1) e

  blocks-are : (ps : List Point) → entries_left image f ≡ es → read_blocks image es ≡ ok ps → blocks_left image f ≡ ps
  unfolding blocks_left
  blocks-are ps e read = rw (e, read)

  series-are : (m : Meaning) → keys_left image f ≡ ks → read_series image ks ≡ ok m → series_left image f ≡ m
  unfolding series_left
  series-are m e read = rw (e, read)

  pub placed : (ps : List Point) (m : Meaning) → Placed image f es ks ps m → Left image f ps m
  placed ps m p =
      let entries = entries-are p.index in
      let keys = keys-are p.index in
      let blocks = blocks-are ps entries p.blocks in
      let series = series-are m keys p.series in
      record {
        stands = record {
          frame = p.frame;
          start = p.start;
          sound = p.sound;
          index = rw (entries, keys) p.index;
          blocks = rw (entries, blocks) p.blocks;
          series = rw (keys, series) p.series;
          next-most = p.next-most;
          count_most = p.count_most;
        };
        blocks = blocks;
        series = series;
      }

-- other points of a decoded block are held: what comes after them is the same
pub refilled : (image : List ℕ) (f : Feed) → Stands image f → (next count : ℕ) → next ≤ count → count ≤ read_block_most
    → Left image (record { start = f.start; cursor = f.cursor; next = next; count = count }) (blocks_left image f) (series_left image f)
refilled image f s next count order few =
    placed image (record { start = f.start; cursor = f.cursor; next = next; count = count }) (entries_left image f) (keys_left image f) (blocks_left image f) (series_left image f) (record {
      frame = s.frame;
      start = s.start;
      sound = s.sound;
      index = s.index;
      blocks = s.blocks;
      series = s.series;
      next-most = order;
      count_most = few;
    })

pub starts : (image : List ℕ) (f : Feed) → Stands image f → IndexStartsAt image f.start
starts image f s = record { good = s.frame; start = s.start; framed = frame-parts image s.frame }
