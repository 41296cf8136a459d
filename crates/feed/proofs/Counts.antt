-- Counting the points of a key block by block: those counted and those to come make all of them.
--   Counting     n points were counted between two cursors in the index
--   counting-start, counting-further, counting-on, counting-end   step by step
use Rattle.std.specs.Prelude.{Result, Ok}
use Prim.Native.Nat.{ℕ, ◌+◌, ◌*◌, ◌≤◌, ◌<◌, zero-le}
use mathlib.Core.Path.{◌≡◌, ap, ◌∙◌}
use mathlib.Core.List.{List}
use native.Mathlib.Nat.{zero-add}
use native.Mathlib.Omega.{arith}
use lib.ListN.{length, length-append}
use Rattle.format.specs.declared.Entry.{Entry}
use Rattle.format.specs.declared.ImagePlace.{ImagePlace}
use Rattle.format.specs.Block.{read_block}
use Rattle.format.specs.File.{block_of}
use Rattle.index.specs.declared.Cursor.{Cursor}
use Rattle.index.specs.declared.Step.{Step}
use Rattle.index.specs.Frames.{index_part}
use Rattle.index.specs.Cursors.{step_at}
use Rattle.index.proofs.Steps.{on-entry}
use Rattle.format.specs.declared.Fault.{Fault}
use Rattle.block.specs.Answers.{block_answer}
use Rattle.block.proofs.Bodies.{block-few}
use Rattle.feed.specs.declared.Feed.{Feed}
use Rattle.feed.specs.Feeds.{blocks_left, series_left, at_cursor, Stands}
use Rattle.feed.proofs.Standing.{Left, refilled}
use Rattle.feed.proofs.Blocks.{no_block, entry_read, entry-passed}

pub record Counting (image : List ℕ) (start : ImagePlace) (first c : Cursor) (n : ℕ) : Type 0 where
  pub stands : Stands image (at_cursor start c)
  pub same : n + length (blocks_left image (at_cursor start c)) ≡ length (blocks_left image (at_cursor start first))
  pub few : n ≤ c.at.0 * 1000

module _ (image : List ℕ) (f : Feed) (s : Stands image f) where
  -- the cursor of the feed, by itself
  alone : Left image (at_cursor f.start f.cursor) (blocks_left image f) (series_left image f)
  alone = refilled image f s 0 0 zero-le zero-le

  pub counting-start : Counting image f.start f.cursor f.cursor 0
  counting-start =
      record { stands = alone.stands; same = zero-add (length (blocks_left image (at_cursor f.start f.cursor))); few = zero-le }

  pub counting-end : (c : Cursor) (n : ℕ) → Counting image f.start f.cursor c n → c.left ≡ 0 → n ≡ length (blocks_left image f)
  counting-end c n k e =
      let none = ap length (no_block image (at_cursor f.start c) k.stands e) in
      omega (arith, none, k.same, ap length alone.blocks)

module _ (image : List ℕ) (start : ImagePlace) (first c : Cursor) (n : ℕ) (k : Counting image start first c n) where
  module _ (v : Entry) (d : Cursor) (step : step_at (index_part image start.0) start.0 c ≡ Ok (Step.Entry v d)) where
    pub counting-further : c.at.0 < d.at.0
    counting-further = (on-entry (index_part image start.0) start.0 c k.stands.sound v d step).further

    pub counting-on : (m : ℕ) → Ok m ≡ block_answer (read_block v (block_of image v)) → Counting image start first d (n + m)
    counting-on m e =
        let f = at_cursor start c in
        let s = k.stands in
        let read = entry_read image f s v d step in
        let left = entry-passed image f s v d step 0 zero-le in
        let is : ◌≡◌ {A = Result ℕ Fault} (Ok m) (Ok (length read.first)) = e ∙ ap block_answer read.block in
        let many : m ≡ length read.first = cc in
        let most : length read.first ≤ 1000 = (block-few v (block_of image v) read.first read.block).few in
        let further : c.at.0 < d.at.0 = counting-further in
        let few : n ≤ c.at.0 * 1000 = k.few in
        let parts = ap length read.points ∙ length-append read.first read.later in
        record { stands = left.stands; same = omega (arith, k.same, parts, ap length left.blocks); few = omega arith }
