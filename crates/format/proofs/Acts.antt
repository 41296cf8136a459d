-- The results of acts, by the results of their parts.
--   find-refused, found-block     the block of an entry, from what find gave
--   block-given, block-short      read block, by the points of that block
--   image-long, image-short, image-fits   our writer's image: past its limit, past the buffer, or neither
use Prim.Native.Nat.{ℕ, ◌≤◌, ◌<◌}
use mathlib.Core.Path.{◌≡◌}
use mathlib.Core.Logic.{◌⊎◌, ⊎_elim}
use mathlib.Core.Bool.{and-false}
use mathlib.Core.List.{List}
use lib.ListN.{length}
use lib.IntN.{ℤ}
use lib.Dec.{leb}
use borrow.Author.Tests.{le-leb, lt-leb}
use Rattle.format.specs.declared.Entry.{Entry}
use Rattle.format.specs.declared.Refusal.{Refusal}
use Rattle.format.specs.declared.Refusal.TheVariants.{ShortBuffer, ImageTooLong}
use Rattle.format.specs.Limits.{image_most}
use Rattle.format.specs.Refusals.{ok, refused}
use Rattle.format.specs.Meaning.{Point, Meaning}
use Rattle.format.specs.Block.{read_block}
use Rattle.format.specs.File.{block_of}
use Rattle.format.specs.Find.{find_entry, find_block}
use Rattle.format.specs.Writer.{writer_image}
use Rattle.format.specs.Acts.{read_block_result, image_result}

module _ (image key : List ℕ) (t : ℤ) where
  pub find-refused : (r : Refusal) (place : ℕ) → find_entry image key t ≡ refused r place → find_block image key t ≡ refused r place
  unfolding find_block
  find-refused r place e = rw e

  module _ (e : Entry) (ps : List Point) where
    pub found-block : find_entry image key t ≡ ok e → read_block e (block_of image e) ≡ ok ps → find_block image key t ≡ ok (e, ps)
    unfolding find_block
    found-block h k = rw (h, k)

    module _ (f : find_block image key t ≡ ok (e, ps)) (times values : List ℤ) where
      pub block-given : length ps ≤ length times → length ps ≤ length values → read_block_result image key t times values ≡ ok (e, ps)
      unfolding read_block_result
      block-given h k = rw (f, le-leb (length ps) (length times) h, le-leb (length ps) (length values) k)

      pub block-short : (length times < length ps) ⊎ (length values < length ps) → read_block_result image key t times values ≡ refused ShortBuffer 0
      unfolding read_block_result
      block-short h =
          ⊎_elim
          (λ k. rw (f, lt-leb (length ps) (length times) k))
          (λ k. rw (f, lt-leb (length ps) (length values) k, and-false (leb (length ps) (length times))))
          h

module _ (m : Meaning) (lent : List ℕ) where
  pub image-long : image_most < length (writer_image m) → image_result m lent ≡ refused ImageTooLong 0
  unfolding image_result
  image-long h = rw (lt-leb (length (writer_image m)) image_most h)

  module _ (h : length (writer_image m) ≤ image_most) where
    pub image-short : length lent < length (writer_image m) → image_result m lent ≡ refused ShortBuffer 0
    unfolding image_result
    image-short k = rw (le-leb (length (writer_image m)) image_most h, lt-leb (length (writer_image m)) (length lent) k)

    pub image-fits : length (writer_image m) ≤ length lent → image_result m lent ≡ ok (writer_image m)
    unfolding image_result
    image-fits k = rw (le-leb (length (writer_image m)) image_most h, le-leb (length (writer_image m)) (length lent) k)
