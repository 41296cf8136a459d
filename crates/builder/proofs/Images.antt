-- The two passes over a meaning: the first gives the lengths of blocks and index, and the second lays them.
--   image-length    the length of an image
--   measured-past, measured-blocks, measured   what the first pass gives
--   lay-room, never-past      the second has its place
--   footer-room, image-done   what it leaves, with header and footer
use Prim.Native.Nat.{ℕ, ◌+◌, ◌≤◌, ◌<◌}
use mathlib.Core.Path.{◌≡◌, refl, ap, ◌∙◌}
use mathlib.Core.Logic.{⊎_elim}
use mathlib.Core.List.{List, [], ◌∷◌, ◌++◌}
use native.Mathlib.Nat.{add-zero}
use native.Mathlib.Omega.{arith}
use lib.ListN.{length, length-append}
use Rattle.format.specs.declared.ImagePlace.{ImagePlace}
use Rattle.format.specs.Limits.{header_size, footer_size, image_most}
use Rattle.format.specs.Bytes.{big_bytes, overwrite, splice}
use Rattle.format.specs.Meaning.{Meaning}
use Rattle.format.specs.File.{magic, version}
use Rattle.format.specs.Writer.{writer_blocks, writer_index, writer_image}
use Rattle.format.proofs.Cases.{below_or}
use Rattle.numbers.proofs.BigEndian.{big_bytes-length}
use Rattle.format.proofs.Splices.{splice_front}
use Rattle.builder.specs.declared.Ends.{Ends}
use Rattle.builder.specs.declared.Mode.{Mode}
use Rattle.builder.specs.Steps.{Closed, series_end, first_ends}
use Rattle.builder.proofs.Series.{image-laid}
use Rattle.builder.specs.Passes.{SeriesRoom, Past, Measured}

module _ (m : Meaning) where
  pub image-length : length (writer_image m) ≡ header_size + length (writer_blocks m) + length (writer_index header_size m) + footer_size
  unfolding writer_image
  image-length =
      let B = writer_blocks m in
      let I = writer_index 5 m in
      let F = big_bytes 8 (5 + length B) in
      let H : List ℕ = magic ++ (version ∷ B) in
      omega (arith, length-append (H ++ I) F, length-append H I, big_bytes-length 8 (5 + length B))

  -- ---- the first pass

  pub measured-past : (lent : List ℕ) → Past (series_end Mode.Measure m first_ends lent) → image_most < length (writer_image m)
  unfolding series_end
  measured-past lent h =
      ⊎_elim (λ (long : image_most < length (writer_image m)). long)
      (λ (short : length (writer_image m) ≤ image_most). absurd (h.past (omega (arith, image-length)) (omega (arith, image-length))))
      (below_or image_most (length (writer_image m)))

  module _ (ends : Ends) (bytes lent : List ℕ) (c : ◌≡◌ {A = Closed} (record { ends = ends; bytes = bytes }) (series_end Mode.Measure m first_ends lent)) where
    pub measured-blocks : ends.block.0 ≡ header_size + length (writer_blocks m)
    unfolding series_end
    measured-blocks = ap (λ (x : Closed). x.ends.block.0) c

    pub measured : ends.block.0 + ends.entry.0 + footer_size ≡ length (writer_image m)
    unfolding series_end
    measured = omega (arith, image-length, measured-blocks, ap (λ (x : Closed). x.ends.entry.0) c)

  -- ---- the second, the index at the end of the blocks

  module _ (block : ImagePlace) (out : List ℕ) (h : Measured m block out) where
    pub lay-room : SeriesRoom block.0 m first_ends out
    lay-room = record {
      blocks = omega (arith, h.blocks);
      index = omega (arith, h.blocks, image-length, h.fits);
      most = omega (arith, h.blocks, image-length, h.short);
    }

    pub never-past : Past (series_end (Mode.Lay block) m first_ends out) → ⊥
    unfolding series_end
    never-past p = p.past (omega (arith, h.blocks, image-length, h.short)) (omega (arith, h.blocks, image-length, h.short))

    module _ (ends : Ends) (after : List ℕ)
        (laid : ◌≡◌ {A = Closed} (record { ends = ends; bytes = after }) (series_end (Mode.Lay block) m first_ends out)) where
      block_is : ends.block.0 ≡ header_size + length (writer_blocks m)
      unfolding series_end
      block_is = ap (λ (x : Closed). x.ends.block.0) laid

      end_is : ends.block.0 + ends.entry.0 ≡ header_size + length (writer_blocks m) + length (writer_index header_size m)
      unfolding series_end
      end_is = omega (arith, block_is, ap (λ (x : Closed). x.ends.entry.0) laid)

      after_is : after ≡ splice (header_size + length (writer_blocks m)) (writer_index header_size m) (splice header_size (writer_blocks m) out)
      unfolding series_end
      after_is = ap (λ (x : Closed). x.bytes) laid ∙ rw (h.blocks, add-zero (header_size + length (writer_blocks m))) refl

      pub footer-room : (header_size ≤ ends.block.0 + ends.entry.0) × (ends.block.0 + ends.entry.0 + footer_size ≤ length out)
      footer-room = (omega (arith, end_is), omega (arith, end_is, image-length, h.fits))

      pub image-done : (done : List ℕ) → done ≡ splice (ends.block.0 + ends.entry.0) (big_bytes footer_size ends.block.0) (splice 0 (magic ++ (version ∷ [])) after) → done ≡ overwrite (writer_image m) out
      image-done done e =
          e ∙ rw (end_is, block_is, after_is) (image-laid m out (omega (arith, image-length, h.fits))) ∙ splice_front (writer_image m) out
