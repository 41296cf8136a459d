-- How long our writer's image is against the roll of the same meaning: a point takes 2 bytes of a roll at least, and 16 of a
-- block at most.
--   chunks-count   a series has a chunk for each 1,000 points, and one more at most
--   series-most    the blocks and the index of a series, by its roll
--   image-most     an image has at most 15 bytes for each byte of its roll, and 13 more
use Prim.Native.Nat.{ℕ, zero, suc, ◌+◌, ◌*◌, ◌≤◌}
use mathlib.Core.Path.{◌≡◌, ap, sym, ◌∙◌}
use mathlib.Core.Bool.{true}
use mathlib.Core.List.{List, [], ◌∷◌, ◌++◌, flat_map}
use native.Mathlib.Omega.{arith}
use lib.IntN.{ℤ, ◌-ℤ◌, nat_abs}
use lib.ListN.{length, drop, length-append, length-drop}
use Rattle.format.specs.declared.Kind.{Kind}
use Rattle.format.specs.declared.Kind.TheVariants.{Integer, Boolean}
use Rattle.format.specs.Limits.{header_size, footer_size, writer_block_most}
use Rattle.format.specs.Choice.{Each}
use Rattle.format.specs.Bytes.{big_bytes}
use Rattle.format.specs.Signed.{signed, zigzag}
use Rattle.format.specs.Varint.{varint}
use Rattle.format.specs.Kinds.{kind_byte}
use Rattle.format.specs.Meaning.{Point, Series, Meaning}
use Rattle.format.specs.WellFormed.{well_formed}
use Rattle.format.specs.Block.{block_bytes}
use Rattle.format.specs.Index.{entry_size, entry_bytes, key_head}
use Rattle.format.specs.Roll.{roll_value, roll_later, roll_points, roll_series, writer_roll}
use Rattle.format.specs.Writer.{chunks_from, chunks, series_blocks, writer_entries, series_index, writer_blocks, writer_index, writer_image}
use Rattle.format.proofs.Lists.{flat_map-length, has_one}
use Rattle.numbers.proofs.BigEndian.{big_bytes-length}
use Rattle.numbers.proofs.Varints.{varint-length-least}
use Rattle.section_laws.proofs.BlockLengths.{block_bytes-most}
use Rattle.merging.proofs.Facts.{GoodSeries, facts}
use Rattle.acceptance.proofs.Entries.{entry-size}
use Rattle.acceptance.specs.Files.{entry_for}
use Rattle.file_laws.specs.Bounds.{Sized, Bounded}
use Rattle.file_laws.proofs.Chunks.{chunks-sized, chunks-joined}
use Rattle.file_laws.proofs.WriterBlocks.{blocks_for, blocks-count, blocks-entries}

-- ---- a roll

value-least : (kind : Kind) (v : ℕ) → 1 ≤ length (roll_value kind v)
value-least Integer v = varint-length-least (zigzag (signed v))
value-least Boolean v = varint-length-least v

-- a point's fields and what follows them
point-least : (n : ℕ) (kind : Kind) (v : ℕ) (rest : List ℕ) → 2 + length rest ≤ length (varint n ++ roll_value kind v ++ rest)
point-least n kind v rest =
    omega (arith, length-append (varint n ++ roll_value kind v) rest, length-append (varint n) (roll_value kind v), varint-length-least n, value-least kind v)

later-least : (kind : Kind) (before : ℤ) (ps : List Point) → length ps * 2 ≤ length (roll_later kind before ps)
later-least kind before [] = omega arith
later-least kind before (p ∷ ps) =
    omega (arith, point-least (nat_abs (p.time -ℤ before)) kind p.value (roll_later kind p.time ps), later-least kind p.time ps)

points-least : (kind : Kind) (ps : List Point) → length ps * 2 ≤ length (roll_points kind ps)
points-least kind [] = omega arith
points-least kind (p ∷ ps) =
    omega (arith, point-least (zigzag p.time) kind p.value (roll_later kind p.time ps), later-least kind p.time ps)

series-least : (s : Series) → length s.key + 3 + length s.points * 2 ≤ length (roll_series s)
unfolding roll_series
series-least s =
    let size = varint (length s.key) in
    let count = varint (length s.points) in
    omega (
      arith,
      length-append (size ++ s.key ++ (kind_byte s.kind ∷ count)) (roll_points s.kind s.points),
      length-append (size ++ s.key) (kind_byte s.kind ∷ count),
      length-append size s.key,
      varint-length-least (length s.key),
      varint-length-least (length s.points),
      points-least s.kind s.points,
    )

-- ---- an image

chunks-from : (k : ℕ) (ps : List Point) → length (chunks_from k ps) * 1_000 ≤ length ps + 999
unfolding chunks_from
chunks-from zero ps = omega arith
chunks-from (suc k) [] = omega arith
chunks-from (suc k) (p ∷ ps) =
    let rest = drop writer_block_most (p ∷ ps) in omega (arith, chunks-from k rest, length-drop writer_block_most (p ∷ ps))

pub chunks-count : (ps : List Point) → length (chunks ps) * 1_000 ≤ length ps + 999
chunks-count ps = chunks-from (length ps) ps

blocks-most : (kind : Kind) (pss : List (List Point)) → Each Sized pss
    → length (flat_map (block_bytes kind) pss) ≤ length (flat_map (λ ps. ps) pss) * 16 + length pss * 33
unfolding flat_map
blocks-most kind [] sized = omega arith
blocks-most kind (ps ∷ pss) sized =
    omega (
      arith,
      length-append (block_bytes kind ps) (flat_map (block_bytes kind) pss),
      length-append ps (flat_map (λ qs. qs) pss),
      block_bytes-most kind ps sized.0.0,
      blocks-most kind pss sized.1,
    )

entries-length : (kind : Kind) (offset : ℕ) (pss : List (List Point)) → length (writer_entries kind offset pss) ≡ length pss * entry_size
entries-length kind offset pss =
    let bs = blocks_for kind offset pss in
    ap length (sym (blocks-entries kind offset pss))
    ∙ flat_map-length (λ b. entry_bytes b.min b.max b.offset b.size) entry_size (λ b. entry-size (entry_for kind b)) bs
    ∙ ap (λ (n : ℕ). n * entry_size) (blocks-count kind offset pss)

head-length : (key : List ℕ) (kind : Kind) (count : ℕ) → length (key_head key kind count) ≡ length key + 5
head-length key kind count =
    omega (
      arith,
      length-append (big_bytes 2 (length key) ++ key) (kind_byte kind ∷ big_bytes 2 count),
      length-append (big_bytes 2 (length key)) key,
      big_bytes-length 2 (length key),
      big_bytes-length 2 count,
    )

pub series-most : (offset : ℕ) (s : Series) → GoodSeries s → length (series_blocks s) + length (series_index offset s) ≤ length (roll_series s) * 15
unfolding series_blocks series_index
series-most offset s g =
    let pss = chunks s.points in
    omega (
      arith,
      blocks-most s.kind pss (chunks-sized s.points),
      ap length (chunks-joined s.points),
      length-append (key_head s.key s.kind (length pss)) (writer_entries s.kind offset pss),
      head-length s.key s.kind (length pss),
      entries-length s.kind offset pss,
      chunks-count s.points,
      series-least s,
      g.key.least,
      has_one s.points g.non_empty,
    )

all_most : (offset : ℕ) (m : Meaning) → Each GoodSeries m → length (writer_blocks m) + length (writer_index offset m) ≤ length (writer_roll m) * 15
unfolding writer_index flat_map
all_most offset [] g = omega arith
all_most offset (s ∷ m) g =
    let next = offset + length (series_blocks s) in
    omega (
      arith,
      series-most offset s g.0,
      all_most next m g.1,
      length-append (series_blocks s) (writer_blocks m),
      length-append (series_index offset s) (writer_index next m),
      length-append (roll_series s) (writer_roll m),
    )

pub image-most : (m : Meaning) → well_formed m ≡ true → Bounded m
unfolding writer_image
image-most m good =
    let blocks = writer_blocks m in
    let index = writer_index header_size m in
    let footer = big_bytes footer_size (header_size + length blocks) in
    omega (
      arith,
      length-append (blocks ++ index) footer,
      length-append blocks index,
      big_bytes-length footer_size (header_size + length blocks),
      all_most header_size m ((facts m).0 good).series,
    )
