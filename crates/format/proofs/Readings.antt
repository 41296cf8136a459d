-- What was read without a refusal, taken apart: a file, its keys, its series, its blocks.
--   file-index                  the index and the series of a file
--   FrameParts, frame-parts     header and footer
--   KeyParts, key-parts         a key of the index: its tests, its kind and its entries
--   SeriesRead, series-read, no-series   the first series and those after it, or none
--   BlocksRead, blocks-read, no_blocks   the first block and those after it, or none
--   BlockParts, block-parts     a block: its checksum, its body, its first and last time
--   body-parts                  a body: its kind, and what follows
--   SectionsParts, sections-parts   a body after its kind: T, and the two sections
use Prim.Native.Nat.{ℕ, ◌+◌, ◌*◌, ◌≤◌, ◌<◌}
use mathlib.Core.Path.{◌≡◌, refl, ap, sym, subst}
use mathlib.Core.Bool.{true, ◌&&◌}
use mathlib.Core.List.{List, [], ◌∷◌, ◌++◌}
use mathlib.Core.Option.{none}
use lib.ListN.{length, take, drop, get_or}
use lib.IntN.{ℤ}
use lib.Dec.{eqb, ltb, leb}
use borrow.Author.Tests.{leb-true, ltb-true, eqb-true}
use Rattle.format.specs.declared.Kind.{Kind}
use Rattle.format.specs.declared.Entry.{Entry}
use Rattle.format.specs.declared.Refusal.TheVariants.{ImageLength, Magic, Version, IndexStart, EntryPastIndex, KeyLength, UnknownKind, NoBlocks, KeyOrder, Checksum, BlockHead, TimesDiffer}
use Rattle.format.specs.Limits.{image_least, image_most, header_size, key_most}
use Rattle.format.specs.Choice.{same_list}
use Rattle.format.specs.Refusals.{ok}
use Rattle.format.specs.Bytes.{big_endian}
use Rattle.format.specs.Signed.{same_time}
use Rattle.format.specs.Varint.{read_varint}
use Rattle.format.specs.Timestamps.{read_times}
use Rattle.format.specs.Crc32.{crc32}
use Rattle.format.specs.Kinds.{kind_byte, read_kind}
use Rattle.format.specs.KeyOrder.{key_fits, key_before}
use Rattle.format.specs.Meaning.{Point, Meaning}
use Rattle.format.specs.Block.{read_values, points_from, first_time, last_time, read_sections, read_body, read_block}
use Rattle.format.specs.Index.{IndexKey, BlockSpan, entry_size, key_head_size, length_field, key_field, kind_field, count_field, read_entries, read_key}
use Rattle.format.specs.File.{magic, version, footer_place, index_start, check_frame, read_index, block_of, read_blocks, read_series, read_file}
use Rattle.format.proofs.Tests.{both_left, both_right}
use Rattle.format.proofs.Results.{refused-not, bind_ok, require-ok, test-ok, ok-path}
use Rattle.format.proofs.Orders.{same_time-path, same_list-path}
use Rattle.format.proofs.KindBytes.{kind-unique}

-- ---- the file

pub file-index : (image : List ℕ) (m : Meaning) → read_file image ≡ ok m → (keys : List IndexKey) × (read_index image ≡ ok keys) × (read_series image keys ≡ ok m)
unfolding read_file
file-index image m read = bind_ok (read_index image) (read_series image) m read

-- ---- header and footer

pub record FrameParts (image : List ℕ) : Type 0 where
  pub least : image_least ≤ length image
  pub most : length image ≤ image_most
  pub first : take 4 image ≡ magic
  pub fifth : get_or image 4 0 ≡ version
  pub low : header_size ≤ index_start image
  pub high : index_start image ≤ footer_place image

pub frame-parts : (image : List ℕ) → check_frame image ≡ ok tt → FrameParts image
unfolding check_frame
frame-parts image e =
    let L = length image in
    let a = require-ok (leb image_least L && leb L image_most) ImageLength 0 _ tt e in
    let b = require-ok (same_list (take 4 image) magic) Magic 0 _ tt a.1 in
    let c = require-ok (eqb (get_or image 4 0) version) Version 4 _ tt b.1 in
    let d = test-ok (leb header_size (index_start image) && leb (index_start image) (footer_place image)) IndexStart (footer_place image) c.1 in
    record {
      least = leb-true image_least L (both_left (leb image_least L) (leb L image_most) a.0);
      most = leb-true L image_most (both_right (leb image_least L) (leb L image_most) a.0);
      first = same_list-path (take 4 image) magic b.0;
      fifth = eqb-true (get_or image 4 0) version c.0;
      low = leb-true header_size (index_start image) (both_left (leb header_size (index_start image)) (leb (index_start image) (footer_place image)) d);
      high = leb-true (index_start image) (footer_place image) (both_right (leb header_size (index_start image)) (leb (index_start image) (footer_place image)) d);
    }

-- ---- a key of the index

pub record KeyParts (blocks : BlockSpan) (at : ℕ) (before bs : List ℕ) (k : IndexKey) (last : ℕ) : Type 0 where
  pub least : 1 ≤ length_field bs
  pub most : length_field bs ≤ key_most
  pub above : key_before before (key_field bs) ≡ true
  pub kind-is : kind_field bs ≡ kind_byte k.kind
  pub some : 1 ≤ count_field bs
  pub inside : key_head_size (length_field bs) + count_field bs * entry_size ≤ length bs
  pub key-is : k.key ≡ key_field bs
  pub entries : read_entries k.kind (count_field bs) blocks (at + key_head_size (length_field bs)) none (drop (key_head_size (length_field bs)) bs) ≡ ok (k.entries, last)

pub key-parts : (blocks : BlockSpan) (at : ℕ) (before bs : List ℕ) (r : IndexKey × ℕ) → read_key blocks at before bs ≡ ok r → KeyParts blocks at before bs r.0 r.1
unfolding read_key
key-parts blocks at before bs r e =
    let n = length_field bs in
    let c = count_field bs in
    let a = require-ok (leb 2 (length bs)) EntryPastIndex at _ r e in
    let b = require-ok (key_fits n) KeyLength at _ r a.1 in
    let d = require-ok (leb (key_head_size n) (length bs)) EntryPastIndex at _ r b.1 in
    let f = require-ok (key_before before (key_field bs)) KeyOrder (at + 2) _ r d.1 in
    let g = bind_ok (read_kind UnknownKind (at + 2 + n) (kind_field bs)) _ r f.1 in
    let h = require-ok (leb 1 c) NoBlocks (at + 3 + n) _ r g.2 in
    let i = require-ok (leb (key_head_size n + c * entry_size) (length bs)) EntryPastIndex at _ r h.1 in
    let j = bind_ok (read_entries g.0 c blocks (at + key_head_size n) none (drop (key_head_size n) bs)) _ r i.1 in
    subst (λ (q : IndexKey × ℕ). KeyParts blocks at before bs q.0 q.1) (ok-path j.2)
    (record {
      least = leb-true 1 n (both_left (leb 1 n) (leb n key_most) b.0);
      most = leb-true n key_most (both_right (leb 1 n) (leb n key_most) b.0);
      above = f.0;
      kind-is = kind-unique UnknownKind (at + 2 + n) (kind_field bs) g.0 g.1;
      some = leb-true 1 c h.0;
      inside = leb-true (key_head_size n + c * entry_size) (length bs) i.0;
      key-is = refl;
      entries = j.1;
    })

-- ---- series and blocks

module _ (image : List ℕ) where
  pub record BlocksRead (e : Entry) (es : List Entry) (ps : List Point) : Type 0 where
    pub first : List Point
    pub later : List Point
    pub block : read_block e (block_of image e) ≡ ok first
    pub blocks : read_blocks image es ≡ ok later
    pub points : ps ≡ first ++ later

  pub blocks-read : (e : Entry) (es : List Entry) (ps : List Point) → read_blocks image (e ∷ es) ≡ ok ps → BlocksRead e es ps
  unfolding read_blocks
  blocks-read e es ps read =
      let a = bind_ok (read_block e (block_of image e)) _ ps read in
      let b = bind_ok (read_blocks image es) _ ps a.2 in
      record { first = a.0; later = b.0; block = a.1; blocks = b.1; points = sym (ok-path b.2) }

  pub no_blocks : (ps : List Point) → read_blocks image [] ≡ ok ps → ps ≡ []
  unfolding read_blocks
  no_blocks ps read = sym (ok-path read)

  pub record SeriesRead (k : IndexKey) (ks : List IndexKey) (m : Meaning) : Type 0 where
    pub points : List Point
    pub later : Meaning
    pub blocks : read_blocks image k.entries ≡ ok points
    pub series : read_series image ks ≡ ok later
    pub meaning : m ≡ record { key = k.key; kind = k.kind; points = points } ∷ later

  pub series-read : (k : IndexKey) (ks : List IndexKey) (m : Meaning) → read_series image (k ∷ ks) ≡ ok m → SeriesRead k ks m
  unfolding read_series
  series-read k ks m read =
      let a = bind_ok (read_blocks image k.entries) _ m read in
      let b = bind_ok (read_series image ks) _ m a.2 in
      record { points = a.0; later = b.0; blocks = a.1; series = b.1; meaning = sym (ok-path b.2) }

  pub no-series : (m : Meaning) → read_series image [] ≡ ok m → m ≡ []
  unfolding read_series
  no-series m read = sym (ok-path read)

-- ---- a block

pub record BlockParts (e : Entry) (bs : List ℕ) (ps : List Point) : Type 0 where
  pub checksum : big_endian (take 4 bs) ≡ crc32 (drop 4 bs)
  pub body : read_body e.kind (e.offset.0 + 4) (drop 4 bs) ≡ ok ps
  pub first : first_time ps ≡ e.min
  pub last : last_time ps ≡ e.max

pub block-parts : (e : Entry) (bs : List ℕ) (ps : List Point) → read_block e bs ≡ ok ps → BlockParts e bs ps
unfolding read_block
block-parts e bs ps read =
    let at = e.offset.0 in
    let a = require-ok (eqb (big_endian (take 4 bs)) (crc32 (drop 4 bs))) Checksum at _ ps read in
    let b = bind_ok (read_body e.kind (at + 4) (drop 4 bs)) _ ps a.1 in
    let first = same_time (first_time b.0) e.min in
    let last = same_time (last_time b.0) e.max in
    let c = require-ok (first && last) TimesDiffer at _ ps b.2 in
    subst (BlockParts e bs) (ok-path c.1)
    (record {
      checksum = eqb-true (big_endian (take 4 bs)) (crc32 (drop 4 bs)) a.0;
      body = b.1;
      first = same_time-path _ _ (both_left first last c.0);
      last = same_time-path _ _ (both_right first last c.0);
    })

pub body-parts : (kind : Kind) (at : ℕ) (bs : List ℕ) (ps : List Point) → read_body kind at bs ≡ ok ps
    → (rest : List ℕ) × (bs ≡ kind_byte kind ∷ rest) × (read_sections kind (at + 1) rest ≡ ok ps)
unfolding read_body
body-parts kind at [] ps read = refused-not read
body-parts kind at (k ∷ bs) ps read =
    let a = require-ok (eqb k (kind_byte kind)) BlockHead at _ ps read in
    (bs, ap (λ (b : ℕ). b ∷ bs) (eqb-true k (kind_byte kind) a.0), a.1)

pub record SectionsParts (kind : Kind) (at : ℕ) (bs : List ℕ) (ps : List Point) : Type 0 where
  pub T : ℕ
  pub section : ℕ
  pub rest : List ℕ
  pub times : List ℤ
  pub values : List ℕ
  pub length-read : read_varint BlockHead at bs ≡ ok (T, section, rest)
  pub least : 1 ≤ T
  pub less : T < length rest
  pub times-read : read_times section (take T rest) ≡ ok times
  pub values-read : read_values kind (length times) (section + T) (drop T rest) ≡ ok values
  pub points : ps ≡ points_from times values

pub sections-parts : (kind : Kind) (at : ℕ) (bs : List ℕ) (ps : List Point) → read_sections kind at bs ≡ ok ps → SectionsParts kind at bs ps
unfolding read_sections
sections-parts kind at bs ps read =
    let ((t, section, rest), head, e) = bind_ok (read_varint BlockHead at bs) _ ps read in
    let (fits, f) = require-ok (leb 1 t && ltb t (length rest)) BlockHead at _ ps e in
    let (times, timed, g) = bind_ok (read_times section (take t rest)) _ ps f in
    let (values, valued, made) = bind_ok (read_values kind (length times) (section + t) (drop t rest)) _ ps g in
    record {
      T = t;
      section = section;
      rest = rest;
      times = times;
      values = values;
      length-read = head;
      least = leb-true 1 t (both_left (leb 1 t) (ltb t (length rest)) fits);
      less = ltb-true t (length rest) (both_right (leb 1 t) (ltb t (length rest)) fits);
      times-read = timed;
      values-read = valued;
      points = sym (ok-path made);
    }
