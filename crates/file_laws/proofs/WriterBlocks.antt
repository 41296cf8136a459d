-- The blocks of our writer keep the rules of "The block" and lie end to end.
--   block_for, blocks_for   our writer's block of a chunk; the blocks of chunks, the first at `offset`
--   blocks-count, blocks-points, blocks-bytes, blocks-entries   how many, their points, their bytes and those of their entries
--   blocks_end            they lie end to end
--   blocks-span           min and max are the first and the last time
--   blocks-keep           each keeps the rules
use Prim.Native.Nat.{ℕ, suc, ◌+◌, ◌≤◌, ◌^◌}
use mathlib.Core.Path.{◌≡◌, refl, ap, subst, ◌∙◌}
use mathlib.Core.Bool.{true}
use mathlib.Core.List.{List, [], ◌∷◌, ◌++◌, map, flat_map, append_assoc}
use native.Mathlib.Omega.{arith}
use lib.IntN.{ℤ}
use lib.Signed.{lt_z, mag}
use lib.ListN.{length, length-append, length-map}
use borrow.Author.Tests.{ltb-true, leb-true, lt-ltb}
use Rattle.format.specs.declared.Kind.{Kind}
use Rattle.format.specs.declared.Kind.TheVariants.{Integer, Boolean}
use Rattle.format.specs.Limits.{read_block_most}
use Rattle.format.specs.Choice.{Each}
use Rattle.format.specs.Meaning.{Point}
use Rattle.format.specs.Varint.{varint}
use Rattle.format.specs.Timestamps.{times_section}
use Rattle.format.specs.Booleans.{booleans_section}
use Rattle.format.specs.WellFormed.{good_value}
use Rattle.format.specs.Block.{values_section, first_time, last_time, body_bytes, block_bytes}
use Rattle.format.specs.Index.{entry_bytes}
use Rattle.format.specs.Writer.{writer_entries}
use Rattle.format.proofs.AllBelow.{each_below}
use Rattle.format.proofs.Lists.{each_map, each-image, every-each, each-flat_map, ascends-map}
use Rattle.section_laws.proofs.Differences.{in_range, Times}
use Rattle.section_laws.proofs.Timestamps.{read_times-section}
use Rattle.section_laws.proofs.SectionLengths.{times_section-some, times_section-bytes, integers_section-bytes}
use Rattle.section_laws.proofs.BlockLengths.{values_section-some}
use Rattle.section_laws.proofs.Integers.{read_integers-section}
use Rattle.merging.proofs.Sorted.{Ascending, ascends-ascending}
use Rattle.merging.proofs.Orders.{by_time}
use Rattle.merging.proofs.Facts.{GoodPoint}
use Rattle.acceptance.specs.Sections.{TimesSection, ValuesSection}
use Rattle.acceptance.specs.Blocks.{Block, KeepsBlock}
use Rattle.acceptance.specs.Files.{EndToEnd}
use Rattle.acceptance.proofs.Times.{read-times}
use Rattle.acceptance.proofs.Integers.{read-integers}
use Rattle.file_laws.specs.Bounds.{Sized}
use Rattle.file_laws.proofs.Spans.{Spans, points_of, each-ascends}

-- ---- what is laid, and where

module _ (kind : Kind) where
  abbrev pub block_for : (offset : ℕ) → List Point → Block
  block_for offset ps = record {
    min = first_time ps;
    max = last_time ps;
    offset = offset;
    size = length (block_bytes kind ps);
    bytes = block_bytes kind ps;
    points = ps;
  }

  abbrev pub blocks_for : (offset : ℕ) → List (List Point) → List Block
  blocks_for offset [] = []
  blocks_for offset (ps ∷ pss) = block_for offset ps ∷ blocks_for (offset + length (block_bytes kind ps)) pss

  pub blocks-count : (offset : ℕ) (pss : List (List Point)) → length (blocks_for offset pss) ≡ length pss
  blocks-count offset [] = refl
  blocks-count offset (ps ∷ pss) = ap suc (blocks-count (offset + length (block_bytes kind ps)) pss)

  pub blocks-points : (offset : ℕ) (pss : List (List Point)) → points_of (blocks_for offset pss) ≡ flat_map (λ ps. ps) pss
  unfolding flat_map
  blocks-points offset [] = refl
  blocks-points offset (ps ∷ pss) = ap (λ (qs : List Point). ps ++ qs) (blocks-points (offset + length (block_bytes kind ps)) pss)

  pub blocks-bytes : (offset : ℕ) (pss : List (List Point)) → flat_map (λ b. b.bytes) (blocks_for offset pss) ≡ flat_map (block_bytes kind) pss
  unfolding flat_map
  blocks-bytes offset [] = refl
  blocks-bytes offset (ps ∷ pss) = ap (λ (bs : List ℕ). block_bytes kind ps ++ bs) (blocks-bytes (offset + length (block_bytes kind ps)) pss)

  pub blocks-entries : (offset : ℕ) (pss : List (List Point))
      → flat_map (λ b. entry_bytes b.min b.max b.offset b.size) (blocks_for offset pss) ≡ writer_entries kind offset pss
  unfolding flat_map writer_entries
  blocks-entries offset [] = refl
  blocks-entries offset (ps ∷ pss) =
      let size = length (block_bytes kind ps) in
      ap (λ (bs : List ℕ). entry_bytes (first_time ps) (last_time ps) offset size ++ bs) (blocks-entries (offset + size) pss)

  -- and then others
  pub blocks_end : (offset : ℕ) (pss : List (List Point)) (more : List Block) → EndToEnd (offset + length (flat_map (block_bytes kind) pss)) more
      → EndToEnd offset (blocks_for offset pss ++ more)
  unfolding flat_map
  blocks_end offset [] more h = let none : offset + 0 ≡ offset = omega arith in rw none at h
  blocks_end offset (ps ∷ pss) more h =
      let size = length (block_bytes kind ps) in
      let rest = flat_map (block_bytes kind) pss in
      let place : offset + length (block_bytes kind ps ++ rest) ≡ offset + size + length rest = omega (arith, length-append (block_bytes kind ps) rest) in
      (refl, blocks_end (offset + size) pss more (subst (λ (i : ℕ). EndToEnd i more) place h))

  pub blocks-span : (offset : ℕ) (pss : List (List Point)) → Each Sized pss → Each Spans (blocks_for offset pss)
  blocks-span offset [] h = tt
  blocks-span offset (ps ∷ pss) h =
      (record { some = h.0.0; first = refl; last = refl }, blocks-span (offset + length (block_bytes kind ps)) pss h.1)

-- ---- our writer's sections keep the rules, since they are read back

times-laid : (ts : List ℤ) → Times ts → TimesSection (times_section ts) ts
times-laid ts t = read-times 0 (times_section ts) ts (times_section-bytes ts) (read_times-section 0 ts t)

values-laid : (kind : Kind) (vs : List ℕ) → 1 ≤ length vs → length vs ≤ read_block_most → Each (λ v. good_value kind v ≡ true) vs
    → ValuesSection kind (values_section kind vs) vs
unfolding booleans_section
values-laid Integer vs least most good =
    read-integers (length vs) 0 (values_section Integer vs) vs (integers_section-bytes vs least)
    (read_integers-section 0 vs (each_below (2 ^ 64) (omega arith) vs (each_map (λ v. ltb-true v (2 ^ 64)) vs good)) least most)
values-laid Boolean vs least most good = record { bit = each_map (λ v. leb-true v 1) vs good; bytes = refl }

-- ---- a block

module _ (kind : Kind) (ps : List Point) (sized : Sized ps) (good : Each (GoodPoint kind) ps) (up : Ascending by_time ps) where
  abbrev ts : List ℤ
  ts = map (λ p. p.time) ps

  abbrev vs : List ℕ
  vs = map (λ p. p.value) ps

  times-good : Times ts
  times-good =
      let many = length-map ps (λ p. p.time) in
      record {
        some = omega arith;
        few = omega arith;
        ascend = ascends-map lt_z (λ p. p.time) ps ∙ (ascends-ascending by_time ps).1 up;
        range = (every-each in_range ts).1 ((each-image (λ t. in_range t ≡ true) (λ p. p.time) ps).1 (each_map (λ p g. lt-ltb (mag p.time) (2 ^ 63) g.time) ps good));
      }

  block-keeps : (offset : ℕ) → KeepsBlock kind (block_for kind offset ps)
  unfolding body_bytes
  block-keeps offset =
      let many = length-map ps (λ p. p.value) in
      let some = times-good.some in
      let T = varint (length (times_section ts)) in
      record {
        times = times_section ts;
        values = values_section kind vs;
        bytes = rw (append_assoc T (times_section ts) (values_section kind vs));
        size = refl;
        times_some = times_section-some ts some;
        values_some = values_section-some kind vs (omega arith);
        times_section = times-laid ts times-good;
        values_section = values-laid kind vs (omega arith) (omega arith)
            ((each-image (λ v. good_value kind v ≡ true) (λ p. p.value) ps).1 (each_map (λ p g. g.value) ps good));
        first = refl;
        last = refl;
      }

blocks-each : (kind : Kind) (offset : ℕ) (pss : List (List Point)) → Each Sized pss → Each (λ b. Each (GoodPoint kind) b.points) (blocks_for kind offset pss)
    → Each (λ b. Ascending by_time b.points) (blocks_for kind offset pss) → Each (KeepsBlock kind) (blocks_for kind offset pss)
blocks-each kind offset [] sized good up = tt
blocks-each kind offset (ps ∷ pss) sized good up =
    (block-keeps kind ps sized.0 good.0 up.0 offset, blocks-each kind (offset + length (block_bytes kind ps)) pss sized.1 good.1 up.1)

pub blocks-keep : (kind : Kind) (offset : ℕ) (pss : List (List Point)) → Each Sized pss → Each (GoodPoint kind) (points_of (blocks_for kind offset pss))
    → Ascending by_time (points_of (blocks_for kind offset pss)) → Each (KeepsBlock kind) (blocks_for kind offset pss)
blocks-keep kind offset pss sized good up =
    let bs = blocks_for kind offset pss in
    blocks-each kind offset pss sized ((each-flat_map (GoodPoint kind) (λ b. b.points) bs).0 good) (each-ascends bs up)
