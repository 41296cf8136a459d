-- The faults of a block are what is refused of it, rule by rule; of several, the first block's that has one.
use Prim.Native.Nat.{ℕ, ◌+◌, ◌^◌, ◌≤◌, ◌<◌}
use mathlib.Core.Path.{◌≡◌, refl, sym, ap, ◌∙◌}
use mathlib.Core.Logic.{◌↔◌}
use mathlib.Core.Bool.{true, false, true≢false, ◌&&◌}
use mathlib.Core.List.{List, [], ◌∷◌, ◌++◌}
use native.Mathlib.Omega.{arith}
use lib.ListN.{length, take, drop, get_or}
use lib.IntN.{ℤ}
use lib.Dec.{leb, ltb, eqb, lit<}
use borrow.Author.Tests.{ltb-true, lt-ltb, eqb-true, eq-eqb}
use Rattle.format.specs.declared.Entry.{Entry}
use Rattle.format.specs.declared.Refusal.TheVariants.{Checksum, BlockHead, Timestamps, Values, TimesDiffer}
use Rattle.format.specs.Refusals.{Outcome, ok, refused, ◌>>=◌, require}
use Rattle.format.specs.Bytes.{big_endian, AllBytes}
use Rattle.format.specs.Signed.{same_time}
use Rattle.format.specs.Varint.{read_varint, varint}
use Rattle.format.specs.Timestamps.{read_times}
use Rattle.format.specs.Crc32.{crc32}
use Rattle.format.specs.Kinds.{kind_byte}
use Rattle.format.specs.Meaning.{Point}
use Rattle.format.specs.Block.{read_values, points_from, first_time, last_time, read_sections, read_body, read_block}
use Rattle.format.specs.Index.{IndexKey}
use Rattle.format.specs.File.{block_of, read_blocks, read_series}
use Rattle.format.proofs.AllBelow.{below-take, below-drop}
use Rattle.format.proofs.Orders.{same_time-path, same-time}
use Rattle.numbers.proofs.Varints.{read_varint-varint}
use Rattle.section_laws.proofs.Places.{only-stands, read_times-stands}
use Rattle.booleans.proofs.Values.{values-count, read_values-stands}
use Rattle.acceptance.proofs.Varints.{varint-laid}
use Rattle.acceptance.proofs.Times.{times-read, read-times}
use Rattle.acceptance.proofs.Blocks.{values-read, read-values}
use Rattle.theorems.specs.Faults.{Unless, UnlessSome, EndsFault, ValuesFault, TimesFault, BodyFault, BlockFault, BlocksFault, SeriesFault}
use Rattle.theorems.proofs.Steps.{Exact, ok-exactly, leb-exactly, eqb-exactly, both-exactly, tested, require-exactly, require-exactly₂, some-exactly, then-exactly, after, within}
use Rattle.format.proofs.Results.{only-varint}

-- ---- a block

ltb-exactly : (a b : ℕ) → (ltb a b ≡ true) ↔ (a < b)
ltb-exactly a b = (ltb-true a b, lt-ltb a b)

time-exactly : (a b : ℤ) → (same_time a b ≡ true) ↔ (a ≡ b)
time-exactly a b = (same_time-path a b, same-time a b)

byte-exactly : (a b : ℕ) → (eqb a b ≡ true) ↔ (a ∷ [] ≡ b ∷ [])
byte-exactly a b = (λ t. ap (λ (x : ℕ). x ∷ []) (eqb-true a b t), λ p. eq-eqb a b (ap (λ (xs : List ℕ). get_or xs 0 0) p))

module _ (e : Entry) (place : ℕ) where
  -- the first and the last time against the entry
  abbrev ends : List Point → Outcome (List Point)
  ends points = require (same_time (first_time points) e.min && same_time (last_time points) e.max) TimesDiffer place >>= λ _. ok points

  ends-exactly : (times : List ℤ) (values : List ℕ) → Exact (ends (points_from times values)) (EndsFault e times values)
  ends-exactly times values =
      let ps = points_from times values in
      require-exactly TimesDiffer place (same_time (first_time ps) e.min && same_time (last_time ps) e.max) _
      (both-exactly (time-exactly (first_time ps) e.min) (time-exactly (last_time ps) e.max)) (ok-exactly ps)

  values-exactly : (section : ℕ) (bs : List ℕ) (times : List ℤ) → AllBytes bs → length times < 2 ^ 64
      → Exact ((read_values e.kind (length times) section bs >>= λ values. ok (points_from times values)) >>= ends) (ValuesFault e times bs)
  values-exactly section bs times all few =
      let n = length times in
      within (read_values e.kind n section bs) (λ values. ok (points_from times values)) ends
      (some-exactly Values (λ vs. vs) _ (EndsFault e times) (read_values e.kind n section bs) _ (only-stands (read_values-stands e.kind 0 n section bs))
      (λ vs r. (read-values e.kind n section bs vs all r, values-count e.kind n section bs vs r))
      (λ vs (s, count). (
        vs,
        ap (λ (m : ℕ). read_values e.kind m section bs) (sym count) ∙ values-read e.kind section bs vs (omega arith) s,
        refl,
      ))
      (λ vs r. ends-exactly times vs))

  times-exactly : (section T : ℕ) (bs : List ℕ) → AllBytes bs
      → Exact
      ((read_times section (take T bs) >>= λ times. read_values e.kind (length times) (section + T) (drop T bs) >>= λ values. ok (points_from times values)) >>= ends)
      (TimesFault e T bs)
  times-exactly section T bs all =
      let head = below-take 256 (lit< tt) T bs all in
      within (read_times section (take T bs))
      (λ times. read_values e.kind (length times) (section + T) (drop T bs) >>= λ values. ok (points_from times values)) ends
      (some-exactly Timestamps (λ ts. ts) _ (λ times. ValuesFault e times (drop T bs)) (read_times section (take T bs)) _ (only-stands (read_times-stands 0 section (take T bs)))
      (λ ts r. read-times section (take T bs) ts head r)
      (λ ts s. (ts, times-read section (take T bs) ts s, refl))
      (λ ts r. values-exactly (section + T) (drop T bs) ts (below-drop 256 T bs all) (omega (arith, (read-times section (take T bs) ts head r).few))))

  sections-exactly : (at : ℕ) (bs : List ℕ) → AllBytes bs
      → Exact (read_sections e.kind at bs >>= ends)
      (UnlessSome {A = ℕ × List ℕ} (λ (T, rest). (T < 2 ^ 64) × (bs ≡ varint T ++ rest)) 13 (λ (T, rest).
      (Unless ((1 ≤ T) × (T < length rest)) 13 (TimesFault e T rest))))
  unfolding read_sections
  sections-exactly at bs all =
      within (read_varint BlockHead at bs) _ ends
      (some-exactly BlockHead (λ v. (v.0, v.2)) _ _ (read_varint BlockHead at bs) _ (only-varint BlockHead at bs)
      (λ v r. let laid = varint-laid BlockHead at bs v all r in (laid.fits, laid.bytes))
      (λ b (fits, is). (
        (b.0, at + length (varint b.0), b.1),
        ap (read_varint BlockHead at) is ∙ read_varint-varint BlockHead b.1 at b.0 fits,
        refl,
      ))
      (λ v r. require-exactly₂ BlockHead at (leb 1 v.0 && ltb v.0 (length v.2)) _ ends
      (both-exactly (leb-exactly 1 v.0) (ltb-exactly v.0 (length v.2)))
      (times-exactly v.1 v.0 v.2 (varint-laid BlockHead at bs v all r).left)))

  body-exactly : (at : ℕ) (bs : List ℕ) → AllBytes bs → Exact (read_body e.kind at bs >>= ends) (BodyFault e bs)
  unfolding read_body
  body-exactly at [] all =
      tested BlockHead at _ _ false (refused BlockHead at)
      (λ z. absurd (true≢false (sym z)), λ z. absurd (omega (arith, ap length z)))
      (λ z. absurd (true≢false (sym z))) (λ z. refl)
  body-exactly at (k ∷ bs) all =
      require-exactly₂ BlockHead at (eqb k (kind_byte e.kind)) _ ends (byte-exactly k (kind_byte e.kind))
      (sections-exactly (at + 1) bs (below-drop 256 1 (k ∷ bs) all))

pub block-exactly : (e : Entry) (bs : List ℕ) → AllBytes bs → Exact (read_block e bs) (BlockFault e bs)
unfolding read_block
block-exactly e bs all =
    let at = e.offset.0 in
    require-exactly Checksum at (eqb (big_endian (take 4 bs)) (crc32 (drop 4 bs))) _ (eqb-exactly (big_endian (take 4 bs)) (crc32 (drop 4 bs)))
    (body-exactly e at (at + 4) (drop 4 bs) (below-drop 256 4 bs all))

-- ---- several blocks

module _ (image : List ℕ) (all : AllBytes image) where
  blocks-exactly : (es : List Entry) → Exact (read_blocks image es) (BlocksFault image es)
  unfolding read_blocks
  blocks-exactly [] = ok-exactly []
  blocks-exactly (e ∷ es) =
      then-exactly (BlockFault e (block_of image e)) (BlocksFault image es) (read_block e (block_of image e)) _
      (block-exactly e (block_of image e) (below-take 256 (lit< tt) e.size (drop e.offset.0 image) (below-drop 256 e.offset.0 image all)))
      (λ ps is. after (read_blocks image es) _ (blocks-exactly es))

  pub series-exactly : (ks : List IndexKey) → Exact (read_series image ks) (SeriesFault image ks)
  unfolding read_series
  series-exactly [] = ok-exactly []
  series-exactly (k ∷ ks) =
      then-exactly (BlocksFault image k.entries) (SeriesFault image ks) (read_blocks image k.entries) _ (blocks-exactly k.entries)
      (λ ps is. after (read_series image ks) _ (series-exactly ks))
