-- "Each is given exactly then, unless an earlier one applies": what is wrong with an image, by the paper's number and in its
-- order, as rules that are kept or broken.
--   Unless, UnlessSome   a rule: it is broken, and that is refused; or it is kept, and what follows is judged
--   FrameFault           1 to 4
--   EntryFault, EntriesFault, KeyFault, span_past, KeysFault   5 to 11
--   EndsFault, ValuesFault, TimesFault, BodyFault, BlockFault   12 to 16, of a block
--   BlocksFault, SeriesFault   the first block's that has one
--   IndexFault, Fault    of an image: 1 to 11, and 1 to 16
-- A fault is a claim of a number: it holds of the number that is refused.
use Rattle.std.specs.Prelude.{ℕ, zero, suc, ◌+◌, ◌-◌, ◌*◌, ◌^◌, ◌≤◌, ◌<◌, ◌≡◌, ◌⊎◌, true, List, [], ◌∷◌, ◌++◌, length, take, drop, get_or, ℤ, MatchBool}
use Rattle.std.proofs.Math.Option.{Option, none, some}
use Rattle.std.specs.Int.Signed.{le_z}
use Rattle.format.specs.declared.Kind.{Kind}
use Rattle.format.specs.declared.Entry.{Entry}
use Rattle.format.specs.Choice.{is_empty}
use Rattle.format.specs.Bytes.{big_endian}
use Rattle.format.specs.Varint.{varint}
use Rattle.format.specs.Crc32.{crc32}
use Rattle.format.specs.Kinds.{kind_byte}
use Rattle.format.specs.KeyOrder.{key_before}
use Rattle.format.specs.Block.{points_from, first_time, last_time}
use Rattle.format.specs.Index.{IndexKey, BlockSpan, block_span, span_after, length_field, key_field, kind_field, count_field, entry_from, above_max}
use Rattle.format.specs.File.{index_start, index_bytes, block_of}
use Rattle.acceptance.specs.Sections.{TimesSection, ValuesSection}
use Rattle.acceptance.specs.Indexes.{KeepsIndex}

-- the rule is broken, and the number is its own; or it is kept, and the number is of what follows
abbrev pub Unless : (kept : Type 0) → (number : ℕ) → (later : ℕ → Type 0) → ℕ → Type 0
Unless kept number later n = ((¬ kept) × (n ≡ number)) ⊎ (kept × later n)

-- the same for a rule that some a keeps, of which what follows speaks
abbrev pub UnlessSome : {A : Type 0} → (Keeps : A → Type 0) → (number : ℕ) → (later : A → ℕ → Type 0) → ℕ → Type 0
UnlessSome {A} Keeps number later n = (((a : A) → ¬ Keeps a) × (n ≡ number)) ⊎ ((a : A) × Keeps a × later a n)

-- nothing more is judged
abbrev pub Nothing : ℕ → Type 0
Nothing n = ⊥

-- ---- the frame

-- "L out of range", "first four bytes", "version", "X out of range", and what follows
abbrev pub FrameFault : (image : List ℕ) → (later : ℕ → Type 0) → ℕ → Type 0
FrameFault image later =
    Unless ((13 ≤ length image) × (length image ≤ 1_048_576)) 1
    (Unless (take 4 image ≡ 0x16 ∷ 0xD1 ∷ 0x16 ∷ 0xD1 ∷ []) 2
    (Unless (get_or image 4 0 ≡ 1) 3
    (Unless ((5 ≤ index_start image) × (index_start image ≤ length image - 8)) 4 later)))

-- ---- the index

-- "min > max, or min not above the max before", "block not where the last ended, size < 4, past X"
abbrev pub EntryFault : BlockSpan → Option ℤ → Entry → (later : ℕ → Type 0) → ℕ → Type 0
EntryFault blocks before e later =
    Unless ((le_z e.min e.max ≡ true) × (above_max before e.min ≡ true)) 10
    (Unless ((e.offset.0 ≡ blocks.next) × (4 ≤ e.size) × (e.offset.0 + e.size ≤ blocks.limit)) 11 later)

-- k block entries
abbrev pub EntriesFault : Kind → (k : ℕ) → BlockSpan → Option ℤ → List ℕ → ℕ → Type 0
EntriesFault kind zero blocks before bs = Nothing
EntriesFault kind (suc k) blocks before bs =
    EntryFault blocks before (entry_from kind bs) (EntriesFault kind k (span_after blocks (entry_from kind bs).size) (some (entry_from kind bs).max) (drop 28 bs))

-- "the length bytes (5), its value (6), key, kind and count present (5), 9, 7, 8, block entries present (5), then per block entry 10, 11"
abbrev pub KeyFault : BlockSpan → (before : List ℕ) → List ℕ → ℕ → Type 0
KeyFault blocks before bs =
    Unless (2 ≤ length bs) 5
    (Unless ((1 ≤ length_field bs) × (length_field bs ≤ 1_024)) 6
    (Unless (length_field bs + 5 ≤ length bs) 5
    (Unless (key_before before (key_field bs) ≡ true) 9
    (UnlessSome (λ kind. kind_field bs ≡ kind_byte kind) 7 (λ kind.
    (Unless (1 ≤ count_field bs) 8
    (Unless (length_field bs + 5 + count_field bs * 28 ≤ length bs) 5
    (EntriesFault kind (count_field bs) blocks none (drop (length_field bs + 5) bs)))))))))

-- no key is left: "the last end against X (11)"
abbrev pub EndFault : BlockSpan → ℕ → Type 0
EndFault blocks = Unless (blocks.next ≡ blocks.limit) 11 Nothing

-- where the blocks still to come may lie after those of k block entries: each ends by its size, the last 4 of its 28 bytes
abbrev pub span_past : (k : ℕ) → BlockSpan → List ℕ → BlockSpan
span_past zero blocks bs = blocks
span_past (suc k) blocks bs = span_past k (span_after blocks (big_endian (take 4 (drop 24 bs)))) (drop 28 bs)

-- all keys, k at most: the key at the front, or where that has no fault, what follows it
abbrev pub KeysFault : (k : ℕ) → BlockSpan → (before : List ℕ) → List ℕ → ℕ → Type 0
KeysFault zero blocks before bs n = EndFault blocks n
KeysFault (suc k) blocks before bs n =
    let later : Type 0 = KeyFault blocks before bs n
    ⊎ (((j : ℕ) → ¬ KeyFault blocks before bs j)
    × KeysFault k (span_past (count_field bs) blocks (drop (length_field bs + 5) bs)) (key_field bs) (drop (length_field bs + 5 + count_field bs * 28) bs) n)
    in
    MatchBool (is_empty bs) (EndFault blocks n) later

-- ---- the blocks

-- "first or last time differs from index"
abbrev pub EndsFault : Entry → (times : List ℤ) → (values : List ℕ) → ℕ → Type 0
EndsFault e times values =
    Unless ((first_time (points_from times values) ≡ e.min) × (last_time (points_from times values) ≡ e.max)) 16 Nothing

-- "values section, or its n differs"
abbrev pub ValuesFault : Entry → (times : List ℤ) → List ℕ → ℕ → Type 0
ValuesFault e times bs = UnlessSome (λ values. ValuesSection e.kind bs values × (length values ≡ length times)) 15 (EndsFault e times)

-- "timestamps section, its n included", of T bytes
abbrev pub TimesFault : Entry → (T : ℕ) → List ℕ → ℕ → Type 0
TimesFault e T bs = UnlessSome (λ times. TimesSection (take T bs) times) 14 (λ times. ValuesFault e times (drop T bs))

-- "kind absent or not the index's, T malformed or too long, a section empty"
abbrev pub BodyFault : Entry → List ℕ → ℕ → Type 0
BodyFault e bs =
    Unless (take 1 bs ≡ kind_byte e.kind ∷ []) 13
    (UnlessSome {A = ℕ × List ℕ} (λ (T, rest). (T < 2 ^ 64) × (drop 1 bs ≡ varint T ++ rest)) 13 (λ (T, rest).
    (Unless ((1 ≤ T) × (T < length rest)) 13 (TimesFault e T rest))))

-- "checksum"
abbrev pub BlockFault : Entry → List ℕ → ℕ → Type 0
BlockFault e bs = Unless (big_endian (take 4 bs) ≡ crc32 (drop 4 bs)) 12 (BodyFault e (drop 4 bs))

-- the blocks of entries, in order: the first, or where that has no fault, those after it
abbrev pub BlocksFault : (image : List ℕ) → List Entry → ℕ → Type 0
BlocksFault image [] n = ⊥
BlocksFault image (e ∷ es) n =
    BlockFault e (block_of image e) n ⊎ (((j : ℕ) → ¬ BlockFault e (block_of image e) j) × BlocksFault image es n)

-- the blocks of keys, in order
abbrev pub SeriesFault : (image : List ℕ) → List IndexKey → ℕ → Type 0
SeriesFault image [] n = ⊥
SeriesFault image (k ∷ ks) n =
    BlocksFault image k.entries n ⊎ (((j : ℕ) → ¬ BlocksFault image k.entries j) × SeriesFault image ks n)

-- ---- the image

-- 1 to 11
abbrev pub IndexFault : (image : List ℕ) → ℕ → Type 0
IndexFault image =
    FrameFault image (KeysFault (length (index_bytes image)) (block_span 5 (index_start image)) [] (index_bytes image))

-- 1 to 16: the index, or where that keeps its rules, the blocks of its keys
abbrev pub Fault : (image : List ℕ) → ℕ → Type 0
Fault image n = IndexFault image n ⊎ ((keys : List IndexKey) × KeepsIndex image keys × SeriesFault image keys n)
