-- Header, index and footer of an image, as they are laid, whatever its blocks hold: what find looks at.
--   KeepsEntry kind e      the rules of a block entry
--   KeepsEntries k         the rules of a key with its block entries
--   SpansTo from X es      blocks lie end to end from a place on, the last ending at X
--   index_key_bytes k        the bytes of a key with its block entries
--   KeepsIndex image keys  the image keeps every rule of "The file" that does not speak of what is in a block
use Rattle.std.specs.Prelude.{ℕ, ◌+◌, ◌≤◌, ◌≡◌, true, length}
use mathlib.Core.List.{List, [], ◌∷◌, ◌++◌, flat_map}
use Rattle.std.specs.Int.Signed.{lt_z, le_z}
use Rattle.format.specs.declared.Kind.{Kind}
use Rattle.format.specs.declared.Entry.{Entry}
use Rattle.format.specs.Limits.{image_least, image_most, header_size, footer_size, key_most, count_most}
use Rattle.format.specs.Choice.{ascends, Each}
use Rattle.format.specs.Bytes.{big_bytes}
use Rattle.format.specs.KeyOrder.{key_before}
use Rattle.format.specs.Index.{IndexKey, entry_bytes, key_head}
use Rattle.format.specs.File.{magic, version}
use Rattle.acceptance.specs.Sections.{Signed64}

-- the kind of its key; times are signed 64-bit whole numbers, min ≤ max; size counts the 4 checksum bytes
pub record KeepsEntry (kind : Kind) (e : Entry) : Type 0 where
  pub same : e.kind ≡ kind
  pub min : Signed64 e.min
  pub max : Signed64 e.max
  pub ordered : le_z e.min e.max ≡ true
  pub size : 4 ≤ e.size

-- key length 1 to 1,024; count 1 to 65,535; each min is above the max before it
pub record KeepsEntries (k : IndexKey) : Type 0 where
  pub length_least : 1 ≤ length k.key
  pub length_most : length k.key ≤ key_most
  pub count_least : 1 ≤ length k.entries
  pub count_fits : length k.entries ≤ count_most
  pub entries : Each (KeepsEntry k.kind) k.entries
  pub apart : ascends (λ a b. lt_z a.max b.min) k.entries ≡ true

abbrev pub SpansTo : (from X : ℕ) → List Entry → Type 0
SpansTo from X [] = from ≡ X
SpansTo from X (e ∷ es) = (e.offset.0 ≡ from) × SpansTo (from + e.size) X es

-- key length (2), key, kind (1), count (2), then for each block min time (8), max time (8), offset (8), size (4)
abbrev pub index_key_bytes : IndexKey → List ℕ
index_key_bytes k = key_head k.key k.kind (length k.entries) ++ flat_map (λ e. entry_bytes e.min e.max e.offset.0 e.size) k.entries

-- L is 13 to 1,048,576; keys ascend strictly; the blocks that the entries state lie end to end, from 5 to X, where the index starts
pub record KeepsIndex (image : List ℕ) (keys : List IndexKey) : Type 0 where
  pub blocks : List ℕ
  pub bytes : image ≡ magic ++ (version ∷ (blocks ++ (flat_map index_key_bytes keys ++ big_bytes footer_size (header_size + length blocks))))
  pub least : image_least ≤ length image
  pub most : length image ≤ image_most
  pub entries : Each KeepsEntries keys
  pub ascending : ascends (λ a b. key_before a.key b.key) keys ≡ true
  pub end_to_end : SpansTo header_size (header_size + length blocks) (flat_map (λ k. k.entries) keys)
