-- A pass over a meaning, point by point: what its steps ask of the fill, of what is to come and of the lent bytes. It is given up once a place
-- is past every image.
--   Near         places from which a step passes no 64 bits
--   KeyRoom, KeyOpen   the open key, with f in the fill and ps to come
--   Filling      the same, of a builder
--   SeriesRoom   the series to come have their place
--   Past         what is to come ends past every image
--   PassedAs     what a pass over a meaning answers
--   Measured     how long an image is, and that it fits
use Rattle.std.specs.Prelude.{ℕ, ◌+◌, ◌*◌, ◌^◌, ◌≤◌, ◌<◌, ◌≡◌, true, List, ◌++◌, length, Option, Some, None}
use Rattle.format.specs.declared.Kind.{Kind}
use Rattle.format.specs.declared.ImagePlace.{ImagePlace}
use Rattle.format.specs.Limits.{header_size, writer_block_most, image_most}
use Rattle.format.specs.Choice.{every, ascends}
use Rattle.format.specs.Meaning.{Point, Meaning, point_before}
use Rattle.format.specs.WellFormed.{good_point}
use Rattle.format.specs.Index.{entry_size}
use Rattle.format.specs.Writer.{writer_blocks, writer_index, writer_image}
use Rattle.builder.specs.declared.Builder.{Builder}
use Rattle.builder.specs.declared.Ends.{Ends}
use Rattle.builder.specs.declared.Mode.{Mode}
use Rattle.builder.specs.declared.Places.{Places}
use Rattle.builder.specs.Modes.{lays, start_of}
use Rattle.builder.specs.Open.{entries_left}
use Rattle.builder.specs.Steps.{in_fill, PlacesFit, KeyFits, Closed}

-- places from which a step passes no 64 bits
pub record Near (e : Ends) : Type 0 where
  pub block_near : e.block.0 ≤ 2 ^ 31
  pub entry-near : e.entry.0 ≤ 2 ^ 31

-- what is to come of the open key has its place, within the longest image, whose index starts at x
pub record KeyRoom (x : ℕ) (kind : Kind) (f ps : List Point) (s : Places) (out : List ℕ) : Type 0 where
  pub fits : KeyFits x kind f ps s out
  pub most : x + s.ends.entry.0 + length (entries_left kind s.ends.block.0 f ps) ≤ image_most

-- the open key, with f in the fill and ps to come
pub record KeyOpen (mode : Mode) (kind : Kind) (f ps : List Point) (s : Places) (out : List ℕ) : Type 0 where
  pub fill : length f ≡ s.filled
  pub few : length f < writer_block_most
  pub good : every (good_point kind) (f ++ ps) ≡ true
  pub ascend : ascends point_before (f ++ ps) ≡ true
  pub counted : s.count.0 + 2 + entry_size * s.blocks ≡ s.ends.entry.0
  pub places-fit : PlacesFit s
  pub room : lays mode ≡ true → KeyRoom (start_of mode) kind f ps s out

-- the same, of a builder
abbrev pub Filling : (ps : List Point) → Builder → (out : List ℕ) → Type 0
Filling ps b out = KeyOpen b.mode b.kind (in_fill b) ps b.places out

-- the series to come have their place, the first block and the first key's head at the ends e: blocks before the index, which starts at x, and
-- the index within the list and the longest image
pub record SeriesRoom (x : ℕ) (ss : Meaning) (e : Ends) (out : List ℕ) : Type 0 where
  pub blocks : e.block.0 + length (writer_blocks ss) ≤ x
  pub index : x + e.entry.0 + length (writer_index e.block.0 ss) ≤ length out
  pub most : x + e.entry.0 + length (writer_index e.block.0 ss) ≤ image_most

-- one of the places is past every image
pub record Past (c : Closed) : Type 0 where
  pub past : c.ends.block.0 ≤ image_most → c.ends.entry.0 ≤ image_most → ⊥

-- what a pass answers, whose series come to `whole`: the ends; or it is given up
abbrev pub PassedAs : (whole : Closed) → Option Ends → (out : List ℕ) → Type 0
PassedAs whole (Some e) out = ◌≡◌ {A = Closed} (record { ends = e; bytes = out }) whole
PassedAs whole None out = Past whole

-- the blocks of the image of m end at `block`, and the image fits
pub record Measured (m : Meaning) (block : ImagePlace) (out : List ℕ) : Type 0 where
  pub blocks : block.0 ≡ header_size + length (writer_blocks m)
  pub short : length (writer_image m) ≤ image_most
  pub fits : length (writer_image m) ≤ length out
