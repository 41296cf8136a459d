-- "Each is given exactly then, unless an earlier one applies": of each act, what it refuses, in the paper's order, and that
-- it refuses exactly so. The faults of an image are in Faults.
--   SearchFault, FindFault            17, 18
--   Covering, BlockHolds              the entry that covers a time, and the points of its block
--   ReadBlockFault, ReadPointFault    12 to 16 of that one block, then 19 or 23
--   ImageFault, WriteFault            20, 22, 19
--   UnrollFault, MergeFault           19; 21, 22, 19
use Rattle.std.specs.Prelude.{ℕ, ◌≤◌, ◌≡◌, ◌↔◌, ◌⊎◌, true, List, length, ℤ}
use Rattle.std.proofs.Math.Option.{some}
use Rattle.format.specs.declared.Entry.{Entry}
use Rattle.format.specs.Refusals.{refuses}
use Rattle.format.specs.Bytes.{AllBytes}
use Rattle.format.specs.Meaning.{Point, Meaning, FilePoint, value_at}
use Rattle.format.specs.WellFormed.{well_formed}
use Rattle.format.specs.Index.{IndexKey}
use Rattle.format.specs.File.{block_of}
use Rattle.format.specs.Roll.{writer_roll}
use Rattle.format.specs.Writer.{writer_image}
use Rattle.format.specs.Acts.{check_answer, find_answer, read_block_answer, read_point_answer, write_answer, unroll_answer, merge_answer}
use Rattle.acceptance.specs.Blocks.{KeepsBlock}
use Rattle.acceptance.specs.Files.{Keeps}
use Rattle.acceptance.specs.Indexes.{KeepsIndex}
use Rattle.acceptance.specs.Rolls.{KeepsRoll}
use Rattle.theorems.specs.Points.{Has, MergedPoint, OneKind, TwoKinds}
use Rattle.theorems.specs.Finds.{HasKey, EntryFor}
use Rattle.theorems.specs.Faults.{Unless, UnlessSome, Nothing, BlockFault, IndexFault, Fault}

-- "no such key"; "key known, no entry covers the time"
abbrev pub SearchFault : List IndexKey → (key : List ℕ) → ℤ → ℕ → Type 0
SearchFault keys key t = Unless (HasKey keys key) 17 (UnlessSome (λ e. EntryFor keys key t e) 18 (λ e. Nothing))

-- "Find goes on to 17, 18."
abbrev pub FindFault : (image key : List ℕ) → ℤ → ℕ → Type 0
FindFault image key t n = IndexFault image n ⊎ ((keys : List IndexKey) × KeepsIndex image keys × SearchFault keys key t n)

-- an entry of the image's index, of the key, that covers the time
abbrev pub Covering : (image key : List ℕ) → ℤ → Entry → Type 0
Covering image key t e = (keys : List IndexKey) × KeepsIndex image keys × EntryFor keys key t e

-- the entry's block keeps the rules of "The block", and holds these points
abbrev pub BlockHolds : (image : List ℕ) → Entry → List Point → Type 0
BlockHolds image e ps =
    KeepsBlock e.kind (record { min = e.min; max = e.max; offset = e.offset.0; size = e.size; bytes = block_of image e; points = ps })

-- "Reading then checks that one block, 12 to 16", and goes on with its points
abbrev pub OneBlockFault : (image key : List ℕ) → ℤ → (later : List Point → ℕ → Type 0) → ℕ → Type 0
OneBlockFault image key t later n =
    FindFault image key t n
    ⊎ ((e : Entry) × Covering image key t e × (BlockFault e (block_of image e) n ⊎ ((ps : List Point) × BlockHolds image e ps × later ps n)))

-- "a lent output too short for the whole result"
abbrev pub ReadBlockFault : (image key : List ℕ) → ℤ → (times values : List ℤ) → ℕ → Type 0
ReadBlockFault image key t times values =
    OneBlockFault image key t (λ ps. Unless ((length ps ≤ length times) × (length ps ≤ length values)) 19 Nothing)

-- "entry covers the time, no point there"
abbrev pub ReadPointFault : (image key : List ℕ) → ℤ → ℕ → Type 0
ReadPointFault image key t = OneBlockFault image key t (λ ps. UnlessSome (λ v. value_at t ps ≡ some v) 23 (λ v. Nothing))

-- "written image would pass 1,048,576 bytes"; a buffer too short for it
abbrev pub ImageFault : Meaning → (buffer : List ℕ) → ℕ → Type 0
ImageFault m buffer = Unless (length (writer_image m) ≤ 1_048_576) 22 (Unless (length (writer_image m) ≤ length buffer) 19 Nothing)

-- "roll breaks its rules anywhere"
abbrev pub WriteFault : (roll buffer : List ℕ) → ℕ → Type 0
WriteFault roll buffer = UnlessSome (λ m. KeepsRoll roll m) 20 (λ m. ImageFault m buffer)

-- "unroll then 19"
abbrev pub UnrollFault : (image buffer : List ℕ) → ℕ → Type 0
UnrollFault image buffer n =
    Fault image n ⊎ ((m : Meaning) × Keeps image m × Unless (length (writer_roll m) ≤ length buffer) 19 Nothing n)

-- "merge: a key has two kinds"; or each has one, and our writer's image of the merged points is judged
abbrev pub MergedFault : (older newer : Meaning) → (buffer : List ℕ) → ℕ → Type 0
MergedFault o m buffer n =
    (TwoKinds o m × (n ≡ 21))
    ⊎ (OneKind o m × ((w : Meaning) × (well_formed w ≡ true) × ((x : FilePoint) → Has w x ↔ MergedPoint o m x) × ImageFault w buffer n))

-- "Merge: the older image's full check, the newer's, 21, 22, 19."
abbrev pub MergeFault : (older newer buffer : List ℕ) → ℕ → Type 0
MergeFault older newer buffer n =
    Fault older n
    ⊎ ((o : Meaning) × Keeps older o × (Fault newer n ⊎ ((m : Meaning) × Keeps newer m × MergedFault o m buffer n)))

-- Not met by an act that tells one fault by another's number, or a later fault before an earlier.
pub record Exactly : Type 0 where
  pub check : (image : List ℕ) (n : ℕ) → AllBytes image → (check_answer image ≡ refuses n) ↔ Fault image n
  pub find : (image key : List ℕ) (t : ℤ) (n : ℕ) → AllBytes image → (find_answer image key t ≡ refuses n) ↔ FindFault image key t n
  pub read_block : (image key : List ℕ) (t : ℤ) (times values : List ℤ) (n : ℕ) → AllBytes image
      → (read_block_answer image key t times values ≡ refuses n) ↔ ReadBlockFault image key t times values n
  pub read_point : (image key : List ℕ) (t : ℤ) (n : ℕ) → AllBytes image → (read_point_answer image key t ≡ refuses n) ↔ ReadPointFault image key t n
  pub write : (roll buffer : List ℕ) (n : ℕ) → AllBytes roll → (write_answer roll buffer ≡ refuses n) ↔ WriteFault roll buffer n
  pub unroll : (image buffer : List ℕ) (n : ℕ) → AllBytes image → (unroll_answer image buffer ≡ refuses n) ↔ UnrollFault image buffer n
  pub merge : (older newer buffer : List ℕ) (n : ℕ) → AllBytes older → AllBytes newer
      → (merge_answer older newer buffer ≡ refuses n) ↔ MergeFault older newer buffer n
