-- What is asked of a file by key and time: "Find goes on to 17, 18. Reading then checks that one block, 12 to 16, then 23".
--   entries_of       the block entries of a key (17)
--   covers, covering_entry   the entry that covers a time (18)
--   find_entry, find_block    for a key and time
--   exact_value      the value at an exact time (23)
use Rattle.std.specs.Prelude.{ℕ, Bool, ◌&&◌, List, [], ◌∷◌, ℤ, if◌then◌else◌}
use Rattle.std.proofs.Math.Option.{Option, none, some}
use Rattle.std.specs.Int.Signed.{le_z}
use Rattle.format.specs.declared.Entry.{Entry}
use Rattle.format.specs.declared.Refusal.TheVariants.{NoSuchKey, NoEntry, NoPoint}
use Rattle.format.specs.Choice.{same_list}
use Rattle.format.specs.Refusals.{Outcome, ok, refused, ◌>>=◌}
use Rattle.format.specs.Meaning.{Point, value_at}
use Rattle.format.specs.Block.{read_block}
use Rattle.format.specs.Index.{IndexKey}
use Rattle.format.specs.File.{read_index, block_of}

-- the block entries of a key: "no such key (also a key asked for of impossible length)", which no key of an index can equal
unfoldable pub entries_of : List ℕ → List IndexKey → Outcome (List Entry)
entries_of key [] = refused NoSuchKey 0
entries_of key (k ∷ ks) = let later = entries_of key ks in if same_list k.key key then ok k.entries else later

-- an entry covers a time
abbrev pub covers : Entry → ℤ → Bool
covers e t = le_z e.min t && le_z t e.max

-- the entry that covers a time: "key known, no entry covers the time"
unfoldable pub covering_entry : ℤ → List Entry → Outcome Entry
covering_entry t [] = refused NoEntry 0
covering_entry t (e ∷ es) = let later = covering_entry t es in if covers e t then ok e else later

-- the index entry for a key and time
unfoldable pub find_entry : (image key : List ℕ) → (time : ℤ) → Outcome Entry
find_entry image key time = do
  keys ← read_index image
  entries ← entries_of key keys
  covering_entry time entries

-- the block for a key and time: its entry and its points
unfoldable pub find_block : (image key : List ℕ) → (time : ℤ) → Outcome (Entry × List Point)
find_block image key time = do
  e ← find_entry image key time
  points ← read_block e (block_of image e)
  ok (e, points)

-- a value that is there: "entry covers the time, no point there"
abbrev pub value_there : Option ℕ → Outcome ℕ
value_there none = refused NoPoint 0
value_there (some v) = ok v

-- the value at an exact time
unfoldable pub exact_value : ℤ → List Point → Outcome ℕ
exact_value t ps = value_there (value_at t ps)
