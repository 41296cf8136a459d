-- The cells that the reader of a section is lent, after reading.
use Rattle.std.specs.Prelude.{◌≡◌, List}
use Rattle.format.specs.Refusals.{Outcome, ok, refused}
use Rattle.format.specs.Bytes.{overwrite}

-- what was read in the first cells, and the rest unchanged; after a refusal the cells are free
abbrev pub Laid : {A : Type 0} → Outcome (List A) → (old new : List A) → Type 0
Laid (ok xs) old new = new ≡ overwrite xs old
Laid (refused r place) old new = Unit {0}
