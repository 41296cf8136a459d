-- What a pass does, and bytes laid by it at a place of the image or of the index: one cannot stand for the other.
--   lays                 whether it lays
--   start_of              where the index starts in the image, known to a pass that lays
--   lay_image, lay_index   bytes laid at a place of the image, and at a place of the index
use Rattle.std.specs.Prelude.{ℕ, ◌+◌, Bool, true, false, List}
use Rattle.format.specs.declared.ImagePlace.{ImagePlace}
use Rattle.format.specs.declared.IndexPlace.{IndexPlace}
use Rattle.numbers.specs.Laying.{lay}
use Rattle.builder.specs.declared.Mode.{Mode}

abbrev pub lays : Mode → Bool
lays Mode.Measure = false
lays (Mode.Lay start) = true

abbrev pub start_of : Mode → ℕ
start_of Mode.Measure = 0
start_of (Mode.Lay start) = start.0

abbrev pub lay_image : Mode → (at : ImagePlace) → (new old : List ℕ) → List ℕ
lay_image mode at new old = lay (lays mode) at.0 new old

abbrev pub lay_index : Mode → (at : IndexPlace) → (new old : List ℕ) → List ℕ
lay_index mode at new old = lay (lays mode) (start_of mode + at.0) new old
