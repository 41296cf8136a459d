-- The roll, as it is laid (document 01, "The roll"): "for each key, ascending as above: key length, key, kind byte, point count (1 or more), then
-- each point: time, value. Lengths, counts, times and values are seven-bit numbers." A seven-bit number is a varint, 64-bit unsigned.
--   ValueBytes kind v bs          a value
--   FirstPoint kind p ps bs       a key's first point, and then those after it
--   LaterPoint, LaterPoints       points after a time
--   RollPoints kind ps bs         the points of a key
--   SeriesBytes s bs              a key with its points
--   RollBytes m bs                all series, end to end
--   KeepsRoll roll m              the roll keeps its rules, and means m
use Rattle.std.specs.Prelude.{ℕ, ◌^◌, ◌≤◌, ◌<◌, ◌≡◌, true, List, [], ◌∷◌, ◌++◌, length, ℤ, pos, ◌+ℤ◌}
use Rattle.std.specs.Int.Signed.{le_z}
use Rattle.format.specs.declared.Kind.{Kind}
use Rattle.format.specs.declared.Kind.TheVariants.{Integer, Boolean}
use Rattle.format.specs.Limits.{key_most, time_most}
use Rattle.format.specs.Choice.{ascends}
use Rattle.format.specs.Signed.{signed, zigzag}
use Rattle.format.specs.Varint.{varint}
use Rattle.format.specs.Kinds.{kind_byte}
use Rattle.format.specs.KeyOrder.{key_before}
use Rattle.format.specs.Meaning.{Point, Series, Meaning}
use Rattle.acceptance.specs.Sections.{Signed64}

-- "Integers are the value itself by the same rule; booleans 0 or 1."
abbrev pub ValueBytes : Kind → (v : ℕ) → (bs : List ℕ) → Type 0
ValueBytes Integer v bs = (v < 2 ^ 64) × (bs ≡ varint (zigzag (signed v)))
ValueBytes Boolean v bs = (v ≤ 1) × (bs ≡ varint v)

-- a point after the time before, and then others: "later ones are the plain difference, at least 1, no time passing 2^63 − 1"
pub record LaterPoint (kind : Kind) (before : ℤ) (p : Point) (bs later : List ℕ) : Type 0 where
  pub difference : ℕ
  pub value : List ℕ
  pub least : 1 ≤ difference
  pub time : p.time ≡ before +ℤ pos difference
  pub most : le_z p.time time_most ≡ true
  pub value_bytes : ValueBytes kind p.value value
  pub bytes : bs ≡ varint difference ++ (value ++ later)

abbrev pub LaterPoints : Kind → (before : ℤ) → List Point → (bs : List ℕ) → Type 0
LaterPoints kind before [] bs = bs ≡ []
LaterPoints kind before (p ∷ ps) bs = (later : List ℕ) × LaterPoint kind before p bs later × LaterPoints kind p.time ps later

-- "A key's first time is doubled by the integer rule above"
pub record FirstPoint (kind : Kind) (p : Point) (ps : List Point) (bs : List ℕ) : Type 0 where
  pub value : List ℕ
  pub later : List ℕ
  pub time : Signed64 p.time
  pub value_bytes : ValueBytes kind p.value value
  pub bytes : bs ≡ varint (zigzag p.time) ++ (value ++ later)
  pub points : LaterPoints kind p.time ps later

-- one point or more
abbrev pub RollPoints : Kind → List Point → (bs : List ℕ) → Type 0
RollPoints kind [] bs = ⊥
RollPoints kind (p ∷ ps) bs = FirstPoint kind p ps bs

-- key length (1 to 1,024), key, kind byte, point count, then the points
pub record SeriesBytes (s : Series) (bs : List ℕ) : Type 0 where
  pub points : List ℕ
  pub length_least : 1 ≤ length s.key
  pub length_most : length s.key ≤ key_most
  pub count : length s.points < 2 ^ 64
  pub point_bytes : RollPoints s.kind s.points points
  pub bytes : bs ≡ varint (length s.key) ++ (s.key ++ (kind_byte s.kind ∷ (varint (length s.points) ++ points)))

-- "Nothing is left over."
abbrev pub RollBytes : Meaning → (bs : List ℕ) → Type 0
RollBytes [] bs = bs ≡ []
RollBytes (s ∷ m) bs = (first later : List ℕ) × SeriesBytes s first × (bs ≡ first ++ later) × RollBytes m later

-- keys ascend strictly
pub record KeepsRoll (roll : List ℕ) (m : Meaning) : Type 0 where
  pub bytes : RollBytes m roll
  pub ascending : ascends (λ a b. key_before a.key b.key) m ≡ true
