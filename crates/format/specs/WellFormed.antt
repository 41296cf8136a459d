-- What a meaning can be: the theorems use it, and no act does.
--   good_value, good_point   of a kind
--   good_series             a key with its points in order
--   well_formed             series in order of their keys
--   Counted                each series has fewer than 2^64 points: what a roll's point count can state
use Rattle.std.specs.Prelude.{ℕ, ◌^◌, ◌<◌, Bool, not, ◌&&◌, length, ltb, leb}
use Rattle.std.specs.Int.Signed.{le_z}
use Rattle.format.specs.declared.Kind.{Kind}
use Rattle.format.specs.declared.Kind.TheVariants.{Integer, Boolean}
use Rattle.format.specs.Limits.{time_least, time_most}
use Rattle.format.specs.Choice.{every, is_empty, ascends, Each}
use Rattle.format.specs.KeyOrder.{key_fits}
use Rattle.format.specs.Meaning.{Point, Series, Meaning, point_before, series_before}

-- a value is a 64-bit pattern, of a boolean 0 or 1
abbrev pub good_value : Kind → ℕ → Bool
good_value Integer v = ltb v (2 ^ 64)
good_value Boolean v = leb v 1

-- a point of a kind: "Times are signed 64-bit whole numbers"
abbrev pub good_point : Kind → Point → Bool
good_point k p = le_z time_least p.time && le_z p.time time_most && good_value k p.value

-- a key of 1 to 1,024 bytes, and at least one point, with times strictly ascending
unfoldable pub good_series : Series → Bool
good_series s =
    key_fits (length s.key) && every (λ b. ltb b 256) s.key
    && not (is_empty s.points) && every (good_point s.kind) s.points && ascends point_before s.points

-- what a file or a roll can mean: good series with keys strictly ascending
unfoldable pub well_formed : Meaning → Bool
well_formed m = every good_series m && ascends series_before m

-- each series has fewer than 2^64 points
abbrev pub Counted : Meaning → Type 0
Counted m = Each (λ s. length s.points < 2 ^ 64) m
