-- A values section of either kind: as many values as were asked for, one refusal only, and a section at another place.
--   values-count         as many values
--   read_values-stands    where it is refused, and at another place
use Prim.Native.Nat.{ℕ, ◌+◌}
use mathlib.Core.Path.{◌≡◌}
use mathlib.Core.List.{List}
use lib.ListN.{length}
use Rattle.format.specs.declared.Kind.{Kind}
use Rattle.format.specs.declared.Kind.TheVariants.{Integer, Boolean}
use Rattle.format.specs.declared.Refusal.TheVariants.{Values}
use Rattle.format.specs.Refusals.{ok}
use Rattle.format.specs.Block.{read_values}
use Rattle.section_laws.proofs.Integers.{read_integers-accepted}
use Rattle.section_laws.proofs.Places.{Stands, read_integers-stands}
use Rattle.booleans.proofs.Places.{read_booleans-stands}
use Rattle.booleans.proofs.Reading as reading

pub values-count : (kind : Kind) (n section : ℕ) (bs vs : List ℕ) → read_values kind n section bs ≡ ok vs → length vs ≡ n
values-count Integer n section bs vs e = (read_integers-accepted n section bs vs e).count
values-count Boolean n section bs vs e = (reading.read-values n section bs vs e).0

pub read_values-stands : (kind : Kind) (d n section : ℕ) (bs : List ℕ)
    → Stands Values d (section + length bs) (read_values kind n section bs) (read_values kind n (section + d) bs)
read_values-stands Integer d n section bs = read_integers-stands d n section bs
read_values-stands Boolean d n section bs = read_booleans-stands d n section bs
